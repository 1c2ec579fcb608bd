-- What stands in a piece after relocatable bytes were written at its end.
use Rattle.std.specs.Prelude.{◌≡◌, ℕ, true, ◌+◌, ◌-◌, nat_lt, if◌then◌else◌, List, [], ◌∷◌, ◌++◌, length, slice_get}
use Rattle.kc_asm_encode.specs.declared.relocatable_byte.RelocatableByte.{RelocatableByte}
use Rattle.kc_asm_section.specs.declared.part.Mark.{Mark}
use Rattle.kc_asm_section.specs.Section.{Section, is_section, relocatable_byte_at, mark, put, written}

-- the relocatable bytes stand one after the other behind what stood
pub record IsLonger (t : Section) (relocatable_bytes : List RelocatableByte) (u : Section) : Type 0 where
  pub kind : u.kind ≡ t.kind
  pub at : u.at ≡ t.at
  pub size : u.length ≡ t.length + length relocatable_bytes
  pub stand : (i : ℕ) → relocatable_byte_at u i ≡ (if nat_lt i t.length then relocatable_byte_at t i else slice_get relocatable_bytes (i - t.length))

-- a statement with relocatable bytes has one mark more
abbrev pub marks_after : ℕ → List RelocatableByte → Section → List Mark
marks_after line [] t = t.marks
marks_after line (o ∷ os) t = t.marks ++ mark t.length line ∷ []

abbrev pub WrittenStands : Type 0
WrittenStands =
    (t : Section) → is_section t ≡ true → (line : ℕ) (relocatable_bytes : List RelocatableByte)
    → IsLonger t relocatable_bytes (written line relocatable_bytes t) × ((written line relocatable_bytes t).marks ≡ marks_after line relocatable_bytes t)

abbrev pub PutStands : Type 0
PutStands = (t : Section) → is_section t ≡ true → (relocatable_byte : RelocatableByte) → IsLonger t (relocatable_byte ∷ []) (put relocatable_byte t)
