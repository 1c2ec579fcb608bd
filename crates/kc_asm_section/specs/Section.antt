-- A piece of a module while it is written: relocatable bytes at some of its offsets
-- (after the MCS-96 Macro Assembler User's Guide, "Program Segments").
use Rattle.std.specs.Prelude.{ℕ, Bool, ◌+◌, ◌==◌, ◌&&◌, nat_le, if◌then◌else◌, Option, Some, None, List, [], ◌∷◌, ◌++◌, map}
use Rattle.kc_obj_module.specs.declared.parts.SegKind.{SegKind}
use Rattle.kc_asm_encode.specs.declared.relocatable_byte.RelocatableByte.{RelocatableByte}
use Rattle.kc_asm_section.specs.declared.part.PlacedByte.{PlacedByte}
use Rattle.kc_asm_section.specs.declared.part.Mark.{Mark}

-- what is reserved or passed over has no placed byte; a mark reports where the relocatable bytes of a statement begin
pub record Section : Type 0 where
  pub kind : SegKind
  pub at : Option ℕ
  pub length : ℕ
  pub placed_bytes : List PlacedByte
  pub marks : List Mark

abbrev pub section_of : SegKind → Option ℕ → ℕ → List PlacedByte → List Mark → Section
section_of kind at size placed_bytes marks = record { kind = kind; at = at; length = size; placed_bytes = placed_bytes; marks = marks }

-- the offsets rise, from one on and below another one
unfoldable pub rise : ℕ → List ℕ → ℕ → Bool
rise from [] to = nat_le from to
rise from (o ∷ os) to = nat_le from o && rise (o + 1) os to

abbrev pub placed_byte_offsets : List PlacedByte → List ℕ
placed_byte_offsets placed_bytes = map (λ c. c.offset) placed_bytes

abbrev pub mark_offsets : List Mark → List ℕ
mark_offsets marks = map (λ m. m.offset) marks

-- placed bytes and marks stand within the length, one at an offset
abbrev pub is_section : Section → Bool
is_section t = nat_le t.length 65536 && rise 0 (placed_byte_offsets t.placed_bytes) t.length && rise 0 (mark_offsets t.marks) t.length

-- what stands at an offset
unfoldable pub placed_byte_at : List PlacedByte → ℕ → Option RelocatableByte
placed_byte_at [] offset = None
placed_byte_at (c ∷ cs) offset = if c.offset == offset then Some c.relocatable_byte else placed_byte_at cs offset

abbrev pub relocatable_byte_at : Section → ℕ → Option RelocatableByte
relocatable_byte_at t offset = placed_byte_at t.placed_bytes offset

-- ---- writing at the end

abbrev pub blank : SegKind → Option ℕ → Section
blank kind at = section_of kind at 0 [] []

abbrev pub placed_byte : ℕ → RelocatableByte → PlacedByte
placed_byte offset relocatable_byte = record { offset = offset; relocatable_byte = relocatable_byte }

abbrev pub mark : ℕ → ℕ → Mark
mark offset line = record { offset = offset; line = line }

abbrev pub put : RelocatableByte → Section → Section
put relocatable_byte t = section_of t.kind t.at (t.length + 1) (t.placed_bytes ++ placed_byte t.length relocatable_byte ∷ []) t.marks

abbrev pub skipped : ℕ → Section → Section
skipped count t = section_of t.kind t.at (t.length + count) t.placed_bytes t.marks

unfoldable pub laid : List RelocatableByte → Section → Section
laid [] t = t
laid (o ∷ os) t = laid os (put o t)

-- the first relocatable byte of the statement on a line
abbrev pub begun : ℕ → RelocatableByte → Section → Section
begun line relocatable_byte t =
    section_of t.kind t.at (t.length + 1) (t.placed_bytes ++ placed_byte t.length relocatable_byte ∷ []) (t.marks ++ mark t.length line ∷ [])

-- all relocatable bytes of the statement on a line
abbrev pub written : ℕ → List RelocatableByte → Section → Section
written line [] t = t
written line (o ∷ os) t = laid os (begun line o t)
