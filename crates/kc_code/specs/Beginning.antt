-- What decoding says of the beginning of some bytes: an instruction, the beginning of one, or an opcode without one
-- (80C196KC User's Manual, "Opcode Map"; what an opcode without instruction does is this kit's own).
use Rattle.std.specs.Prelude.{◌≡◌, ◌≢◌, ℕ, Bool, true, false, not, ◌==◌, ◌≤◌, ◌&&◌, ◌||◌, Option, Some, None, List, [], ◌∷◌, ◌++◌, length, take}
use Rattle.kc_isa.specs.declared.insn.Insn.{Insn}
use Rattle.kc_isa.specs.Names.{Shown, row_at}
use Rattle.kc_isa.specs.Formed.{is_formed, length_of}
use Rattle.kc_code.specs.declared.reader.Decoded.{Decoded}
use Rattle.kc_code.specs.declared.reader.Decoded.TheVariants.{Insn as Whole, Short}
use Rattle.kc_base.specs.Bytes.{IsBytes}
use Rattle.kc_code.specs.Reading.{decode_of}
use Rattle.kc_code.specs.Spelling.{spelling, is_in_range}
use Rattle.kc_code.specs.Ranges.{InsnHas}

-- what holds of an instruction that is reported, with its length
abbrev pub IfWhole : Decoded → (Insn → ℕ → Type 0) → Type 0
IfWhole (Whole i n) P = P i n
IfWhole _ P = Unit {0}

-- a well-formed instruction whose numbers are in range, with its length and its own spelling in front
pub record IsInFront (bytes : List ℕ) (i : Insn) (n : ℕ) : Type 0 where
  pub formed : is_formed i ≡ true
  pub in_range : is_in_range i ≡ true
  pub has : InsnHas i
  pub reported : n ≡ length_of i
  pub within : n ≤ length bytes
  pub spelled : take n bytes ≡ spelling i

-- with some more bytes they are an instruction's, and all of them
pub record IsProperBeginning (bytes : List ℕ) : Type 0 where
  pub insn : Insn
  pub next : ℕ
  pub rest : List ℕ
  pub are_bytes : IsBytes (next ∷ rest)
  pub whole : decode_of (bytes ++ (next ∷ rest)) ≡ Whole insn (length (bytes ++ (next ∷ rest)))

abbrev pub is_gap : Option Shown → Bool
is_gap None = true
is_gap (Some row) = false

abbrev pub is_gap_behind : List ℕ → Bool
is_gap_behind [] = false
is_gap_behind (opcode ∷ rest) = is_gap (row_at opcode true)

-- EEH, or FEH before an opcode that has no signed form
abbrev pub is_undefined : List ℕ → Bool
is_undefined [] = false
is_undefined (opcode ∷ rest) = opcode == 0xEE || (opcode == 0xFE && is_gap_behind rest)

-- any other opcode without a row
abbrev pub is_unimplemented : List ℕ → Bool
is_unimplemented [] = false
is_unimplemented (opcode ∷ rest) = not (opcode == 0xEE) && (not (opcode == 0xFE) && is_gap (row_at opcode false))

-- what stands behind an instruction, or behind an opcode without one, does not matter
abbrev pub RestDoesNotMatter : Type 0
RestDoesNotMatter = (bytes rest : List ℕ) → IsBytes bytes → decode_of bytes ≢ Short → decode_of (bytes ++ rest) ≡ decode_of bytes
