-- How many pieces there are.
use Rattle.std.specs.Prelude.{ℕ, ◌+◌, ◌≤◌, List, length}
use Rattle.kc_asm_section.specs.Section.{Section}
use Rattle.kc_asm_section.specs.declared.kept.Kept.{Kept}
use Rattle.kc_asm_section.specs.Order.{pieces_of}

abbrev pub FewPieces : Type 0
FewPieces = (kept : Kept) (parts : List Section) (stack : ℕ) → length (pieces_of kept parts stack) ≤ length parts + 1
