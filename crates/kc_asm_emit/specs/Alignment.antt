-- To which places statements go first: words and long words stand at even places, and what DSL reserves among registers at
-- places divisible by 4 (after the MCS-96 Macro Assembler User's Guide, "Data Definition" and "Storage Reservation"; 80C196KC
-- User's Manual, "Long-Words").
use Rattle.std.specs.Prelude.{ℕ, ◌-◌, ◌%◌, ◌==◌, ◌&&◌, nat_le, if◌then◌else◌}
use Rattle.kc_obj_module.specs.declared.parts.SegKind.{SegKind}
use Rattle.kc_obj_module.specs.Pieces.{is_register_kind}
use Rattle.kc_source_statement.specs.Trees.{ActionTree, Bare, Module, Cseg, Dseg, Rseg, Sseg, Public, Extrn, Equ, Set, Define, Reserve, Org, Even, End, Operation}

-- the place of the statement, in a segment of a kind, is divisible by this; EVEN goes on to an even place itself
abbrev pub alignment : SegKind → ActionTree → ℕ
alignment kind (Define size items) = if nat_le size 1 then 1 else 2
alignment kind (Reserve size count) =
    if nat_le size 1 then 1 else if (size == 4) && is_register_kind kind then 4 else 2
alignment kind Bare = 1
alignment kind (Module name stack) = 1
alignment kind (Cseg at) = 1
alignment kind (Dseg at) = 1
alignment kind (Rseg at) = 1
alignment kind (Sseg size) = 1
alignment kind (Public names) = 1
alignment kind (Extrn names) = 1
alignment kind (Equ name x) = 1
alignment kind (Set name x) = 1
alignment kind (Org x) = 1
alignment kind Even = 1
alignment kind End = 1
alignment kind (Operation word args) = 1

-- how many bytes of filling lead from a place to the next one that is divisible
abbrev pub gap : ℕ → ℕ → ℕ
gap place align = (align - place % align) % align
