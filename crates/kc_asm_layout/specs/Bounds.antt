-- How large the numbers of a table of sizes are: how far one statement goes on, what its place is divisible by, and the number of its
-- piece (this kit's own).
use Rattle.std.specs.Prelude.{ℕ, ◌<◌, ◌≤◌, ◌^◌, List, length, All}
use Rattle.kc_asm_emit.specs.Seen.{most}
use Rattle.kc_asm_layout.specs.declared.size_record.Body.{Body}
use Rattle.kc_asm_layout.specs.declared.size_record.Body.TheVariants.{Bytes, Upto, Even, Branch}
use Rattle.kc_asm_layout.specs.declared.size_record.SizeRecord.{SizeRecord}

abbrev pub HasFewBytes : Body → Type 0
HasFewBytes (Bytes n) = n ≤ most
HasFewBytes (Upto place) = Unit {0}
HasFewBytes Even = Unit {0}
HasFewBytes (Branch kind anchor) = Unit {0}

abbrev pub IsBounded : SizeRecord → Type 0
IsBounded n = (n.segment.piece < 2 ^ 17) × (n.alignment ≤ 4) × HasFewBytes n.body

-- the size records of a module, of which there are at most 65,536
abbrev pub AreBounded : List SizeRecord → Type 0
AreBounded ns = (length ns ≤ 65536) × All IsBounded ns
