use Rattle.std.proofs.Common.{◌≡◌, ◌≤◌, length, drop}
use Rattle.kc_asm_symbols.specs.Externals.{external_in}
use Rattle.kc_asm_symbols.specs.Tables.{answers}
use Rattle.kc_asm_symbols.proofs.names.external_table.Given as goal

abbrev pub invariant-loop-left : goal.invariant-loop-left
invariant-loop-left l = record {
  within : l.left ≤ length l.taken;
  table : answers l.numbers l.table ≡ external_in l.left (drop l.left l.taken);
}

abbrev pub decreases-loop-left : goal.decreases-loop-left
decreases-loop-left l = l.left
