use Rattle.std.proofs.Common.{◌+◌, ◌≤◌, drop}
use Rattle.kc_asm_layout.proofs.Steps.{Walked}
use Rattle.kc_asm_layout.proofs.walk.statement_sizes.Given as goal

abbrev pub invariant-loop-i : goal.invariant-loop-i
invariant-loop-i l = record {
  few : l.segment.count ≤ l.i + 3;
  walked : Walked l.look l.own l.size_records.items l.i l.segment l.stmts (drop l.i l.stmts);
}
