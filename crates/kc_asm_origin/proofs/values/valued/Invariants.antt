use Rattle.std.proofs.Common.{◌+◌, ◌≤◌, drop}
use Rattle.kc_asm_origin.proofs.Walks.{Walked}
use Rattle.kc_asm_origin.proofs.values.valued.Given as goal

abbrev pub invariant-loop-i : goal.invariant-loop-i
invariant-loop-i l = record {
  few : l.segment.count ≤ l.i + 3;
  walked : Walked l.meanings l.line l.code l.i l.segment l.stmts (drop l.i l.stmts);
}
