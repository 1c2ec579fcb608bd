use Rattle.std.proofs.Common.{◌≡◌, ◌+◌, ◌≤◌, ◌++◌, drop}
use Rattle.kc_asm_symbols.specs.Located.{located_by, located_from, place_values}
use Rattle.kc_asm_layout.specs.StatementSizes.{at_zero}
use Rattle.kc_asm_layout.proofs.walk.zeros.Given as goal

abbrev pub invariant-loop-i : goal.invariant-loop-i
invariant-loop-i l = record {
  few : l.segment.count ≤ l.i + 3;
  so_far : l.values.items ++ place_values (located_from at_zero l.i l.segment (drop l.i l.stmts)) ≡ place_values (located_by at_zero l.stmts);
}
