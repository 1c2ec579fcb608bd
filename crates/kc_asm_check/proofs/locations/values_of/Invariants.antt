use Rattle.std.proofs.Common.{◌≡◌, ◌+◌, ◌≤◌, ◌++◌, drop}
use Rattle.kc_asm_symbols.specs.Located.{located, located_from, place_values, value_at}
use Rattle.kc_asm_check.specs.Checking.{place_at}
use Rattle.kc_asm_check.proofs.locations.values_of.Given as goal

abbrev pub invariant-loop-i : goal.invariant-loop-i
invariant-loop-i l = record {
  few : l.segment.count ≤ l.i + 3;
  so_far : l.values.items ++ place_values (located_from (λ i g. value_at g (place_at l.locations i)) l.i l.segment (drop l.i l.stmts)) ≡ place_values (located (place_at l.locations) l.stmts);
}
