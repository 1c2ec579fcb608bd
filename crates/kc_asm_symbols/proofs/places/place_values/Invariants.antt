use Rattle.std.proofs.Common.{◌≡◌, ◌+◌, ◌≤◌, ◌++◌, drop}
use Rattle.std.specs.Prelude.{slice_index}
use Rattle.kc_asm_symbols.specs.Located.{located, located_from, place_values, value_at}
use Rattle.kc_asm_symbols.proofs.places.place_values.Given as goal

abbrev pub invariant-loop-i : goal.invariant-loop-i
invariant-loop-i l = record {
  few : l.segment.count ≤ l.i + 3;
  so_far : l.values.items ++ place_values (located_from (λ i g. value_at g (slice_index l.places i)) l.i l.segment (drop l.i l.stmts)) ≡ place_values (located (slice_index l.places) l.stmts);
}
