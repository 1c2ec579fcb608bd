use Rattle.std.proofs.Common.{◌≡◌, ℕ, ◌+◌, ◌≤◌, ◌++◌, drop}
use Rattle.kc_expr.specs.declared.values.Value.{Value}
use Rattle.kc_asm_symbols.specs.declared.segments.Segment.{Segment}
use Rattle.kc_asm_symbols.specs.Located.{located_by, located_from}
use Rattle.kc_asm_symbols.specs.Externals.{externals, externals_from}
use Rattle.kc_asm_symbols.proofs.external_names.externals.Given as goal

abbrev pub invariant-loop-stmt : goal.invariant-loop-stmt
invariant-loop-stmt l = record {
  few : l.segment.count ≤ l.stmt-index + 3;
  so_far : (values : ℕ → Segment → Value) → l.taken.items ++ externals_from l.used (located_from values l.stmt-index l.segment (drop l.stmt-index l.stmts)) ≡ externals (located_by values l.stmts);
}
