use Rattle.std.proofs.Common.{◌≡◌, ◌++◌, drop}
use Rattle.kc_asm_symbols.specs.declared.segments.Segment.{Segment}
use Rattle.kc_asm_symbols.specs.Located.{located_by, located_from, place_values}
use Rattle.kc_asm_layout.specs.StatementSizes.{on_its_own}
use Rattle.kc_asm_layout.proofs.walk.owns.Given as goal

abbrev pub invariant-loop-i : goal.invariant-loop-i
invariant-loop-i l = (g : Segment) × (l.values.items ++ place_values (located_from on_its_own l.i g (drop l.i l.stmts)) ≡ place_values (located_by on_its_own l.stmts))
