use Rattle.std.proofs.Common.{◌≡◌, drop}
use Rattle.kc_asm_symbols.specs.Located.{located_by, listed}
use Rattle.kc_asm_symbols.proofs.WalkLemmas.{Walking}
use Rattle.kc_asm_symbols.proofs.meanings.through.Given as goal

abbrev pub invariant-loop-i : goal.invariant-loop-i
invariant-loop-i l = record {
  names : l.earlier.names ≡ l.initial.earlier.names;
  walking : Walking l.earlier l.values (located_by (listed l.values) l.stmts) l.i (drop l.i l.stmts);
}
