use Rattle.std.proofs.Common.{◌≡◌, ℕ, List, drop}
use Rattle.kc_asm_symbols.specs.Located.{located_by, listed}
use Rattle.kc_asm_symbols.specs.Meanings.{label_answer}
use Rattle.kc_asm_symbols.specs.Tables.{answers}
use Rattle.kc_asm_symbols.specs.Walk.{shared}
use Rattle.kc_asm_symbols.proofs.EarlierLemmas.{cleaned, Labelling}
use Rattle.kc_asm_symbols.proofs.earlier.label_table.Given as goal

abbrev pub invariant-loop-i : goal.invariant-loop-i
invariant-loop-i l = record {
  clean : (q : List ℕ) → cleaned (answers (shared l.names).numbers l.table q) ≡ answers (shared l.names).numbers l.table q;
  labels : Labelling l.values l.i (drop l.i l.stmts) (answers (shared l.names).numbers l.table) (label_answer (located_by (listed l.values) l.stmts));
}
