use Rattle.std.proofs.Common.{◌≡◌, drop}
use Rattle.kc_asm_symbols.specs.Meanings.{with_taken}
use Rattle.kc_asm_symbols.specs.Tables.{answers}
use Rattle.kc_asm_symbols.specs.Walk.{shared}
use Rattle.kc_asm_symbols.proofs.earlier.Earlier.take.Given as goal

abbrev pub invariant-loop-name : goal.invariant-loop-name
invariant-loop-name l = record {
  same : l.self.names ≡ l.initial.self.names;
  here : l.self.here ≡ l.initial.self.here;
  latest : with_taken (answers (shared l.initial.self.names).numbers (shared l.initial.self.names).taken) (drop l.name-index l.names) (answers (shared l.initial.self.names).numbers l.self.latest)
      ≡ with_taken (answers (shared l.initial.self.names).numbers (shared l.initial.self.names).taken) l.names (answers (shared l.initial.self.names).numbers l.initial.self.latest);
}
