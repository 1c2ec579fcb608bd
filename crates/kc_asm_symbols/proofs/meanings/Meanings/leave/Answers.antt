use Rattle.std.proofs.Common.{sym, ap, ◌∙◌}
use Rattle.kc_asm_symbols.specs.Tables.{answers, is_defined_by_set}
use Rattle.kc_asm_symbols.specs.Meanings.{behind}
use Rattle.kc_asm_symbols.specs.Walk.{shared}
use Rattle.kc_asm_symbols.proofs.WalkLemmas.{goes_behind}
use Rattle.kc_asm_symbols.proofs.meanings.Meanings.leave.Goals as goal

pub returns : goal.returns
returns c = λ all before l is_at same.
    let e = c.args.self.now.earlier in
    let names = c.in_ok-leave.ensures.names in
    record {
      earlier = goes_behind e c.leave.new.self all before l is_at.behind.earlier names
          (c.in_ok-leave.ensures.latest ∙ (λ i. behind (answers (shared e.names).numbers (shared e.names).taken) (sym same i) (is_at.here i) (answers (shared e.names).numbers e.latest)));
      last = ap (λ n. answers (shared n).numbers c.args.self.now.last) names ∙ is_at.behind.last;
      set = ap (λ n. is_defined_by_set (shared n).numbers) names ∙ is_at.behind.set;
    }
