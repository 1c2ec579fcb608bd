use Rattle.std.proofs.Common.{◌++◌, ap, sym, ◌∙◌}
use Rattle.kc_asm_symbols.specs.Meanings.{in_all}
use Rattle.kc_asm_symbols.specs.Tables.{is_marked, updated}
use Rattle.std.specs.Prelude.{true}
use Rattle.kc_asm.proofs.GivenLemmas.{given_again, given_behind}
use Rattle.kc_asm_symbols.specs.declared.table.Marks.{Marks}
use Rattle.kc_asm.proofs.publics.Publics.give.Goals as goal

pub returns-then-has : goal.returns-then-has
returns-then-has c = λ all before rest behind.
    ap (λ ps. c.args.self.now.items.items ++ ps) (sym (given_again (in_all all) (is_marked c.args.self.now.seen) c.args.name.now rest (sym c.has.ensures ∙ c.if-has.true)))

pub returns : goal.returns
returns c = λ all before rest behind.
    given_behind (in_all all) (is_marked c.args.self.now.seen) (is_marked c.mark.new.self) c.args.name.now rest c.args.self.now.items.items c.push.new.self.items.items
    (sym c.has.ensures ∙ c.if-has.false) (c.in_ok-push.ensures.items all before behind)
    (c.in_ok-mark.ensures ∙ ap (λ (m : Marks). updated c.args.name.now true (is_marked m)) c.in_ok-push.ensures.seen)
