use Rattle.std.proofs.Common.{sym, ap, ◌∙◌}
use Rattle.std.specs.Prelude.{Some}
use Rattle.kc_asm_origin.proofs.Uses.{found_already, found_none, found_now}
use Rattle.kc_asm_origin.proofs.names.Search.find.Goals as goal

pub returns-then-is_some-clause-found : goal.returns-then-is_some-clause-found
returns-then-is_some-clause-found c = λ all earlier known before. found_already c.args.self.now.found _ (sym c.is_some.ensures ∙ c.if-is_some.true)

pub returns-then-refused-clause-found : goal.returns-then-refused-clause-found
returns-then-refused-clause-found c = λ all earlier known before.
    ap Some c.in_ok-reported.ensures
    ∙ found_now c.args.self.now.found _ c.args.name.now (sym c.is_some.ensures ∙ c.if-is_some.false) (sym (c.is_refused-refused.ensures all earlier known before) ∙ c.if-refused.true)

pub returns-clause-found : goal.returns-clause-found
returns-clause-found c = λ all earlier known before.
    found_none c.args.self.now.found _ c.args.name.now (sym c.is_some.ensures ∙ c.if-is_some.false) (sym (c.is_refused-refused.ensures all earlier known before) ∙ c.if-refused.false)
