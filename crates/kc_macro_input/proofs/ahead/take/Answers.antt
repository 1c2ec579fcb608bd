use Rattle.std.proofs.Common.{rules, ◌≡◌, [], sym, ap, ◌∙◌}
use Rattle.kc_macro_input.specs.Ahead.{flat}
use Rattle.kc_macro_input.proofs.AheadLemmas.{flat_none}
use Rattle.kc_macro_input.proofs.ahead.take.Goals as goal

pub returns-clause-text : goal.returns-clause-text
returns-clause-text c =
    let nothing : c.loop-held.stack.items ≡ [] = search rules in
    sym c.loop-held.invariant ∙ ap flat nothing ∙ flat_none

pub returns-clause-none : goal.returns-clause-none
returns-clause-none c =
    let nothing : c.pop.new.self.items ≡ [] = search rules in
    ap flat nothing ∙ flat_none
