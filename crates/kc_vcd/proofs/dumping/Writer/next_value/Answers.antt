use Rattle.std.proofs.Common.{◌<◌, drop, sym, ap, ◌∙◌, rules}
use Rattle.kc_base.specs.Series.{up_to}
use Rattle.kc_vcd.specs.Writing.{Written, Kept}
use Rattle.kc_vcd.proofs.Samples.{next_held}
use Rattle.kc_vcd.proofs.dumping.Writer.next_value.Goals as goal

pub returns-in_default-clause-none : goal.returns-in_default-clause-none
returns-in_default-clause-none c = λ none.
    let less : c.args.at < c.in-Some.sample.now.at = search rules in
    ap (up_to (λ s. s.at) c.args.at)
    (ap (λ (w : Written). w.samples) (sym c.self.view_is)
    ∙ ap (drop c.self.inside.taken) (ap (λ (k : Kept). k.samples) (sym c.shown.view_is) ∙ sym c.samples.ensures.samples))
    ∙ next_held c.samples.result.now c.self.inside.taken c.args.at c.in-Some.sample c.samples.ensures.values.order c.in-Some.ensures.lookup less
