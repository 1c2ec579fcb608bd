use Rattle.std.proofs.Common.{◌∷◌, drop, ap, ◌∙◌}
use Rattle.kc_events.specs.Steps.{Ends}
use Rattle.kc_vcd.specs.Writing.{Written, with_steps}
use Rattle.kc_vcd.proofs.Written.{reported_end}
use Rattle.kc_vcd.proofs.dumping.Writer.end.Goals as goal

pub returns : goal.returns
returns c = λ more.
    let w : Written = record {
      shown = c.self.inside.shown.now;
      text = c.self.inside.text.items;
      stamped = c.self.inside.stamped;
      base = c.self.inside.base;
      first = c.self.inside.is_first;
      levels = c.self.inside.levels;
      samples = drop c.self.inside.taken c.self.inside.shown.now.samples;
    } in
    (λ i. with_steps (record w { base = c.behind-self-inside.ensures i }) more)
    ∙ reported_end w c.args.last more
    ∙ ap (λ (v : Written). with_steps v (Ends c.args.last ∷ more)) c.self.view_is
