use Rattle.std.proofs.Common.{◌∷◌, ◌++◌, drop, refl, ap, ◌∙◌}
use Rattle.kc_vcd.specs.Changes.{Timed}
use Rattle.kc_vcd.specs.Dump.{stamp, change_text, texts}
use Rattle.kc_vcd.specs.Writing.{Written, Kept}
use Rattle.kc_vcd.proofs.Written.{put_one}
use Rattle.kc_vcd.proofs.dumping.Writer.put.Goals as goal

pub returns-clause-put : goal.returns-clause-put
returns-clause-put c = λ more.
    let w : Written = record {
      shown = c.self.inside.shown.now;
      text = c.self.inside.text.items;
      stamped = c.self.inside.stamped;
      base = c.self.inside.base;
      first = c.self.inside.is_first;
      levels = c.self.inside.levels;
      samples = drop c.self.inside.taken c.self.inside.shown.now.samples;
    } in
    let now : Timed = record { at = c.args.at; change = c.args.change } in
    let text = c.in_ok-put_change.ensures
    ∙ ap (λ t. t ++ change_text c.args.change) (c.in_ok-put_stamp.ensures ∙ ap (λ (k : Kept). c.self.inside.text.items ++ stamp k.length c.self.inside.stamped c.args.at) c.shown.view_is) in
    put_one w (record w { text = c.put_change.new.text.items; stamped = c.args.at }) now refl refl text more
    ∙ ap (λ (v : Written). v.text ++ texts v.shown.length v.stamped (now ∷ more)) c.self.view_is
