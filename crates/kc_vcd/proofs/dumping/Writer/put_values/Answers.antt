use Rattle.std.proofs.Common.{◌≡◌, None, sym, ap, ◌∙◌, rules}
use Rattle.kc_vcd.specs.Writing.{Written}
use Rattle.kc_vcd.proofs.Samples.{all_behind}
use Rattle.kc_vcd.proofs.dumping.Writer.put_values.Goals as goal

pub returns-clause-samples : goal.returns-clause-samples
returns-clause-samples c =
    let over : c.next_value.result ≡ None = search rules in
    ap (λ (w : Written). w.samples) (c.next_value.ensures.kept over)
    ∙ sym (all_behind c.args.at c.loop-sample.self.samples (c.next_value.ensures.none over))
    ∙ c.loop-sample.invariant.left
