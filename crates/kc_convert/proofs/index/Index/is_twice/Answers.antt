use Rattle.std.proofs.Common.{◌≡◌, ◌-◌, length, sym, ◌∙◌, ap}
use Rattle.std.specs.Prelude.{slice_get}
use Rattle.kc_convert.specs.Samples.{of_channel}
use Rattle.kc_convert.specs.Index.{list_of}
use Rattle.kc_convert.proofs.SampleLaws.{is_at, twice_by_last}
use Rattle.kc_convert.proofs.index.Index.is_twice.Goals as goal

pub returns-in-Some : goal.returns-in-Some
returns-in-Some c =
    let own : c.own_samples.result.now ≡ of_channel c.args.sample.channel c.args.self.now.samples.items =
    c.own_samples.ensures ∙ ap (λ l. list_of l c.args.sample.channel) c.as_slice.ensures.value ∙ c.requires.whole.lists c.args.sample.channel in
    let last = c.in-Some.ensures.value ∙ ap (λ l. slice_get l (length l - 1)) own in
    ap (λ o. is_at o c.args.sample.at) last ∙ sym (twice_by_last c.args.self.now.samples.items c.args.sample c.requires.whole.values.order c.requires.later)

pub returns-in-None : goal.returns-in-None
returns-in-None c =
    let own : c.own_samples.result.now ≡ of_channel c.args.sample.channel c.args.self.now.samples.items =
    c.own_samples.ensures ∙ ap (λ l. list_of l c.args.sample.channel) c.as_slice.ensures.value ∙ c.requires.whole.lists c.args.sample.channel in
    let last = c.in-None.ensures.value ∙ ap (λ l. slice_get l (length l - 1)) own in
    ap (λ o. is_at o c.args.sample.at) last ∙ sym (twice_by_last c.args.self.now.samples.items c.args.sample c.requires.whole.values.order c.requires.later)
