use Rattle.std.proofs.Common.{◌≡◌, ◌<◌, length, subst}
use Rattle.kc_convert.proofs.SampleLaws.{next_later}
use Rattle.kc_convert.proofs.analog.index_copied.Goals as goal

pub push-requires-clause-later : goal.push-requires-clause-later
push-requires-clause-later c =
    let items : c.as_slice-sample-items.result.now ≡ c.args.index.now.samples.items = c.as_slice-sample-items.ensures.value in
    let lt : c.loop-sample.sample-index < length c.args.index.now.samples.items =
    subst (λ l. c.loop-sample.sample-index < length l) items c.loop-sample-test.true in
    rw (c.loop-sample.invariant.0, items) (next_later c.args.index.now.samples.items c.loop-sample.sample-index _ c.requires.values.order lt)
