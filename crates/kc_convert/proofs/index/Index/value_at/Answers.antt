use Rattle.std.proofs.Common.{◌≡◌, ◌==◌, sym, ◌∙◌, ap, subst}
use Rattle.std.specs.List.Sorted.{IsNonDecreasingBy}
use Rattle.std.proofs.lemmas.List.Kept.{IsNonDecreasingBy-filter}
use Rattle.kc_convert.specs.Samples.{of_channel}
use Rattle.kc_convert.specs.Index.{list_of}
use Rattle.kc_convert.proofs.index.Index.value_at.Goals as goal

pub value_in-requires : goal.value_in-requires
value_in-requires c =
    let own : c.own_samples-own.result.now ≡ of_channel c.args.channel c.args.self.now.samples.items =
    c.own_samples-own.ensures ∙ ap (λ l. list_of l c.args.channel) c.as_slice.ensures.value ∙ c.requires.lists c.args.channel in
    subst (λ l. IsNonDecreasingBy (λ s. s.at) l) (sym own)
    (IsNonDecreasingBy-filter (λ s. s.at) (λ s. s.channel == c.args.channel) c.args.self.now.samples.items c.requires.values.order)
