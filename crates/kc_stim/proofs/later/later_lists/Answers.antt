use Rattle.std.proofs.Common.{◌≡◌, ◌∙◌, ap, sym, subst, map, arith, take_all, Some}
use Rattle.std.specs.List.Sorted.{IsNonDecreasingBy}
use Rattle.std.proofs.lemmas.Option.{slice_get-get_or}
use Rattle.kc_stim.specs.Drives.{from_on}
use Rattle.kc_stim.specs.Index.{items_in, list_of}
use Rattle.kc_stim.proofs.LaterLaws.{itemized, lists_cut}
use Rattle.kc_stim.proofs.later.later_lists.Goals as goal

pub later_stimuli-requires : goal.later_stimuli-requires
later_stimuli-requires c =
    let here : list_of c.args.by_pin.now c.loop-own.own-index ≡ c.as_slice.result.now =
    ap items_in (slice_get-get_or c.args.by_pin.now c.loop-own.own-index c.own-item.result (omega arith) ∙ ap Some (sym c.own-item.is)) ∙ sym c.as_slice.ensures.value in
    subst (λ l. IsNonDecreasingBy (λ s. s.at) l) here (c.requires c.loop-own.own-index)

pub returns : goal.returns
returns c =
    lists_cut c.args.at c.args.by_pin.now c.loop-own.later.items
    (c.loop-own.invariant ∙ ap (λ lists. map (from_on c.args.at) (itemized lists)) (take_all c.loop-own.own-index c.args.by_pin.now (omega arith)))
