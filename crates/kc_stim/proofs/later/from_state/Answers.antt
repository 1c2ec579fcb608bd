use Rattle.std.proofs.Common.{◌≡◌, ◌==◌, ◌∙◌, ap, sym, subst}
use Rattle.std.specs.List.Sorted.{IsNonDecreasingBy}
use Rattle.std.proofs.lemmas.List.Kept.{IsNonDecreasingBy-filter}
use Rattle.kc_stim.specs.Drives.{from_on, of_pin}
use Rattle.kc_stim.specs.Index.{list_of}
use Rattle.kc_stim.specs.Parts.{drives_in}
use Rattle.kc_stim.proofs.LaterLaws.{indexed_later}
use Rattle.kc_stim.proofs.later.from_state.Goals as goal

pub later_lists-requires : goal.later_lists-requires
later_lists-requires c pin =
    let own : list_of c.as_slice-3.result.now pin ≡ of_pin pin c.args.index.now.stimuli.items = ap (λ lists. list_of lists pin) c.as_slice-3.ensures.value ∙ c.requires.whole.lists pin in
    subst (λ l. IsNonDecreasingBy (λ s. s.at) l) (sym own) (IsNonDecreasingBy-filter (λ s. s.at) (λ s. s.pin.0 == pin) c.args.index.now.stimuli.items c.requires.whole.rise)

pub returns-clause-whole : goal.returns-clause-whole
returns-clause-whole c =
    rw (c.in_ok-levels_before.ensures, c.in_ok-later_stimuli.ensures, c.as_slice-2.ensures.value, c.in_ok-later_edges.ensures, c.as_slice-4.ensures.value)
    (indexed_later (drives_in c.args.index.now) c.args.at c.args.index.now.by_pin.items c.in_ok-later_lists.field-0.items c.args.index.now.edges.items c.requires.whole c.requires.proper
    (λ pin. c.in_ok-later_lists.ensures pin ∙ ap (λ lists. from_on c.args.at (list_of lists pin)) c.as_slice-3.ensures.value))
