use Rattle.std.proofs.Common.{◌≡◌, [], sym, ap, ◌∙◌}
use Rattle.kc_monitor_forms.specs.Obligations.{unseen}
use Rattle.kc_monitor_forms.specs.Tallies.{with_one}
use Rattle.kc_monitor_forms.specs.Machines.{waiting_total, left_over, behind_front}
use Rattle.kc_monitor_forms.proofs.AfterLemmas.{same_total, finished_total, front_is}
use Rattle.kc_monitor_forms.proofs.after.After.finish_one.Goals as goal

pub returns-clause-total : goal.returns-clause-total
returns-clause-total c =
    let m = c.args.self.now in
    let life = c.args.life in
    let end = c.args.end in
    let tally = c.args.tally.now in
    let first = c.in-Some.first in
    let asked = c.pop.ensures.asked in
    let reported : c.add.new.self ≡ with_one life tally (unseen first (left_over m.none m.most end first)) =
    c.add.ensures ∙ ap (λ o. with_one life tally o) (c.unseen.ensures ∙ ap (λ a. unseen first a) (c.left_over-answer.ensures ∙ (λ i. left_over (asked.0 i) (asked.2 i) end first))) in
    ap (λ ws. waiting_total life tally m.none m.least m.most m.late ws end []) (front_is first m.waiting.items (sym c.front.ensures ∙ c.in-Some.is))
    ∙ finished_total life first m.least m.most end m.none tally m.late m.late (behind_front m.waiting.items)
    ∙ sym (same_total life end [] reported asked.0 asked.1 asked.2 asked.3 c.pop.ensures.waiting)
