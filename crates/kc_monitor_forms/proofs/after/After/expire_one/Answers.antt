use Rattle.std.proofs.Common.{◌≡◌, ◌-◌, ◌<◌, ◌≤◌, sym, ap, ◌∙◌, arith}
use Rattle.kc_monitor_forms.specs.Obligations.{unseen, good_if}
use Rattle.kc_monitor_forms.specs.Tallies.{with_one}
use Rattle.kc_monitor_forms.specs.Machines.{waiting_total, late_last, later, behind_front}
use Rattle.kc_monitor_forms.proofs.AfterLemmas.{same_total, expired, front_is, rising_front, upto_front, upto_behind, later_last, later_is, later_reported}
use Rattle.kc_monitor_forms.proofs.after.After.expire_one.Goals as goal

pub returns-clause-waiting : goal.returns-clause-waiting
returns-clause-waiting c = λ w.
    let m = c.args.self.now in
    let life = c.args.life in
    let first = c.in-Some.first in
    let is = sym c.front.ensures ∙ c.in-Some.is in
    let rising = rising_front first (late_last m.late) m.waiting.items is w.rising in
    let upto = upto_front first c.args.at m.waiting.items is w.upto in
    let late = c.later-self.ensures ∙ ap (λ o. later o first) c.pop.ensures.asked.3 in
    record {
      rising = rw (late, later_last m.late first, c.pop.ensures.waiting) rising.1;
      upto = rw c.pop.ensures.waiting (upto_behind c.args.at m.waiting.items w.upto);
      past = rw (late, later_last m.late first) upto;
      late = rw late (later_is m.late first w.late rising.0);
      reported = rw late (later_reported life m.late first c.add.new.self.first_bad);
    }

pub returns-clause-total : goal.returns-clause-total
returns-clause-total c = λ w end points within order.
    let m = c.args.self.now in
    let life = c.args.life in
    let tally = c.args.tally.now in
    let first = c.in-Some.first in
    let is = sym c.front.ensures ∙ c.in-Some.is in
    let rising = rising_front first (late_last m.late) m.waiting.items is w.rising in
    let far : m.least ≤ c.args.at - first = omega arith in
    let past : m.most < c.args.at - first = omega arith in
    let asked = c.pop.ensures.asked in
    let reported : c.add.new.self ≡ with_one life tally (unseen first (good_if m.none)) =
    c.add.ensures ∙ ap (λ o. with_one life tally o) (c.unseen.ensures ∙ ap (λ a. unseen first a) (c.good_if.ensures ∙ ap good_if asked.0)) in
    ap (λ ws. waiting_total life tally m.none m.least m.most m.late ws end points) (front_is first m.waiting.items is)
    ∙ expired life first c.args.at m.least m.most end m.none tally m.late (behind_front m.waiting.items) points far past within order w.late rising.0 w.reported
    ∙ sym (same_total life end points reported asked.0 asked.1 asked.2 (c.later-self.ensures ∙ ap (λ o. later o first) asked.3) c.pop.ensures.waiting)
