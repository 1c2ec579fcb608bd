use Rattle.std.proofs.Common.{◌≡◌, ◌∷◌, ◌-◌, ◌<◌, ◌≤◌, None, leb, sym, ap, ◌∙◌, arith}
use Rattle.kc_monitor_forms.specs.After.{wanted}
use Rattle.kc_monitor_forms.specs.Obligations.{measured}
use Rattle.kc_monitor_forms.specs.Tallies.{with_one}
use Rattle.kc_monitor_forms.specs.Machines.{waiting_total, late_last, behind_front}
use Rattle.kc_monitor_forms.proofs.AfterLemmas.{same_total, answered_total, near_none, near_front, front_is, rising_behind, upto_behind, reported_seen}
use Rattle.kc_monitor_forms.proofs.after.After.answer_one.Goals as goal

pub returns-in_default-clause-near : goal.returns-in_default-clause-near
returns-in_default-clause-near c = λ same w.
    near_none c.args.self.now.least c.args.at c.args.self.now.waiting.items (sym c.front.ensures ∙ c.in_default.is)

pub returns-then-n-self-clause-near : goal.returns-then-n-self-clause-near
returns-then-n-self-clause-near c = λ same w.
    let m = c.args.self.now in
    let near : c.args.at - c.in-Some.first < m.least = omega arith in
    near_front m.least c.args.at c.in-Some.first (late_last m.late) m.waiting.items (sym c.front.ensures ∙ c.in-Some.is) near w.rising

pub returns-clause-waiting : goal.returns-clause-waiting
returns-clause-waiting c = λ none w.
    let m = c.args.self.now in
    let life = c.args.life in
    let late = c.pop.ensures.asked.3 ∙ none in
    let what = ap (λ o. with_one life c.args.tally.now o) c.measured.ensures in
    let first = ap (λ t. t.first_bad) (c.add.ensures ∙ what) in
    record {
      rising = rw (late, c.pop.ensures.waiting) (rising_behind (late_last m.late) m.waiting.items w.rising);
      upto = rw c.pop.ensures.waiting (upto_behind c.args.at m.waiting.items w.upto);
      past = rw late (omega arith);
      late = rw late tt;
      reported = rw (late, first) (reported_seen life c.in-Some.first c.saturating_sub-n.result c.wanted-good.result c.args.tally.now (rw none at w.reported));
    }

pub returns-clause-total : goal.returns-clause-total
returns-clause-total c = λ none w end points p here is.
    let m = c.args.self.now in
    let life = c.args.life in
    let tally = c.args.tally.now in
    let first = c.in-Some.first in
    let behind = behind_front m.waiting.items in
    let far : m.least ≤ p.at - first = omega arith in
    let asked = c.pop.ensures.asked in
    let n = c.saturating_sub-n.ensures in
    let good : c.wanted-good.result ≡ wanted m.none (leb (c.args.at - first) m.most) =
    c.wanted-good.ensures ∙ (λ i. wanted (asked.0 i) (leb (n i) (asked.2 i))) in
    let reported : c.add.new.self ≡ with_one life tally (measured first (c.args.at - first) (wanted m.none (leb (c.args.at - first) m.most))) =
    c.add.ensures ∙ ap (λ o. with_one life tally o) (c.measured.ensures ∙ (λ i. measured first (n i) (good i))) in
    ap (λ o. waiting_total life tally m.none m.least m.most o m.waiting.items end (p ∷ points)) none
    ∙ ap (λ ws. waiting_total life tally m.none m.least m.most None ws end (p ∷ points)) (front_is first m.waiting.items (sym c.front.ensures ∙ c.in-Some.is))
    ∙ answered_total life first m.least m.most end m.none tally behind p points is far
    ∙ ap (λ t. waiting_total life (with_one life tally (measured first (t - first) (wanted m.none (leb (t - first) m.most)))) m.none m.least m.most None behind end (p ∷ points)) here
    ∙ sym (same_total life end (p ∷ points) reported asked.0 asked.1 asked.2 (asked.3 ∙ none) c.pop.ensures.waiting)
