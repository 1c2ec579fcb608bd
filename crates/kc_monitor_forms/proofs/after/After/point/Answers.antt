use Rattle.std.proofs.Common.{◌∷◌, refl, sym, ◌∙◌, arith}
use Rattle.kc_monitor_forms.specs.Machines.{late_last, IsOrderedFrom}
use Rattle.kc_monitor_forms.proofs.AfterLemmas.{same_total, behind_total, rising_point, upto_point}
use Rattle.kc_monitor_forms.proofs.after.After.point.Goals as goal

pub returns-clause-waiting : goal.returns-clause-waiting
returns-clause-waiting c = λ w.
    let now = c.take_event.ensures.waiting (c.expire.ensures.waiting w) in
    let m = c.take_event.new.self in
    let late = c.in_ok-wait.ensures.asked.3 in
    record {
      rising = rw (late, c.in_ok-wait.ensures.waiting) (rising_point (late_last m.late) c.args.point m.waiting.items now.past now.rising now.upto);
      upto = rw c.in_ok-wait.ensures.waiting (upto_point c.args.point m.waiting.items now.upto);
      past = rw late now.past;
      late = rw late now.late;
      reported = rw late now.reported;
    }

pub returns-clause-total : goal.returns-clause-total
unfolding IsOrderedFrom
returns-clause-total c = λ w end points within order.
    let life = c.args.life in
    let p = c.args.point in
    let here = c.expire.ensures.waiting w in
    let m = c.take_event.new.self in
    let asked = c.in_ok-wait.ensures.asked in
    c.expire.ensures.total w end (p ∷ points) within (omega arith, order)
    ∙ c.take_event.ensures.total here end points
    ∙ behind_total life m.least m.most end m.none c.take_event.new.tally m.late m.waiting.items p points (c.take_event.ensures.ready here)
    ∙ sym (same_total life end points refl asked.0 asked.1 asked.2 asked.3 c.in_ok-wait.ensures.waiting)
