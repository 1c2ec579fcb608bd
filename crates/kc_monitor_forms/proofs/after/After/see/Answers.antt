use Rattle.std.proofs.Common.{◌∷◌, Some, None, sym, ap, ◌∙◌, arith}
use Rattle.kc_monitor_forms.specs.Machines.{waiting_total, with_late, patched, late_last}
use Rattle.kc_monitor_forms.proofs.AfterLemmas.{seen_total, patched_twice, rising_zero}
use Rattle.kc_monitor_forms.proofs.after.After.see.Goals as goal

pub returns-in-Some-clause-waiting : goal.returns-in-Some-clause-waiting
returns-in-Some-clause-waiting c = λ w.
    let life = c.args.life in
    let first = ap (λ t. t.first_bad) c.see_late.ensures in
    record {
      rising = rising_zero (late_last c.args.self.now.late) c.args.self.now.waiting.items w.rising;
      upto = w.upto;
      past = omega arith;
      late = tt;
      reported = λ u. ap (λ f. patched life u f) first ∙ patched_twice life c.args.at u c.args.tally.now.first_bad ∙ sym first;
    }

pub returns-in-Some-clause-total : goal.returns-in-Some-clause-total
returns-in-Some-clause-total c = λ w end points p here is.
    let life = c.args.life in
    let m = c.args.self.now in
    let late = c.in-Some.late in
    let tally = c.args.tally.now in
    ap (λ o. waiting_total life tally m.none m.least m.most o m.waiting.items end (p ∷ points)) c.in-Some.is
    ∙ seen_total life m.least m.most end m.none tally (Some late) m.waiting.items p points is
    ∙ ap (λ t. waiting_total life (with_late life late t tally) m.none m.least m.most None m.waiting.items end (p ∷ points)) here
    ∙ ap (λ t. waiting_total life t m.none m.least m.most None m.waiting.items end (p ∷ points)) (sym c.see_late.ensures)
