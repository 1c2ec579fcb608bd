use Rattle.std.proofs.Common.{◌≡◌, ◌∷◌, ◌<◌, ◌+◌, Some, None, true, false, refl, sym, ap, ◌∙◌, arith}
use Rattle.std.specs.Prelude.{IfSome}
use Rattle.std.proofs.lemmas.Bool.{false_from_ne_true}
use Rattle.kc_trace.specs.Tables.{level_in}
use Rattle.kc_monitor_forms.specs.Machines.{IsOrderedFrom}
use Rattle.kc_monitor.specs.Watching.{Moment, moment, points_in, total_in}
use Rattle.kc_monitor.proofs.MachineLemmas.{ready_by, ready_later, same_machine}
use Rattle.kc_monitor.proofs.WatchLemmas.{total_ahead, total_within, total_begun, ordered_in, ordered_more}
use Rattle.kc_monitor.proofs.monitor.Monitor.go_on.Goals as goal

pub returns-in_ok-follow-in-Some-clause-going : goal.returns-in_ok-follow-in-Some-clause-going
returns-in_ok-follow-in-Some-clause-going c = λ next le g.
    let m = c.args.self.now in
    let n = c.follow.new.self in
    let at = c.args.at in
    let same = c.follow.ensures.same in
    let now = c.in_ok-follow-in-Some.ensures.ready (ready_later m.life m.tally m.machine next at le g.ready) in
    record {
      ready = ready_by (at + 1) (sym (ap (λ m. m.life) same)) refl refl (ready_later m.life n.tally n.machine at (at + 1) (omega arith) now);
      level = λ begun. c.in_ok-follow-in-Some.ensures.level;
      begun = λ begun. (c.in-Some.first, ap (λ m. m.from) same ∙ c.in-Some.is, omega arith);
      unbegun = λ not. let no : true ≡ false = sym (ap (λ m. m.begun) same) ∙ not in cc;
    }

pub returns-in_ok-follow-in-Some-clause-total : goal.returns-in_ok-follow-in-Some-clause-total
returns-in_ok-follow-in-Some-clause-total c = λ next end reported future one other later within order g is_first kept now.
    let m = c.args.self.now in
    let n = c.follow.new.self in
    let form = c.args.form.now in
    let at = c.args.at in
    let first = c.in-Some.first in
    let mo : Moment = moment at (level_in c.args.levels.now) c.args.seens.now in
    let same = c.follow.ensures.same in
    let is : reported ≡ Some first = rw c.in-Some.is at is_first in
    let ordered : IsOrderedFrom at (points_in form first end future) =
    ordered_more (points_in form first end future) at (at + 1) (omega arith) (ordered_in form first end (at + 1) future order) in
    ap (λ o. total_in form m (moment at (level_in c.args.levels.now) c.args.seens.now ∷ future) next one other o end) is
    ∙ total_within form m mo future next end first one other (omega arith) within
    ∙ c.in_ok-follow-in-Some.ensures.total (ready_later m.life m.tally m.machine next at later g.ready) next end (points_in form first end future) one other
    (omega arith) within later ordered g.level (λ not. rw c.in-Some.is at (g.unbegun not)) kept now
    ∙ same_machine first end (points_in form first end future) one other (at + 1) (sym (ap (λ m. m.life) same)) refl refl
    ∙ total_begun form n future (at + 1) end first one other (omega arith) (ap (λ m. m.begun) same)
    ∙ sym (ap (λ o. total_in form n future (at + 1) one other o end) is)

pub returns-else-first-at-clause-going : goal.returns-else-first-at-clause-going
returns-else-first-at-clause-going c = λ next le g.
    let m = c.args.self.now in
    let n = c.set_levels.new.self in
    let at = c.args.at in
    let same = c.set_levels.ensures in
    let first = c.in-Some.first in
    let begun_false : m.begun ≡ false = false_from_ne_true m.begun (λ b.
    let known = g.begun b in
    let here : Some known.0 ≡ Some first = sym known.1 ∙ c.in-Some.is in
    let equal : known.0 ≡ first = cc in
    absurd (omega (arith, equal, known.2))) in
    let not = ap (λ m. m.begun) same ∙ begun_false in
    record {
      ready = ready_by (at + 1) (sym (ap (λ m. m.life) same)) (sym (ap (λ m. m.tally) same)) (sym (ap (λ m. m.machine) same))
          (ready_later m.life m.tally m.machine next (at + 1) (omega arith) g.ready);
      level = λ begun. let no : true ≡ false = sym begun ∙ not in cc;
      begun = λ begun. let no : true ≡ false = sym begun ∙ not in cc;
      unbegun = λ other. rw (ap (λ m. m.from) same, c.in-Some.is) (omega arith);
    }

pub returns-else-first-at-clause-total : goal.returns-else-first-at-clause-total
returns-else-first-at-clause-total c = λ next end reported future one other later within order g is_first kept now.
    let m = c.args.self.now in
    let n = c.set_levels.new.self in
    let at = c.args.at in
    let first = c.in-Some.first in
    let mo : Moment = moment at (level_in c.args.levels.now) c.args.seens.now in
    let same = c.set_levels.ensures in
    let is : reported ≡ Some first = rw c.in-Some.is at is_first in
    let begun_false : m.begun ≡ false = false_from_ne_true m.begun (λ b.
    let known = g.begun b in
    let here : Some known.0 ≡ Some first = sym known.1 ∙ c.in-Some.is in
    let equal : known.0 ≡ first = cc in
    absurd (omega (arith, equal, known.2))) in
    let ahead : IfSome reported (λ f. at < f) = rw is (omega arith) in
    total_ahead c.args.form.now m n mo future next end reported one other (ap (λ m. m.life) same) (ap (λ m. m.tally) same) (ap (λ m. m.machine) same)
    begun_false (ap (λ m. m.begun) same ∙ begun_false) ahead

pub returns-in-None-clause-going : goal.returns-in-None-clause-going
returns-in-None-clause-going c = λ next le g.
    let m = c.args.self.now in
    let at = c.args.at in
    let same = c.set_levels-in-None.ensures in
    let begun_false : m.begun ≡ false = false_from_ne_true m.begun (λ b.
    let known = g.begun b in
    let here : Some known.0 ≡ None = sym known.1 ∙ c.in-None.is in
    cc) in
    let not = ap (λ m. m.begun) same ∙ begun_false in
    record {
      ready = ready_by (at + 1) (sym (ap (λ m. m.life) same)) (sym (ap (λ m. m.tally) same)) (sym (ap (λ m. m.machine) same))
          (ready_later m.life m.tally m.machine next (at + 1) (omega arith) g.ready);
      level = λ begun. let no : true ≡ false = sym begun ∙ not in cc;
      begun = λ begun. let no : true ≡ false = sym begun ∙ not in cc;
      unbegun = λ other. rw (ap (λ m. m.from) same, c.in-None.is) tt;
    }

pub returns-in-None-clause-total : goal.returns-in-None-clause-total
returns-in-None-clause-total c = λ next end reported future one other later within order g is_first kept now.
    let m = c.args.self.now in
    let n = c.set_levels-in-None.new.self in
    let at = c.args.at in
    let mo : Moment = moment at (level_in c.args.levels.now) c.args.seens.now in
    let same = c.set_levels-in-None.ensures in
    let begun_false : m.begun ≡ false = false_from_ne_true m.begun (λ b.
    let known = g.begun b in
    let here : Some known.0 ≡ None = sym known.1 ∙ c.in-None.is in
    cc) in
    total_ahead c.args.form.now m n mo future next end reported one other (ap (λ m. m.life) same) (ap (λ m. m.tally) same) (ap (λ m. m.machine) same)
    begun_false (ap (λ m. m.begun) same ∙ begun_false) (rw c.in-None.is at is_first)
