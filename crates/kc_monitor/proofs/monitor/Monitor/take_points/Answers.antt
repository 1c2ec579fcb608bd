use Rattle.std.proofs.Common.{◌≡◌, ◌∷◌, ◌++◌, ◌+◌, ◌≤◌, [], drop, refl, sym, ap, ◌∙◌, arith}
use Rattle.std.proofs.lemmas.List.{drop_all}
use Rattle.kc_trace.specs.Tables.{level_in}
use Rattle.kc_monitor_forms.specs.Machines.{IsOrderedFrom}
use Rattle.kc_monitor.specs.Machines.{machine_total}
use Rattle.kc_monitor.specs.Rules.{point_at}
use Rattle.kc_monitor.specs.Watching.{points_at}
use Rattle.kc_monitor.proofs.MachineLemmas.{points_next, ordered_at, point_state, ready_same, same_machine}
use Rattle.kc_monitor.proofs.monitor.Monitor.take_points.Goals as goal

pub loop-seen-preserved : goal.loop-seen-preserved
loop-seen-preserved c =
    let before = c.loop-seen.invariant in
    let m = c.args.self.now in
    let form = c.args.form.now in
    let at = c.args.at in
    let levels = level_in c.args.levels.now in
    let seens = c.args.seens.now in
    let k = c.loop-seen.seen-index in
    let s = c.seen-item.result in
    let after = c.take_point.new.self in
    let life = ap (λ m. m.life) before.same in
    let is : c.point.result ≡ point_at levels form at s.what s.marks =
    c.point.ensures ∙ (λ i. point_at levels form at (c.what.ensures i) (c.marks.ensures i)) in
    let here : c.point.result.at ≡ at = ap (λ p. p.at) is ∙ point_state levels form at s.what s.marks in
    record {
      same = c.take_point.ensures.same ∙ (λ i. record (before.same i) { machine = after.machine; tally = after.tally });
      ready = λ ready. ready_same after.tally after.machine life here
          (c.in_ok-take_point.ensures.ready (ready_same c.loop-seen.self.tally c.loop-seen.self.machine (sym life) (sym here) (before.ready ready)));
      total = λ ready first end points one other next within order.
          let rest = points_at form at levels (drop (k + 1) seens) ++ points in
          let le : c.point.result.at ≤ end = omega (arith, here) in
          let ordered : IsOrderedFrom c.point.result.at rest = rw here (ordered_at form at levels (drop (k + 1) seens) points order) in
          before.total ready first end points one other next within order
          ∙ ap (λ ps. machine_total m.life c.loop-seen.self.tally c.loop-seen.self.machine first end (ps ++ points) one other next)
          (points_next form at levels seens k s c.point.result (omega arith) c.seen-item.is is)
          ∙ same_machine first end (c.point.result ∷ rest) one other next (sym life) refl refl
          ∙ c.in_ok-take_point.ensures.total (ready_same c.loop-seen.self.tally c.loop-seen.self.machine (sym life) (sym here) (before.ready ready)) first end rest one other next le ordered
          ∙ same_machine first end rest one other next life refl refl;
      level = λ one other level. c.in_ok-take_point.ensures.level one other (before.level one other level);
    }

pub returns-clause-total : goal.returns-clause-total
returns-clause-total c = λ ready first end points one other next within order.
    let m = c.args.self.now in
    let form = c.args.form.now in
    let at = c.args.at in
    let levels = level_in c.args.levels.now in
    let seens = c.args.seens.now in
    let none : drop c.loop-seen.seen-index seens ≡ [] = drop_all c.loop-seen.seen-index seens (omega arith) in
    c.loop-seen.invariant.total ready first end points one other next within order
    ∙ ap (λ ss. machine_total m.life c.loop-seen.self.tally c.loop-seen.self.machine first end (points_at form at levels ss ++ points) one other next) none
