use Rattle.std.proofs.Common.{◌≡◌, ◌++◌, ◌+◌, refl, sym, ap, ◌∙◌, arith}
use Rattle.kc_trace.specs.Tables.{level_in}
use Rattle.kc_monitor.specs.Watching.{points_at, one_at, other_at}
use Rattle.kc_monitor.proofs.MachineLemmas.{same_machine, ready_by}
use Rattle.kc_monitor.proofs.monitor.Monitor.follow.Goals as goal

pub returns-clause-total : goal.returns-clause-total
returns-clause-total c = λ ready next end points one other le within later order level unbegun kept now.
    let form = c.args.form.now in
    let first = c.args.first in
    let at = c.args.at in
    let levels = level_in c.args.levels.now in
    let pts = points_at form at levels c.args.seens.now in
    let started = c.start.ensures.same in
    let set = c.set_levels.ensures in
    let leveled = c.level.ensures.same in
    let life_set = ap (λ m. m.life) set ∙ ap (λ m. m.life) started in
    let life_level = ap (λ m. m.life) leveled ∙ life_set in
    let tally_set = ap (λ m. m.tally) set in
    let machine_set = ap (λ m. m.machine) set in
    let one_set : c.set_levels.new.self.one ≡ one_at form levels c.args.self.now.one =
    ap (λ m. m.one) set ∙ ap (λ m. one_at form levels m.one) started in
    let other_set : c.set_levels.new.self.other ≡ other_at form levels c.args.self.now.other =
    ap (λ m. m.other) set ∙ ap (λ m. other_at form levels m.other) started in
    let start_ready = c.start.ensures.ready at ready in
    let set_ready = ready_by at (sym life_set) (sym tally_set) (sym machine_set) start_ready in
    let level_ready = ready_by at (sym (ap (λ m. m.life) leveled)) refl refl (c.level.ensures.ready at set_ready) in
    c.start.ensures.total next end (pts ++ points) one other le (omega arith) later level unbegun kept
    ∙ same_machine first end (pts ++ points) one other at (sym life_set) (sym tally_set) (sym machine_set)
    ∙ c.level.ensures.total first end (pts ++ points) one other within (now.one_now ∙ sym one_set) (now.other_now ∙ sym other_set)
    ∙ same_machine first end (pts ++ points) one other (at + 1) (life_set ∙ sym life_level) refl refl
    ∙ c.in_ok-take_points.ensures.total level_ready first end points one other (at + 1) (omega arith) order
    ∙ same_machine first end points one other (at + 1) life_level refl refl
