use Rattle.std.proofs.Common.{map, subst, ap, ◌∙◌}
use Rattle.kc_trace.specs.declared.levels.Levels.{Levels}
use Rattle.kc_trace.specs.Lives.{level_after}
use Rattle.kc_trace.specs.Tables.{level_in}
use Rattle.kc_vcd.specs.Changes.{all_at, change_by, later}
use Rattle.kc_vcd.specs.Writing.{Written, HasChanged, with_steps}
use Rattle.kc_vcd.proofs.Written.{reported_pass}
use Rattle.kc_vcd.proofs.dumping.Writer.pass.Goals as goal

pub returns : goal.returns
returns c = λ more.
    let old = c.args.self.now in
    let late = c.change_all-2.new.self in
    let whats = c.args.whats.now in
    let same = c.in_ok-change_all.ensures.same in
    let at = c.later.ensures ∙ ap (λ (w : Written). later w.base c.args.at) c.change_all.view_is in
    (λ i. with_steps (record (c.self.view_is i) { levels = c.take_all.new.self }) more)
    ∙ reported_pass old late c.args.at whats c.take_all.new.self
    (subst (λ t. HasChanged old (all_at t (map change_by whats)) late) at c.in_ok-change_all.ensures.changed) same
    (λ signal. c.take_all.ensures signal ∙ ap (λ (l : Levels). level_after signal (level_in l signal) whats) (ap (λ (w : Written). w.levels) c.self.view_is ∙ same.levels)) more
