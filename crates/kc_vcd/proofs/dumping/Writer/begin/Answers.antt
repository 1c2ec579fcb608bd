use Rattle.std.proofs.Common.{false, subst, ap, ◌∙◌}
use Rattle.kc_trace.specs.Tables.{level_in}
use Rattle.kc_vcd.specs.Changes.{all_at, beginning, differences}
use Rattle.kc_vcd.specs.Writing.{Written, HasChanged, with_steps}
use Rattle.kc_vcd.proofs.Written.{reported_begin}
use Rattle.kc_vcd.proofs.dumping.Writer.begin.Goals as goal

pub returns : goal.returns
returns c = λ more.
    let old = c.args.self.now in
    let mid = c.change_life.new.self in
    let late = c.change_levels.new.self in
    let base = ap (λ (w : Written). w.base) c.self.view_is in
    (λ i. with_steps (record (c.self-2.view_is i) { first = false; levels = c.args.levels.now }) more)
    ∙ reported_begin old mid late c.args.levels.now
    (subst (λ b. HasChanged old (all_at b (beginning old.first)) mid) base c.in_ok-change_life.ensures.changed) c.in_ok-change_life.ensures.same
    (subst (λ b. HasChanged mid (all_at b (differences mid.shown.variables (level_in mid.levels) (level_in c.args.levels.now))) late) base c.in_ok-change_levels.ensures.changed) c.in_ok-change_levels.ensures.same more
