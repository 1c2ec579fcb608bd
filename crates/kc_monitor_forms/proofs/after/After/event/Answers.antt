use Rattle.std.proofs.Common.{◌∙◌}
use Rattle.kc_monitor_forms.proofs.after.After.event.Goals as goal

pub answers-preserved : goal.answers-preserved
answers-preserved c =
    let before = c.answers.invariant in
    record {
      waiting = λ w. c.answer_one.ensures.waiting before.late (before.waiting w);
      late = c.answer_one.ensures.late ∙ before.late;
      total = λ w end points p here is. before.total w end points p here is ∙ c.answer_one.ensures.total before.late (before.waiting w) end points p here is;
    }
