use Rattle.std.proofs.Common.{refl}
use Rattle.kc_kit_answer.proofs.bound.report_job.Goals as goal

pub returns-in-Ok : goal.returns-in-Ok
returns-in-Ok c = (
  record {
    notes = c.args.notes.now;
    contents = refl;
    is_bound = c.in-Ok.report.is_bound;
    text = c.in-Ok.report.text.items;
    report = c.in-Ok.ensures;
    answered = c.printed.ensures.does;
  },
  c.printed.ensures.doable,
)
