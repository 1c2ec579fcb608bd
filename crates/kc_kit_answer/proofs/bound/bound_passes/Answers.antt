use Rattle.kc_kit_inputs.specs.Annotations.{said_in}
use Rattle.kc_bound.specs.Reading.{notes_read}
use Rattle.std.specs.Option.{option_map}
use Rattle.kc_kit_answer.proofs.BoundLemmas.{from-refused, end-refused, report-prepared}
use Rattle.kc_kit_answer.proofs.bound.bound_passes.Goals as goal

pub returns-in-Err : goal.returns-in-Err
returns-in-Err c = from-refused c.args.bound.now.from.now (option_map (λ t. t.now) c.args.bound.now.to) c.args.bound.now.wanted c.args.image.now (said_in c.args.annotations) c.in-Err.refusal c.in-Err.ensures.refusal

pub returns-in-Err-end_of : goal.returns-in-Err-end_of
returns-in-Err-end_of c = end-refused c.args.bound.now.from.now (option_map (λ t. t.now) c.args.bound.now.to) c.args.bound.now.wanted c.args.image.now (said_in c.args.annotations) c.in-Ok.first c.in-Err-end_of.refusal c.in-Ok.ensures.place c.in-Err-end_of.ensures.refusal

pub returns-in-Ok-with_end : goal.returns-in-Ok-with_end
returns-in-Ok-with_end c =
    report-prepared c.args.bound.now.from.now (option_map (λ t. t.now) c.args.bound.now.to) c.args.bound.now.wanted c.args.image.now (said_in c.args.annotations) c.in-Ok.first c.in-Ok-end_of.last (notes_read c.in-Ok-with_end.notes) c.report_job.result
    c.in-Ok.ensures.place c.in-Ok-end_of.ensures.place c.in-Ok-with_end.ensures c.report_job.ensures
