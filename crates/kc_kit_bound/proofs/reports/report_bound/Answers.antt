use Rattle.std.proofs.Common.{◌∙◌, ap, inl, subst}
use Rattle.kc_bound_find.specs.Answers.{IsAnswer}
use Rattle.kc_kit_bound.specs.Refusals.{refusals_text}
use Rattle.kc_kit_bound.proofs.reports.report_bound.Goals as goal

pub returns-in_ok-refusals_text-in-Refused : goal.returns-in_ok-refusals_text-in-Refused
returns-in_ok-refusals_text-in-Refused c = inl (record {
  refusals = c.in-Refused.refusals.items;
  found = subst (IsAnswer c.args.image.now c.args.notes.now) c.in-Refused.is c.in_ok-c.ensures;
  printed = c.in_ok-refusals_text-in-Refused.ensures ∙ ap refusals_text c.as_slice.ensures.value;
})
