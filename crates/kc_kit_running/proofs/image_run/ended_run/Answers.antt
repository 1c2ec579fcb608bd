use Rattle.std.proofs.Common.{inl, inr, refl, sym, ◌∙◌, ap, subst}
use Rattle.kc_machine_spec.specs.declared.doing.End.{End}
use Rattle.kc_kit_files.specs.declared.status.Status.TheVariants as status
use Rattle.kc_kit_files.specs.declared.ended.Said.TheVariants as said
use Rattle.kc_kit_messages.specs.Uses.{use_diagnostic}
use Rattle.kc_kit_running.specs.Sources.{lines_in}
use Rattle.kc_kit_running.specs.Running.{IsEndOf}
use Rattle.kc_kit_running.proofs.image_run.ended_run.Goals as goal

pub returns-in-Ok : goal.returns-in-Ok
returns-in-Ok c =
    subst (λ (how : End). IsEndOf (lines_in c.args.sources.now) how (record { status = status.Undefined; said = said.Refusal c.in-Ok.diagnostic })) (sym c.in-Undefined.is)
    (inl (refl, c.in-Ok.ensures ∙ ap (λ place. use_diagnostic place c.in-Undefined.what c.in-Undefined.access) c.line_in.ensures))

pub returns-in-Err : goal.returns-in-Err
returns-in-Err c = subst (λ (how : End). IsEndOf (lines_in c.args.sources.now) how c.by.result) (sym c.in-Undefined.is) (inr (c.by.ensures.status, tt))
