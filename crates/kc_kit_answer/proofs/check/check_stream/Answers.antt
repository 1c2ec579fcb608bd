use Rattle.std.proofs.Common.{sym, ◌∙◌, ap, subst}
use Rattle.kc_base.specs.Causes.{Rose}
use Rattle.kc_kit_words.specs.Inputs.{inputs_in}
use Rattle.kc_kit_messages.proofs.Words.{texts_in}
use Rattle.kc_events.specs.Reporting.{Counts}
use Rattle.kc_kit_inputs.specs.Driving.{GivenFiles}
use Rattle.kc_kit_inputs.specs.Stimuli.{drives_of}
use Rattle.kc_kit_answer.proofs.TraceLemmas.{counts-failed}
use Rattle.kc_kit_answer.proofs.CheckLemmas.{run-checked}
use Rattle.kc_kit_answer.proofs.check.check_stream.Goals as goal

pub returns-in-Ok-check_run-clause-answer : goal.returns-in-Ok-check_run-clause-answer
returns-in-Ok-check_run-clause-answer g c =
    let check = c.args.check.now in
    let rose : Type 0 = Rose (g.F.Files.read_faults c.args.files.now) (g.F.Files.read_faults c.close.new.self) in
    run-checked check.trace.now check.rules.now (inputs_in check.inputs) check.clock c.args.text.now (texts_in c.args.inputs.now) c.in-Ok.rules c.in-Ok-stimuli_in.stimuli rose
    (g.F.Stream.Source.to_come c.args.stream) c.in-Ok-check_run.verdict c.verdict_job.result c.in-Ok.ensures.rules
    (sym (ap (λ (given : GivenFiles). drives_of given.stimuli) c.given_for.ensures.given) ∙ c.in-Ok-stimuli_in.ensures.stimuli)
    c.in-Ok-check_run.ensures.answer
    (λ e. c.close.ensures.failed (counts-failed (g.F.Stream.Source.faults c.args.stream) (g.F.Stream.Source.faults c.in-Ok-check_run.stream) c.in-Ok-check_run.verdict
    (λ k. subst (λ r. Counts (g.F.Stream.Source.faults c.args.stream) r (g.F.Stream.Source.faults c.in-Ok-check_run.stream)) k c.in-Ok-check_run.ensures.faults) c.requires.calm e))
    c.verdict_job.ensures
