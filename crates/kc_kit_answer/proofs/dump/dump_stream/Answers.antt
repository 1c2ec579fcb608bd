use Rattle.std.proofs.Common.{sym, ◌∙◌, ap, subst}
use Rattle.kc_base.specs.Causes.{Rose}
use Rattle.kc_events.specs.Reporting.{Counts}
use Rattle.kc_kit_words.specs.Inputs.{inputs_in}
use Rattle.kc_kit_messages.proofs.Words.{texts_in}
use Rattle.kc_kit_inputs.specs.Driving.{GivenFiles, driving_of}
use Rattle.kc_kit_answer.proofs.TraceLemmas.{counts-failed}
use Rattle.kc_kit_answer.proofs.DumpLemmas.{run-dumped}
use Rattle.kc_kit_answer.proofs.dump.dump_stream.Goals as goal

pub returns-in-Ok-dump_run-clause-answer : goal.returns-in-Ok-dump_run-clause-answer
returns-in-Ok-dump_run-clause-answer g c =
    let dump = c.args.dump.now in
    let rose : Type 0 = Rose (g.F.Files.read_faults c.args.files.now) (g.F.Files.read_faults c.close.new.self) in
    run-dumped dump.trace.now (inputs_in dump.inputs) dump.out.now dump.clock (texts_in c.args.inputs.now) c.in-Ok.driving rose
    (g.F.Stream.Source.to_come c.args.stream) c.in-Ok-dump_run.made c.dump_job.result
    (sym (ap (λ (given : GivenFiles). driving_of given) c.given_for.ensures.given) ∙ c.in-Ok.ensures.driving)
    c.in-Ok-dump_run.ensures.answer
    (λ e. c.close.ensures.failed (counts-failed (g.F.Stream.Source.faults c.args.stream) (g.F.Stream.Source.faults c.in-Ok-dump_run.stream) c.in-Ok-dump_run.made
    (λ k. subst (λ r. Counts (g.F.Stream.Source.faults c.args.stream) r (g.F.Stream.Source.faults c.in-Ok-dump_run.stream)) k c.in-Ok-dump_run.ensures.faults) c.requires.calm e))
    c.dump_job.ensures
