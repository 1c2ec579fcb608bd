use Rattle.std.proofs.Common.{[], Some, inl}
use Rattle.kc_base.specs.Causes.{Rose}
use Rattle.kc_kit_files.proofs.EndLemmas.{Ends-widen}
use Rattle.kc_kit_words.specs.Asked.{asked}
use Rattle.kc_kit_words.specs.declared.command.Command.TheVariants as command
use Rattle.kc_kit_inputs.specs.FaultDiagnostics.{IsFaultDiagnostic}
use Rattle.kc_kit_answer.specs.Answer.{MayAnswer}
use Rattle.kc_kit_answer.specs.Generate.{GenerateAnswer}
use Rattle.kc_kit_answer.specs.Jobs.{IsOf}
use Rattle.kc_kit_answer.proofs.AnswerSteps.{holds-none, prepared-of}
use Rattle.kc_kit.proofs.top.generated.Goals as goal

pub returns : goal.returns
returns g c =
    let reported = g.F.Files.held c.args.files.now in
    let rose : Type 0 = Rose (g.F.Files.read_faults c.args.files.now) (g.F.Files.read_faults c.finish.new.files) in
    Ends-widen (IsOf c.prepare_generate.result) (MayAnswer IsFaultDiagnostic (Some (asked (command.Generate c.args.generate.now))) reported rose) _ _ _ _ _ _
    (λ r e. ([], holds-none reported, inl (prepared-of (GenerateAnswer IsFaultDiagnostic c.args.generate.now.number) c.prepare_generate.result c.prepare_generate.ensures r e))) c.finish.ensures.answer
