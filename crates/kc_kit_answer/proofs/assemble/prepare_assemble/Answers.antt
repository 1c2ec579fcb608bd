use Rattle.std.proofs.Common.{ℕ, List, Some}
use Rattle.std.specs.Prelude.{Option}
use Rattle.std.specs.Option.{option_map}
use Rattle.kc_base.specs.Causes.{Rose}
use Rattle.kc_kit_words.specs.Commands.{Assembles}
use Rattle.kc_kit_inputs.specs.FaultDiagnostics.{IsFaultDiagnostic}
use Rattle.kc_kit_answer.specs.Answer.{MayAnswer, OneText}
use Rattle.kc_kit_answer.specs.Assemble.{AssembleAnswer}
use Rattle.kc_kit_answer.proofs.AnswerSteps.{one-then, one-missed, prepared-widen}
use Rattle.kc_kit_words.specs.declared.command.Assemble.{Assemble}
use Rattle.kc_kit_answer.proofs.assemble.prepare_assemble.Goals as goal

abbrev listing_name : Assemble → Option (List ℕ)
listing_name assemble = option_map (λ l. l.now) assemble.list

pub returns-in-Ok : goal.returns-in-Ok
returns-in-Ok g c =
    let assemble = c.args.assemble.now in
    let rose : Type 0 = Rose (g.F.Files.read_faults c.args.files.now) (g.F.Files.read_faults c.read_file.new.files) in
    record {
      answer = prepared-widen (AssembleAnswer IsFaultDiagnostic assemble.file.now assemble.out.now (listing_name assemble) c.in-Ok.text.items) (MayAnswer IsFaultDiagnostic (Some (Assembles assemble.file.now assemble.out.now (listing_name assemble))) (g.F.Files.held c.args.files.now) rose) c.object_text.result
          (λ r m. one-then assemble.file.now (OneText (AssembleAnswer IsFaultDiagnostic assemble.file.now assemble.out.now (listing_name assemble))) (g.F.Files.held c.args.files.now) rose c.in-Ok.text.items r c.in-Ok.ensures.read.0 c.in-Ok.ensures.read.1 m)
          (rw c.deref.ensures.value at c.object_text.ensures);
      only_read = c.read_file.ensures.stays;
    }

pub returns-in-Err : goal.returns-in-Err
returns-in-Err g c =
    let assemble = c.args.assemble.now in
    let rose : Type 0 = Rose (g.F.Files.read_faults c.args.files.now) (g.F.Files.read_faults c.read_file.new.files) in
    record {
      answer = one-missed assemble.file.now (OneText (AssembleAnswer IsFaultDiagnostic assemble.file.now assemble.out.now (listing_name assemble))) (g.F.Files.held c.args.files.now) rose c.in-Err.refusal c.in-Err.ensures.read;
      only_read = c.read_file.ensures.stays;
    }
