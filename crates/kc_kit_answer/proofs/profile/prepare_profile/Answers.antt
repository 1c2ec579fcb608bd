use Rattle.std.proofs.Common.{Some, refl, map, string_bytes, length, arith}
use Rattle.kc_base.specs.Causes.{Rose}
use Rattle.kc_kit_files.proofs.ReadLemmas.{stays-onward}
use Rattle.kc_kit_words.specs.Asked.{behind_in}
use Rattle.kc_kit_words.specs.Inputs.{inputs_in}
use Rattle.kc_kit_words.specs.Commands.{Profiles, names_of}
use Rattle.kc_kit_inputs.specs.FaultDiagnostics.{IsFaultDiagnostic}
use Rattle.kc_kit_answer.specs.Answer.{MayAnswer, Parted}
use Rattle.kc_kit_answer.specs.Profile.{ProfileAnswer}
use Rattle.kc_kit_messages.proofs.Words.{texts_in}
use Rattle.kc_kit_answer.proofs.AnswerSteps.{first-missed, second-missed, parts-then, prepared-widen}
use Rattle.kc_kit_answer.proofs.profile.prepare_profile.Goals as goal

pub returns-in-Err : goal.returns-in-Err
returns-in-Err g c =
    let run = c.args.run.now in
    let names = map string_bytes run.files.now in
    let inputs = inputs_in run.inputs in
    let rose : Type 0 = Rose (g.F.Files.read_faults c.args.files.now) (g.F.Files.read_faults c.read_files.new.files) in
    record {
      answer = first-missed names (names_of inputs) (Parted (length names) (ProfileAnswer IsFaultDiagnostic names inputs run.extent run.placing (behind_in run.behind))) (g.F.Files.held c.args.files.now) rose c.in-Err.refusal c.in-Err.ensures.read;
      only_read = c.read_files.ensures.stays;
    }

pub returns-in-Ok-read_inputs : goal.returns-in-Ok-read_inputs
returns-in-Ok-read_inputs g c =
    let run = c.args.run.now in
    let names = map string_bytes run.files.now in
    let inputs = inputs_in run.inputs in
    let texts = texts_in c.in-Ok.texts.items in
    let more = texts_in c.in-Ok-read_inputs.inputs.items in
    let reported = g.F.Files.held c.args.files.now in
    let rose : Type 0 = Rose (g.F.Files.read_faults c.args.files.now) (g.F.Files.read_faults c.read_inputs.new.files) in
    record {
      answer = prepared-widen (ProfileAnswer IsFaultDiagnostic names inputs run.extent run.placing (behind_in run.behind) texts more) (MayAnswer IsFaultDiagnostic (Some (Profiles names inputs run.extent run.placing (behind_in run.behind))) reported rose) c.profile_texts.result
          (λ r m. parts-then names (names_of inputs) (length names) (ProfileAnswer IsFaultDiagnostic names inputs run.extent run.placing (behind_in run.behind)) reported (g.F.Files.held c.read_files.new.files) rose texts more r c.read_files.ensures.stays.same refl
          c.in-Ok.ensures.read c.in-Ok-read_inputs.ensures.read m)
          (rw (c.deref.ensures.value, c.deref-in-Ok-read_inputs.ensures.value) at c.profile_texts.ensures);
      only_read = stays-onward g.F.Files.held g.F.Files.read_faults g.F.Files.write_faults _ _ _ c.read_files.ensures.stays c.read_inputs.ensures.stays;
    }

pub returns : goal.returns
returns g c =
    let run = c.args.run.now in
    let names = map string_bytes run.files.now in
    let inputs = inputs_in run.inputs in
    let reported = g.F.Files.held c.args.files.now in
    let rose : Type 0 = Rose (g.F.Files.read_faults c.read_files.new.files) (g.F.Files.read_faults c.read_inputs.new.files) in
    let later : Type 0 = Rose (g.F.Files.read_faults c.args.files.now) (g.F.Files.read_faults c.read_inputs.new.files) in
    record {
      answer = second-missed names (names_of inputs) (texts_in c.in-Ok.texts.items) (Parted (length names) (ProfileAnswer IsFaultDiagnostic names inputs run.extent run.placing (behind_in run.behind))) reported (g.F.Files.held c.read_files.new.files) rose later c.in-Err-read_inputs.refusal
          c.read_files.ensures.stays.same c.in-Ok.ensures.read (λ r. omega (arith, r, c.read_files.ensures.stays.later)) c.in-Err-read_inputs.ensures.read;
      only_read = stays-onward g.F.Files.held g.F.Files.read_faults g.F.Files.write_faults _ _ _ c.read_files.ensures.stays c.read_inputs.ensures.stays;
    }
