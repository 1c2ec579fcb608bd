use Rattle.std.proofs.Common.{Some, List, ℕ, [], ◌∷◌, refl, arith}
use Rattle.kc_base.specs.Causes.{Rose}
use Rattle.kc_kit_files.specs.Response.{Response}
use Rattle.kc_kit_files.proofs.ReadLemmas.{stays-onward}
use Rattle.kc_kit_words.specs.Inputs.{inputs_in}
use Rattle.kc_kit_words.specs.Commands.{Debugs, names_of}
use Rattle.kc_kit_inputs.specs.FaultDiagnostics.{IsFaultDiagnostic}
use Rattle.kc_kit_answer.specs.Answer.{MayAnswer, TwoTexts, Parted}
use Rattle.kc_kit_answer.specs.Debug.{DebugAnswer}
use Rattle.kc_kit_messages.proofs.Words.{texts_in}
use Rattle.kc_kit_answer.proofs.AnswerSteps.{first-missed, second-missed, parts-then, prepared-widen}
use Rattle.kc_kit_answer.proofs.debug.prepare_debug.Goals as goal

pub returns-in-Err : goal.returns-in-Err
returns-in-Err g c =
    let debug = c.args.debug.now in
    let name = debug.file.now in
    let script = debug.script.now in
    let inputs = inputs_in debug.inputs in
    let lives = debug.lives in
    let reported = g.F.Files.held c.args.files.now in
    let rose : Type 0 = Rose (g.F.Files.read_faults c.args.files.now) (g.F.Files.read_faults c.read_both.new.files) in
    let may : List (List ℕ) → List (List ℕ) → Response → Type 0 = λ texts more. TwoTexts (λ text commands. DebugAnswer name script inputs lives text commands more) texts in
    record {
      answer = first-missed (name ∷ script ∷ []) (names_of inputs) (Parted 2 may) reported rose c.in-Err.refusal c.in-Err.ensures.missed;
      only_read = c.read_both.ensures.stays;
    }

pub returns-in-Ok-read_inputs : goal.returns-in-Ok-read_inputs
returns-in-Ok-read_inputs g c =
    let debug = c.args.debug.now in
    let name = debug.file.now in
    let script = debug.script.now in
    let inputs = inputs_in debug.inputs in
    let lives = debug.lives in
    let reported = g.F.Files.held c.args.files.now in
    let rose : Type 0 = Rose (g.F.Files.read_faults c.args.files.now) (g.F.Files.read_faults c.read_inputs.new.files) in
    let may : List (List ℕ) → List (List ℕ) → Response → Type 0 = λ texts more. TwoTexts (λ text commands. DebugAnswer name script inputs lives text commands more) texts in
    let text = c.in-Ok.texts.0.items in
    let commands = c.in-Ok.texts.1.items in
    let more = texts_in c.in-Ok-read_inputs.inputs.items in
    record {
      answer = prepared-widen (DebugAnswer name script inputs lives text commands more) (MayAnswer IsFaultDiagnostic (Some (Debugs name script inputs lives)) reported rose) c.debug_texts.result
          (λ r m. parts-then (name ∷ script ∷ []) (names_of inputs) 2 may reported (g.F.Files.held c.read_both.new.files) rose (text ∷ commands ∷ []) more r c.read_both.ensures.stays.same refl
          c.in-Ok.ensures.read c.in-Ok-read_inputs.ensures.read m)
          (rw (c.deref.ensures.value, c.deref-in-Ok-read_inputs.ensures.value, c.deref-in-Ok-read_inputs-2.ensures.value) at c.debug_texts.ensures);
      only_read = stays-onward g.F.Files.held g.F.Files.read_faults g.F.Files.write_faults _ _ _ c.read_both.ensures.stays c.read_inputs.ensures.stays;
    }

pub returns : goal.returns
returns g c =
    let debug = c.args.debug.now in
    let name = debug.file.now in
    let script = debug.script.now in
    let inputs = inputs_in debug.inputs in
    let lives = debug.lives in
    let reported = g.F.Files.held c.args.files.now in
    let rose : Type 0 = Rose (g.F.Files.read_faults c.read_both.new.files) (g.F.Files.read_faults c.read_inputs.new.files) in
    let later : Type 0 = Rose (g.F.Files.read_faults c.args.files.now) (g.F.Files.read_faults c.read_inputs.new.files) in
    let may : List (List ℕ) → List (List ℕ) → Response → Type 0 = λ texts more. TwoTexts (λ text commands. DebugAnswer name script inputs lives text commands more) texts in
    record {
      answer = second-missed (name ∷ script ∷ []) (names_of inputs) (c.in-Ok.texts.0.items ∷ c.in-Ok.texts.1.items ∷ []) (Parted 2 may) reported (g.F.Files.held c.read_both.new.files) rose later c.in-Err-read_inputs.refusal
          c.read_both.ensures.stays.same c.in-Ok.ensures.read (λ r. omega (arith, r, c.read_both.ensures.stays.later)) c.in-Err-read_inputs.ensures.read;
      only_read = stays-onward g.F.Files.held g.F.Files.read_faults g.F.Files.write_faults _ _ _ c.read_both.ensures.stays c.read_inputs.ensures.stays;
    }
