use Rattle.std.proofs.Common.{Some, List, ℕ, [], ◌∷◌, refl, arith}
use Rattle.kc_base.specs.Causes.{Rose}
use Rattle.kc_kit_files.specs.Reads.{MissedOne, MissedRead}
use Rattle.kc_kit_files.specs.Response.{Response}
use Rattle.kc_kit_files.proofs.ReadLemmas.{refused-widen, held-one, missed-one, stays-onward}
use Rattle.kc_kit_words.specs.Inputs.{inputs_in}
use Rattle.kc_kit_words.specs.Commands.{Bounds, names_of}
use Rattle.kc_kit_inputs.specs.FaultDiagnostics.{IsFaultDiagnostic}
use Rattle.kc_kit_answer.specs.Answer.{MayAnswer, OneText, Parted}
use Rattle.kc_kit_answer.specs.Bound.{BoundAnswer}
use Rattle.kc_kit_messages.proofs.Words.{texts_in}
use Rattle.kc_kit_answer.proofs.AnswerSteps.{first-missed, second-missed, parts-then, prepared-widen}
use Rattle.kc_kit_answer.proofs.BoundLemmas.{end_word}
use Rattle.kc_kit_answer.proofs.bound.prepare_bound.Goals as goal

pub returns-in-Err : goal.returns-in-Err
returns-in-Err g c =
    let bound = c.args.bound.now in
    let name = bound.file.now in
    let from = bound.from.now in
    let to = end_word bound in
    let inputs = inputs_in bound.inputs in
    let reported = g.F.Files.held c.args.files.now in
    let rose : Type 0 = Rose (g.F.Files.read_faults c.args.files.now) (g.F.Files.read_faults c.read_file.new.files) in
    let may : List (List ℕ) → List (List ℕ) → Response → Type 0 = λ texts more. OneText (λ text. BoundAnswer name from to inputs bound.wanted text more) texts in
    record {
      answer = first-missed (name ∷ []) (names_of inputs) (Parted 1 may) reported rose c.in-Err.refusal
          (refused-widen (MissedOne reported name rose) (MissedRead reported (name ∷ []) rose) c.in-Err.refusal (λ r m. missed-one reported name rose r m) c.in-Err.ensures.read);
      only_read = c.read_file.ensures.stays;
    }

pub returns-in-Ok-read_inputs : goal.returns-in-Ok-read_inputs
returns-in-Ok-read_inputs g c =
    let bound = c.args.bound.now in
    let name = bound.file.now in
    let from = bound.from.now in
    let to = end_word bound in
    let inputs = inputs_in bound.inputs in
    let reported = g.F.Files.held c.args.files.now in
    let rose : Type 0 = Rose (g.F.Files.read_faults c.args.files.now) (g.F.Files.read_faults c.read_inputs.new.files) in
    let may : List (List ℕ) → List (List ℕ) → Response → Type 0 = λ texts more. OneText (λ text. BoundAnswer name from to inputs bound.wanted text more) texts in
    let text = c.in-Ok.text.items in
    let more = texts_in c.in-Ok-read_inputs.inputs.items in
    record {
      answer = prepared-widen (BoundAnswer name from to inputs bound.wanted text more) (MayAnswer IsFaultDiagnostic (Some (Bounds name from to inputs bound.wanted)) reported rose) c.bound_text.result
          (λ r m. parts-then (name ∷ []) (names_of inputs) 1 may reported (g.F.Files.held c.read_file.new.files) rose (text ∷ []) more r c.read_file.ensures.stays.same refl
          (held-one reported name text c.in-Ok.ensures.read.0 c.in-Ok.ensures.read.1) c.in-Ok-read_inputs.ensures.read m)
          (rw (c.deref.ensures.value, c.deref-in-Ok-read_inputs.ensures.value) at c.bound_text.ensures);
      only_read = stays-onward g.F.Files.held g.F.Files.read_faults g.F.Files.write_faults _ _ _ c.read_file.ensures.stays c.read_inputs.ensures.stays;
    }

pub returns : goal.returns
returns g c =
    let bound = c.args.bound.now in
    let name = bound.file.now in
    let from = bound.from.now in
    let to = end_word bound in
    let inputs = inputs_in bound.inputs in
    let reported = g.F.Files.held c.args.files.now in
    let rose : Type 0 = Rose (g.F.Files.read_faults c.read_file.new.files) (g.F.Files.read_faults c.read_inputs.new.files) in
    let later : Type 0 = Rose (g.F.Files.read_faults c.args.files.now) (g.F.Files.read_faults c.read_inputs.new.files) in
    let may : List (List ℕ) → List (List ℕ) → Response → Type 0 = λ texts more. OneText (λ text. BoundAnswer name from to inputs bound.wanted text more) texts in
    record {
      answer = second-missed (name ∷ []) (names_of inputs) (c.in-Ok.text.items ∷ []) (Parted 1 may) reported (g.F.Files.held c.read_file.new.files) rose later c.in-Err-read_inputs.refusal
          c.read_file.ensures.stays.same (held-one reported name c.in-Ok.text.items c.in-Ok.ensures.read.0 c.in-Ok.ensures.read.1) (λ r. omega (arith, r, c.read_file.ensures.stays.later)) c.in-Err-read_inputs.ensures.read;
      only_read = stays-onward g.F.Files.held g.F.Files.read_faults g.F.Files.write_faults _ _ _ c.read_file.ensures.stays c.read_inputs.ensures.stays;
    }
