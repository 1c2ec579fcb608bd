use Rattle.std.proofs.Common.{◌≡◌, List, map, string_bytes, Err, refl, subst}
use Rattle.kc_obj_module.specs.Object.{Object}
use Rattle.kc_link.specs.Filled.{IsFilled}
use Rattle.kc_kit_files.proofs.ReadLemmas.{refused-widen}
use Rattle.kc_kit_inputs.specs.Driving.{given_in, driving_of}
use Rattle.kc_kit_messages.proofs.Words.{texts_in}
use Rattle.kc_kit_running.specs.Profiled.{known}
use Rattle.kc_kit_answer.specs.Profile.{FilledWithLines, DrivenWithLines}
use Rattle.kc_kit_answer.proofs.AnswerSteps.{then-ok, then-err}
use Rattle.kc_kit_answer.proofs.profile.linked_at.Goals as goal

pub returns-in-Ok-driving_in : goal.returns-in-Ok-driving_in
returns-in-Ok-driving_in c = (
  c.in-Ok-lines_of.ensures.placed,
  λ report.
      let names = map string_bytes c.args.names.now in
      let texts = texts_in c.args.texts.now in
      let ms = c.args.modules.items in
      let places = c.args.placement.places in
      let k = known c.in-Ok-lines_of.lines in
      then-ok (driving_of (given_in c.args.given)) c.in-Ok-driving_in.driving (λ driving. FilledWithLines names texts (λ k. report k driving) ms places) (report k c.in-Ok-driving_in.driving c.in-Ok.image) c.in-Ok-driving_in.ensures.driving
      (record { image = c.in-Ok.image; is_filled = subst (λ (ms : List Object). IsFilled ms places c.in-Ok.image) c.deref.ensures.value c.in-Ok.ensures; known = k; are_lines = c.in-Ok-lines_of.ensures.lines; reported = refl }),
)

pub returns : goal.returns
returns c = λ report.
    let names = map string_bytes c.args.names.now in
    let texts = texts_in c.args.texts.now in
    let ms = c.args.modules.items in
    let places = c.args.placement.places in
    let given = given_in c.args.given in
    refused-widen (λ response. driving_of given ≡ Err response) (DrivenWithLines given (FilledWithLines names texts) report ms places) c.in-Err-driving_in.refusal
    (λ r e. then-err (driving_of given) (λ driving. FilledWithLines names texts (λ k. report k driving) ms places) r e) c.in-Err-driving_in.ensures.refusal
