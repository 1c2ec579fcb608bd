use Rattle.std.proofs.Common.{◌≡◌, Ok, Err, subst}
use Rattle.kc_kit_words.specs.Inputs.{inputs_in}
use Rattle.kc_kit_files.specs.Response.{IsRefused}
use Rattle.kc_kit_inputs.specs.Annotations.{annotations_of, said_in}
use Rattle.kc_kit_messages.proofs.Words.{texts_in}
use Rattle.kc_kit_answer.proofs.BoundLemmas.{end_word, image-refused, annotations-refused, passes-prepared}
use Rattle.kc_kit_answer.proofs.bound.bound_text.Goals as goal

pub returns-in-Err : goal.returns-in-Err
returns-in-Err c =
    let bound = c.args.bound.now in
    image-refused bound.file.now bound.from.now (end_word bound) (inputs_in bound.inputs) bound.wanted c.args.text.now (texts_in c.args.inputs.now) c.in-Err.refusal c.in-Err.ensures.refusal

pub returns-in-Ok-annotations_in : goal.returns-in-Ok-annotations_in
returns-in-Ok-annotations_in c =
    let bound = c.args.bound.now in
    passes-prepared bound.file.now bound.from.now (end_word bound) (inputs_in bound.inputs) bound.wanted c.args.text.now (texts_in c.args.inputs.now) c.in-Ok.image (said_in c.in-Ok-annotations_in.annotations) c.bound_passes.result
    c.in-Ok.ensures.image (subst (λ f. annotations_of f ≡ Ok (said_in c.in-Ok-annotations_in.annotations)) c.annotation_files.ensures.files c.in-Ok-annotations_in.ensures.annotations) c.bound_passes.ensures

pub returns : goal.returns
returns c =
    let bound = c.args.bound.now in
    annotations-refused bound.file.now bound.from.now (end_word bound) (inputs_in bound.inputs) bound.wanted c.args.text.now (texts_in c.args.inputs.now) c.in-Ok.image c.in-Err-annotations_in.refusal
    c.in-Ok.ensures.image (subst (λ f. IsRefused (λ response. annotations_of f ≡ Err response) c.in-Err-annotations_in.refusal) c.annotation_files.ensures.files c.in-Err-annotations_in.ensures.refusal)
