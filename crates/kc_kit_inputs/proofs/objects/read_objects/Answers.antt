use Rattle.std.proofs.Common.{◌≡◌, ◌≤◌, ◌<◌, ◌+◌, ◌∷◌, [], ◌∙◌, ap, sym, subst, length, drop, arith, Err}
use Rattle.std.specs.Prelude.{◌^◌}
use Rattle.std.specs.List.{All}
use Rattle.std.proofs.lemmas.List.{length-append}
use Rattle.std.proofs.lemmas.List.Elements.{All-append}
use Rattle.kc_obj_module.specs.Spelling.{spelling}
use Rattle.kc_kit_files.specs.Response.{Response}
use Rattle.kc_kit_files.proofs.ReadLemmas.{refused-widen}
use Rattle.kc_kit_inputs.specs.Objects.{modules_of, object_of}
use Rattle.kc_kit_inputs.proofs.ObjectLemmas.{all-one, prepend, object-next, object-stop}
use Rattle.kc_kit_messages.proofs.Words.{names_in, texts_in, short-at}
use Rattle.kc_kit_inputs.proofs.objects.read_objects.Goals as goal

pub read_object-requires : goal.read_object-requires
read_object-requires c =
    subst (λ b. length b ≤ 1048576) (sym c.deref.ensures.value)
    (short-at c.args.texts.now c.loop-i.i c.index-texts-i.result c.requires.short (omega (arith, c.loop-i-test.true, c.requires.count)) c.index-texts-i.is)

pub returns-in-Err-clause-refusal : goal.returns-in-Err-clause-refusal
returns-in-Err-clause-refusal c =
    let l = c.loop-i in
    let within : l.i < length c.args.names.now = omega (arith, c.loop-i-test.true) in
    refused-widen (λ (response : Response). object_of c.as_str.result.now c.deref.result.now ≡ Err response) (λ (response : Response). modules_of object_of (names_in c.args.names.now) (texts_in c.args.texts.now) ≡ Err response) c.in-Err.refusal
    (λ r e. l.invariant.same ∙ object-stop c.args.names.now c.args.texts.now l.i c.index-names-i.result c.index-texts-i.result l.modules.items r within c.requires.count c.index-names-i.is c.index-texts-i.is
    (ap (λ n. object_of n c.index-texts-i.result.items) (sym c.as_str.ensures.value) ∙ ap (object_of c.as_str.result.now) (sym c.deref.ensures.value) ∙ e))
    c.in-Err.ensures.refusal

pub loop-i-preserved : goal.loop-i-preserved
loop-i-preserved c =
    let l = c.loop-i in
    let within : l.i < length c.args.names.now = omega (arith, c.loop-i-test.true) in
    let next = object-next c.args.names.now c.args.texts.now l.i c.index-names-i.result c.index-texts-i.result l.modules.items c.in-Ok.object within c.requires.count c.index-names-i.is c.index-texts-i.is
    (ap (λ n. object_of n c.index-texts-i.result.items) (sym c.as_str.ensures.value) ∙ ap (object_of c.as_str.result.now) (sym c.deref.ensures.value) ∙ c.in-Ok.ensures.object) in
    let pushed = c.in_ok-push-in-Ok.ensures in
    record {
      same = l.invariant.same ∙ next ∙ ap (λ ms. prepend ms (modules_of object_of (drop (l.i + 1) (names_in c.args.names.now)) (drop (l.i + 1) (texts_in c.args.texts.now)))) (sym pushed);
      short = subst (All (λ m. length (spelling m) < 2 ^ 32)) (sym pushed) (All-append (λ m. length (spelling m) < 2 ^ 32) l.modules.items (c.in-Ok.object ∷ []) l.invariant.short (all-one (λ m. length (spelling m) < 2 ^ 32) c.in-Ok.object c.in-Ok.ensures.short));
      count = ap length pushed ∙ length-append l.modules.items (c.in-Ok.object ∷ []) ∙ ap (λ n. n + 1) l.invariant.count;
    }
