use Rattle.std.proofs.Common.{◌≡◌, List, map, string_bytes, Err, subst}
use Rattle.kc_obj_module.specs.Object.{Object}
use Rattle.kc_link_place.specs.Placements.{IsPlacement}
use Rattle.kc_link.specs.Placed.{placed}
use Rattle.kc_kit_files.specs.Response.{IsRefused, Response}
use Rattle.kc_kit_inputs.specs.Driving.{given_in}
use Rattle.kc_kit_messages.proofs.Words.{texts_in}
use Rattle.kc_kit_answer.specs.Places.{places_of, Placing}
use Rattle.kc_kit_answer.specs.Profile.{DrivenWithLines, FilledWithLines}
use Rattle.kc_kit_answer.proofs.LinesLemmas.{lines-widen}
use Rattle.kc_kit_answer.proofs.LinkLemmas.{placing-ok, placing-refused}
use Rattle.kc_kit_answer.proofs.profile.linked.Goals as goal

pub linked_at-requires-clause-placed : goal.linked_at-requires-clause-placed
linked_at-requires-clause-placed c =
    let ranges = c.args.placing.now in
    let is = subst (λ (ms : List Object). IsPlacement ms (placed ms ranges) c.in-Ok.placement) c.deref.ensures.value c.in-Ok.ensures in
    record { ranges = ranges; in_bounds = c.requires.linkable.bounds; placement = is }

pub returns-in-Ok : goal.returns-in-Ok
returns-in-Ok c =
    let names = map string_bytes c.args.names.now in
    let texts = texts_in c.args.texts.now in
    let given = given_in c.args.given in
    let ranges = c.args.placing.now in
    let ms = c.args.modules.items in
    let places = c.in-Ok.placement.places in
    let is = subst (λ (ms : List Object). IsPlacement ms (placed ms ranges) c.in-Ok.placement) c.deref.ensures.value c.in-Ok.ensures in
    lines-widen (λ report. DrivenWithLines given (FilledWithLines names texts) report ms places) (λ report. Placing names ranges (DrivenWithLines given (FilledWithLines names texts) report) ms) c.linked_at.result
    (λ report r m. placing-ok names ranges (DrivenWithLines given (FilledWithLines names texts) report) ms places r is.0 m) c.linked_at.ensures

pub returns : goal.returns
returns c = λ report.
    let names = map string_bytes c.args.names.now in
    let texts = texts_in c.args.texts.now in
    let ranges = c.args.placing.now in
    placing-refused names ranges (DrivenWithLines (given_in c.args.given) (FilledWithLines names texts) report) c.args.modules.items c.in-Err.refusal
    (subst (λ (ms : List Object). IsRefused (λ (response : Response). places_of names ms ranges ≡ Err response) c.in-Err.refusal) c.deref.ensures.value c.in-Err.ensures)
