use Rattle.std.proofs.Common.{◌≡◌, List, map, string_bytes, Err, sym, subst}
use Rattle.kc_obj_module.specs.Object.{Object}
use Rattle.kc_link_place.specs.Placements.{IsPlacement}
use Rattle.kc_link.specs.Placed.{ArePlacedAt, placed}
use Rattle.kc_kit_files.specs.Response.{IsRefused, Response}
use Rattle.kc_kit_files.proofs.ReadLemmas.{refused-widen}
use Rattle.kc_kit_inputs.specs.Driving.{given_in}
use Rattle.kc_kit_running.specs.Sources.{FileLines, lines_of_files}
use Rattle.kc_kit_answer.specs.Places.{places_of, Placing}
use Rattle.kc_kit_answer.specs.Run.{Driven, FilledReported}
use Rattle.kc_kit_answer.proofs.LinkLemmas.{placing-ok, placing-refused}
use Rattle.kc_kit_answer.proofs.board.board_with_modules.Goals as goal

pub board_at-requires-clause-placed : goal.board_at-requires-clause-placed
board_at-requires-clause-placed c =
    let ranges = c.args.placing.now in
    let p = c.in-Ok.placement in
    let is = subst (λ (ms : List Object). IsPlacement ms (placed ms ranges) p) c.deref.ensures.value c.in-Ok.ensures in
    subst (λ (ms : List Object). ArePlacedAt ms p) (sym c.deref-2.ensures.value) (record { ranges = ranges; in_bounds = c.requires.linkable.bounds; placement = is })

pub sources_of-requires : goal.sources_of-requires
sources_of-requires c =
    let ranges = c.args.placing.now in
    let is = subst (λ (ms : List Object). IsPlacement ms (placed ms ranges) c.in-Ok.placement) c.deref.ensures.value c.in-Ok.ensures in
    record { ranges = ranges; in_bounds = c.requires.linkable.bounds; placement = is }

pub returns-in-Err : goal.returns-in-Err
returns-in-Err c = λ report.
    let names = map string_bytes c.args.files.now in
    let ranges = c.args.placing.now in
    placing-refused names ranges (λ ms places. Driven (given_in c.args.given) FilledReported (report (lines_of_files names ms places)) ms places) c.args.modules.items c.in-Err.refusal
    (subst (λ (ms : List Object). IsRefused (λ (response : Response). places_of names ms ranges ≡ Err response) c.in-Err.refusal) c.deref.ensures.value c.in-Err.ensures)

pub returns-in-Ok-board_at : goal.returns-in-Ok-board_at
returns-in-Ok-board_at c = (
  c.sources_of.ensures.placed,
  λ report.
      let names = map string_bytes c.args.files.now in
      let given = given_in c.args.given in
      let ranges = c.args.placing.now in
      let ms = c.args.modules.items in
      let places = c.in-Ok.placement.places in
      let board = c.in-Ok-board_at.board in
      let lines : FileLines = lines_of_files names ms places in
      let is = subst (λ (ms : List Object). IsPlacement ms (placed ms ranges) c.in-Ok.placement) c.deref.ensures.value c.in-Ok.ensures in
      let driven = subst (λ (ms : List Object). Driven given FilledReported (report lines) ms places (report lines board.driving board.image)) c.deref-2.ensures.value (c.in-Ok-board_at.ensures (report lines)) in
      subst (λ (known : FileLines). Placing names ranges (λ ms places. Driven given FilledReported (report (lines_of_files names ms places)) ms places) ms (report known board.driving board.image)) (sym c.sources_of.ensures.lines)
      (placing-ok names ranges (λ ms places. Driven given FilledReported (report (lines_of_files names ms places)) ms places) ms places (report lines board.driving board.image) is.0 driven),
)

pub returns : goal.returns
returns c = λ report.
    let names = map string_bytes c.args.files.now in
    let given = given_in c.args.given in
    let ranges = c.args.placing.now in
    let ms = c.args.modules.items in
    let places = c.in-Ok.placement.places in
    let refusal = c.in-Err-board_at.refusal in
    let lines : FileLines = lines_of_files names ms places in
    let is = subst (λ (ms : List Object). IsPlacement ms (placed ms ranges) c.in-Ok.placement) c.deref.ensures.value c.in-Ok.ensures in
    let refused = subst (λ (ms : List Object). IsRefused (Driven given FilledReported (report lines) ms places) refusal) c.deref-2.ensures.value (c.in-Err-board_at.ensures (report lines)) in
    refused-widen (Driven given FilledReported (report lines) ms places) (Placing names ranges (λ ms places. Driven given FilledReported (report (lines_of_files names ms places)) ms places) ms) refusal
    (λ r m. placing-ok names ranges (λ ms places. Driven given FilledReported (report (lines_of_files names ms places)) ms places) ms places r is.0 m) refused
