use Rattle.std.proofs.Common.{◌∙◌, ap}
use Rattle.std.specs.Prelude.{flat_map}
use Rattle.kc_link_place.specs.BaseLists.{bases_in}
use Rattle.kc_kit_answer.specs.Cover.{code_base, instructions_of}
use Rattle.kc_kit_answer.proofs.CoverLemmas.{of_spots}
use Rattle.kc_kit_answer.proofs.cover.instructions_of.Goals as goal

pub returns : goal.returns
returns c =
    let image = c.args.image.now in
    let m = c.args.object.now in
    let bases = c.args.bases.now in
    let spots = c.in-Ok.spots.items in
    let base = c.code_base-base.ensures ∙ ap (λ s. code_base s (bases_in bases)) c.segments.ensures in
    let is = c.in_ok-of_statements.ensures ∙ (ap (flat_map (instructions_of image c.code_base-base.result)) c.deref.ensures.value ∙ ap (λ b. flat_map (instructions_of image b) spots) base) in
    of_spots c.by_line.result c.in_ok-of_statements.field-0.items spots c.args.text.now image m bases c.in-Ok.ensures is c.by_line.ensures
