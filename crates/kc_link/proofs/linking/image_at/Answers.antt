use Rattle.std.proofs.Common.{◌≡◌, ◌∙◌, ap, List}
use Rattle.kc_link_place.specs.BaseLists.{BaseLists}
use Rattle.kc_link_place.specs.Placing.{bases_from}
use Rattle.kc_link_place.specs.Apart.{CodeIsApart}
use Rattle.kc_link.specs.Writes.{written, all_bytes}
use Rattle.kc_link.proofs.PlacedLemmas.{was_located}
use Rattle.kc_link.proofs.ImageLemmas.{modules_stand, is_filled}
use Rattle.kc_link.proofs.linking.image_at.Goals as goal

pub fill-requires : goal.fill-requires
fill-requires c =
    let ms = c.args.modules.now in
    let p = c.args.placement.now.places in
    let at = c.requires in
    let w = was_located ms at.ranges p at.placement.0 in
    let a : CodeIsApart ms p = c.code_stands_apart.ensures ms at.ranges p c.keep_rules.ensures at.in_bounds w.located_ok in
    rw (c.deref.ensures.value, at.placement.1) (modules_stand ms p c.keep_rules.ensures a w.fit)

pub returns : goal.returns
returns c =
    let ms = c.args.modules.now in
    let p = c.args.placement.now.places in
    let at = c.requires in
    let w = was_located ms at.ranges p at.placement.0 in
    let a : CodeIsApart ms p = c.code_stands_apart.ensures ms at.ranges p c.keep_rules.ensures at.in_bounds w.located_ok in
    let b : c.deref.result.now ≡ bases_from ms p 0 ms = c.deref.ensures.value ∙ at.placement.1 in
    is_filled ms p c.keep_rules.ensures a c.in_ok-image.image c.fill.new.image c.in_ok-image.ensures.long c.in_ok-image.ensures.empty
    (c.fill.ensures ∙ ap (λ (l : List BaseLists). written c.in_ok-image.image (all_bytes ms l)) b)
