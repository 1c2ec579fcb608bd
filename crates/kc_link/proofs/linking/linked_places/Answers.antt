use Rattle.std.proofs.Common.{◌∙◌}
use Rattle.kc_link.proofs.PlacedLemmas.{placed_ok, placed_err}
use Rattle.kc_link.proofs.linking.linked_places.Goals as goal

pub returns-in-Ok : goal.returns-in-Ok
returns-in-Ok c =
    let p = c.in_ok-placement.ensures in
    (placed_ok c.args.modules.now c.args.ranges.now c.in_ok-placement.placement.places c.deref.result.now p.0 (c.deref.ensures.value ∙ p.1) c.in-Ok.ensures, p.1)

pub returns-in-Err : goal.returns-in-Err
returns-in-Err c =
    let p = c.in_ok-placement.ensures in
    placed_err c.args.modules.now c.args.ranges.now c.in_ok-placement.placement.places c.deref.result.now c.in-Err.fault p.0 (c.deref.ensures.value ∙ p.1) c.in-Err.ensures
