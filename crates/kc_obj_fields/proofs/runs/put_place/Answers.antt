use Rattle.std.proofs.Common.{◌≡◌, None, sym, ◌∙◌}
use Rattle.std.specs.HashMap.{get}
use Rattle.kc_obj_fields.specs.Places.{same_place}
use Rattle.kc_obj_fields.proofs.PlaceLemmas.{inserted, nothing_copied}
use Rattle.kc_obj_fields.proofs.runs.put_place.Goals as goal

pub returns-in_ok-insert : goal.returns-in_ok-insert
returns-in_ok-insert c =
    let none : get same_place c.args.places.now (c.args.piece, c.args.offset) ≡ None = sym c.get.ensures.value ∙ nothing_copied c.get.result c.is_none.result c.is_none.ensures c.if-is_none.true in
    inserted c.args.places.now c.insert.new.self c.args.piece c.args.offset c.args.start none c.in_ok-insert.ensures.updates.0
