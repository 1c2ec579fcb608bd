use Rattle.std.proofs.Common.{sym, ◌∙◌, arith}
use Rattle.std.specs.List.{list_all}
use Rattle.kc_obj_module.specs.Fixups.{has_room}
use Rattle.kc_obj_module.proofs.RoomLemmas.{room_step}
use Rattle.kc_obj_module.proofs.fixups.have_room.Goals as goal

pub loop-i-preserved : goal.loop-i-preserved
loop-i-preserved c =
    let step = room_step c.loop-i.ahead.now c.from_place-ahead.result.now c.args.fixups.now c.loop-i.i _ (list_all (has_room c.args.contents.now) c.args.fixups.now) c.loop-i-test.true c.from_place-ahead.ensures.same c.loop-i.invariant.fixups c.loop-i.invariant.kept (sym c.room_at.ensures ∙ c.if-not-room_at.false) in
    record { within = omega arith; contents = c.from_place-ahead.ensures.ordered; fixups = step.0; kept = step.1 }
