use Rattle.std.proofs.Common.{arith}
use Rattle.kc_obj_fields.proofs.PlaceLemmas.{one_more_place}
use Rattle.kc_obj_fields.proofs.runs.put_places.Goals as goal

pub loop-i-preserved : goal.loop-i-preserved
loop-i-preserved c =
    record {
      places = one_more_place c.args.places.now c.loop-i.places c.put_place.new.places c.args.piece c.args.offset c.args.start c.loop-i.i c.loop-i.invariant.places c.in_ok-put_place.ensures;
      count = omega arith;
    }
