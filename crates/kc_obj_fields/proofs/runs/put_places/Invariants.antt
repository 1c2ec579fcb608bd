use Rattle.std.proofs.Common.{◌-◌, ◌≤◌}
use Rattle.kc_obj_fields.specs.Places.{PutsRun}
use Rattle.kc_obj_fields.proofs.runs.put_places.Given as goal

abbrev pub invariant-loop-i : goal.invariant-loop-i
invariant-loop-i l = record { places : PutsRun l.fn.places l.places l.piece l.offset l.start l.i; count : l.i ≤ l.count }

abbrev pub decreases-loop-i : goal.decreases-loop-i
decreases-loop-i l = l.count - l.i
