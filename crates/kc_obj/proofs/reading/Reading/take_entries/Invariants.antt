use Rattle.std.proofs.Common.{◌≡◌, ◌+◌, ◌*◌, ◌≤◌}
use Rattle.kc_obj.specs.Reading.{after_entries}
use Rattle.kc_obj.proofs.reading.Reading.take_entries.Given as goal
use Rattle.kc_obj_fields.specs.Fields.{noted}

abbrev pub invariant-loop-left : goal.invariant-loop-left
invariant-loop-left l = record {
  read : after_entries noted l.left l.place l.segment l.piece l.rest l.self ≡ after_entries noted l.count l.at l.segment l.piece l.fn.body l.initial.self;
  place : l.place + 6 * l.left ≤ l.at + 6 * l.count;
}

abbrev pub decreases-loop-left : goal.decreases-loop-left
decreases-loop-left l = l.left
