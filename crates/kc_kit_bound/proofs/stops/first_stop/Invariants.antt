use Rattle.std.proofs.Common.{◌≡◌, ◌-◌}
use Rattle.kc_kit_bound.specs.Stops.{may_stop, first_among}
use Rattle.kc_kit_bound.proofs.stops.first_stop.Given as goal

abbrev pub invariant-loop-at : goal.invariant-loop-at
invariant-loop-at l = first_among (may_stop l.image l.notes l.from l.c) l.at (0x6000 - l.at) ≡ first_among (may_stop l.image l.notes l.from l.c) 0x2000 0x4000
