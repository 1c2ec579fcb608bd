use Rattle.std.proofs.Common.{◌-◌, ◌≤◌}
use Rattle.kc_events.specs.Coming.{HasSameRest, IsStillIn}
use Rattle.kc_events.specs.Underway.{present_in, IsSameLife}
use Rattle.kc_events.proofs.course.Course.reach.Given as goal

abbrev pub invariant-loop-self : goal.invariant-loop-self
invariant-loop-self l = HasSameRest l.at (present_in l.initial.self) (present_in l.self) × (l.initial.self.time ≤ l.at → l.self.time ≤ l.at) × IsSameLife l.initial.self l.self × IsStillIn (present_in l.self)

abbrev pub decreases-loop-self : goal.decreases-loop-self
decreases-loop-self l = l.at - l.self.time
