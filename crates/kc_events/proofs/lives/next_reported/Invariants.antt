use Rattle.kc_events.specs.Reporting.{HasRead, IsInStep, reporting}
use Rattle.kc_events.proofs.lives.next_reported.Given as goal

abbrev pub invariant-loop : goal.invariant-loop
invariant-loop g l = HasRead (reporting l.initial.trace l.initial.course) (reporting l.trace l.course) × IsInStep (reporting l.trace l.course)
