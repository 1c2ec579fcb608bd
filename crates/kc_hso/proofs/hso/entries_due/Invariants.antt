use Rattle.std.proofs.Common.{ℕ, Bool, List, None}
use Rattle.kc_hso.specs.Visits.{IsDueOutside}
use Rattle.kc_hso.proofs.hso.entries_due.Given as goal

abbrev pub invariant-loop-left : goal.invariant-loop-left
invariant-loop-left l = (command : ℕ) (latches : List Bool) →
    IsDueOutside l.view l.now (record { command = command; slots = l.slots; holding = None; latches = latches }) l.left l.best

abbrev pub decreases-loop-left : goal.decreases-loop-left
decreases-loop-left l = l.left
