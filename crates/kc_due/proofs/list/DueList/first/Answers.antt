use Rattle.kc_due.proofs.Orders.{none_found, first_found, head_in, no_time}
use Rattle.kc_due.proofs.list.DueList.first.Goals as goal

pub returns-in_err-slot : goal.returns-in_err-slot
returns-in_err-slot c = rw (c.from_residual.ensures, ← c.self.view_is) (none_found c.self.inside.links c.self.invariant c.in_err-slot.was)

pub bounds-self-inside-slot : goal.bounds-self-inside-slot
bounds-self-inside-slot c = (head_in c.self.inside.links c.in_ok-slot.slot c.self.invariant c.in_ok-slot.was).0

pub returns-in_err-at : goal.returns-in_err-at
returns-in_err-at c = absurd (no_time c.self.inside.links c.in_ok-slot.slot c.in_err-at.was (head_in c.self.inside.links c.in_ok-slot.slot c.self.invariant c.in_ok-slot.was).1)

pub returns : goal.returns
returns c = rw (← c.self.view_is) (first_found c.self.inside.links c.in_ok-slot.slot c.in_ok-at.at c.self.invariant c.in_ok-slot.was c.in_ok-at.was)
