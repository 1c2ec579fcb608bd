use Rattle.std.proofs.Common.{◌≡◌, ◌+◌, ◌*◌, ◌<◌, IfSome}
use Rattle.kc_due.specs.Links.{IsIn, place, next_of}
use Rattle.kc_due.proofs.Orders.{left}
use Rattle.kc_due.proofs.links.Links.before.Given as goal

abbrev pub invariant-loop-later : goal.invariant-loop-later
invariant-loop-later l = record {
  next : l.later ≡ next_of l.self l.earlier;
  before : IfSome l.earlier (λ k. IsIn l.self k × (place l.self k < l.at * 16 + l.slot));
}

abbrev pub decreases-loop-later : goal.decreases-loop-later
decreases-loop-later l = left l.self (l.at * 16 + l.slot) l.later
