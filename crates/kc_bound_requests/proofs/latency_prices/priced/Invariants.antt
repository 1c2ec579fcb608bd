use Rattle.std.proofs.Common.{◌≡◌, ◌+◌, ◌^◌, ◌<◌, length}
use Rattle.kc_bound.specs.Certified as spec
use Rattle.kc_bound_requests.specs.Times.{times_of}
use Rattle.kc_bound_requests.proofs.latency_prices.priced.Given as goal

abbrev pub invariant-loop-loops_left : goal.invariant-loop-loops_left
invariant-loop-loops_left l = (l.sum < 2 ^ 128) × (l.sum + spec.priced (times_of l.kind) l.loops_left l.prices_left ≡ spec.priced (times_of l.kind) l.fn.loops l.fn.prices)

abbrev pub decreases-loop-loops_left : goal.decreases-loop-loops_left
decreases-loop-loops_left l = length l.loops_left
