use Rattle.std.proofs.Common.{◌≡◌, ◌≤◌}
use Rattle.kc_base.specs.Bits.{bit}
use Rattle.kc_intc.specs.Choosing.{greatest}
use Rattle.kc_intc.proofs.requests.highest.Given as goal

abbrev pub invariant-loop-n : goal.invariant-loop-n
invariant-loop-n l = record {
  above : greatest (bit l.set) 15 ≡ greatest (bit l.set) l.n;
  within : l.n ≤ 15;
}

abbrev pub decreases-loop-n : goal.decreases-loop-n
decreases-loop-n l = l.n
