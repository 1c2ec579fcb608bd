use Rattle.std.proofs.Common.{◌≡◌, ◌+◌, ◌*◌, ◌≤◌, length}
use Rattle.kc_link_place.specs.Placing.{stack_sum}
use Rattle.kc_link_place.proofs.stack.stack_sum.Given as goal

abbrev pub invariant-loop-left : goal.invariant-loop-left
invariant-loop-left l = record {
  goes_on : l.sum + stack_sum l.left ≡ stack_sum l.fn.modules;
  bound : l.sum + 65535 * length l.left ≤ 65535 * 64;
}

abbrev pub decreases-loop-left : goal.decreases-loop-left
decreases-loop-left l = length l.left
