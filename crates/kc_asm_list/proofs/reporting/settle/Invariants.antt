use Rattle.std.proofs.Common.{◌≡◌, ◌≤◌, length}
use Rattle.kc_macro.proofs.RunLemmas.{room}
use Rattle.kc_asm_list.specs.Depths.{so_far}
use Rattle.kc_asm_list.proofs.Course.{Reaches}
use Rattle.kc_asm_list.proofs.reporting.settle.Given as goal

abbrev pub invariant-loop-led : goal.invariant-loop-led
invariant-loop-led l = record {
  reached : Reaches (so_far l.initial.state l.initial.depths.items) (so_far l.state l.depths.items);
  left : l.state.left ≡ l.initial.state.left;
  few : room l.state ≤ room l.initial.state;
}

abbrev pub decreases-loop-led : goal.decreases-loop-led
decreases-loop-led l = length l.state.ahead
