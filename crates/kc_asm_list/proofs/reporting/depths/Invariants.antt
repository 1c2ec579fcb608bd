use Rattle.std.proofs.Common.{◌≡◌}
use Rattle.kc_asm_list.specs.Depths.{so_far, run_out}
use Rattle.kc_asm_list.proofs.reporting.depths.Given as goal

abbrev pub invariant-loop-depths : goal.invariant-loop-depths
invariant-loop-depths l = record {
  same : run_out (so_far l.state l.depths.items) ≡ run_out (so_far l.initial.state l.initial.depths.items);
}

abbrev pub decreases-loop-depths : goal.decreases-loop-depths
decreases-loop-depths l = l.state.left
