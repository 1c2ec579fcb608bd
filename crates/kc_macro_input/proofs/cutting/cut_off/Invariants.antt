use Rattle.std.proofs.Common.{◌≡◌, ◌≤◌, length}
use Rattle.kc_macro_input.specs.Cuts.{cut_at}
use Rattle.kc_macro_input.proofs.CutLemmas.{after_prefix}
use Rattle.kc_macro_input.proofs.cutting.cut_off.Given as goal

abbrev pub invariant-loop-prefix : goal.invariant-loop-prefix
invariant-loop-prefix l = record {
  few : l.depth ≤ length l.prefix.items;
  kept : after_prefix l.prefix.items (cut_at l.extent l.depth l.ahead) ≡ cut_at l.extent 0 l.initial.ahead;
}

abbrev pub decreases-loop-prefix : goal.decreases-loop-prefix
decreases-loop-prefix l = length l.ahead
