use Rattle.std.proofs.Common.{◌≡◌, length}
use Rattle.kc_link.specs.Writes.{written, all_bytes, ModulesStand}
use Rattle.kc_link.proofs.filling.fill.Given as goal

abbrev pub invariant-loop-left : goal.invariant-loop-left
invariant-loop-left l = record {
  goes_on : written l.image (all_bytes l.left l.ahead) ≡ written l.initial.image (all_bytes l.fn.modules l.fn.bases);
  stand : ModulesStand l.left l.ahead;
}

abbrev pub decreases-loop-left : goal.decreases-loop-left
decreases-loop-left l = length l.left
