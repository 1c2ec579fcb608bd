use Rattle.std.proofs.Common.{◌≡◌, take, map}
use Rattle.kc_asm_layout.specs.Text as spec
use Rattle.kc_asm_layout.proofs.laying.gaps.Given as goal

abbrev pub invariant-loop-location : goal.invariant-loop-location
invariant-loop-location l = l.gaps.items ≡ map spec.gap_before (take l.location-index l.locations)
