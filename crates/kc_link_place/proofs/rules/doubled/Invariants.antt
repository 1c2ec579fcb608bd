use Rattle.std.proofs.Common.{◌≡◌, ◌+◌, length}
use Rattle.kc_link_place.specs.Names.{doubled, Knows}
use Rattle.kc_link_place.proofs.rules.doubled.Given as goal

abbrev pub invariant-loop-left : goal.invariant-loop-left
invariant-loop-left l = record {
  goes_on : Knows l.names.defining_modules.entries l.fn.modules → doubled l.fn.modules l.index l.left ≡ doubled l.fn.modules 0 l.fn.modules;
  count : l.index + length l.left ≡ length l.fn.modules;
}

abbrev pub decreases-loop-left : goal.decreases-loop-left
decreases-loop-left l = length l.left
