use Rattle.std.proofs.Common.{◌≡◌, ℕ, ◌+◌, List, length}
use Rattle.std.specs.Option.{option_or}
use Rattle.kc_link_place.specs.Names.{defining_from, found_in}
use Rattle.kc_link_place.proofs.names.public_names.Given as goal

abbrev pub invariant-loop-left : goal.invariant-loop-left
invariant-loop-left l = record {
  goes_on : (q : List ℕ) → option_or (found_in l.names.defining_modules.entries q) (defining_from l.index l.left q) ≡ defining_from 0 l.fn.modules q;
  count : l.index + length l.left ≡ length l.fn.modules;
}

abbrev pub decreases-loop-left : goal.decreases-loop-left
decreases-loop-left l = length l.left
