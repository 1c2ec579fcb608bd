use Rattle.std.proofs.Common.{◌≡◌, ℕ, List, length}
use Rattle.std.specs.Option.{option_or}
use Rattle.kc_link_place.specs.Names.{defining_among, found_in}
use Rattle.kc_link_place.proofs.names.Names.note_all.Given as goal

abbrev pub invariant-loop-left : goal.invariant-loop-left
invariant-loop-left l = (q : List ℕ) → option_or (found_in l.self.defining_modules.entries q) (defining_among l.index l.left q) ≡ option_or (found_in l.initial.self.defining_modules.entries q) (defining_among l.index l.fn.publics q)

abbrev pub decreases-loop-left : goal.decreases-loop-left
decreases-loop-left l = length l.left
