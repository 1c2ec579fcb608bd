use Rattle.std.proofs.Common.{◌≡◌, map}
use Rattle.kc_kit_answer.specs.Profile.{map_entry}
use Rattle.kc_kit_answer.proofs.profile.entries_of.Given as goal

abbrev pub invariant-loop-line : goal.invariant-loop-line
invariant-loop-line l = l.entries.items ≡ map map_entry l.yielded
