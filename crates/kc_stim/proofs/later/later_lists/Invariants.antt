use Rattle.std.proofs.Common.{◌≡◌, take, map}
use Rattle.kc_stim.specs.Drives.{from_on}
use Rattle.kc_stim.proofs.LaterLaws.{itemized}
use Rattle.kc_stim.proofs.later.later_lists.Given as goal

abbrev pub invariant-loop-own : goal.invariant-loop-own
invariant-loop-own l = itemized l.later.items ≡ map (from_on l.at) (itemized (take l.own-index l.by_pin))
