use Rattle.std.proofs.Common.{◌≡◌}
use Rattle.kc_stim.specs.Drives.{levels_known}
use Rattle.kc_stim.specs.Parts.{drives_in}
use Rattle.kc_stim.proofs.later.levels_before.Given as goal

abbrev pub invariant-loop-pin : goal.invariant-loop-pin
invariant-loop-pin l = l.levels.items ≡ levels_known (drives_in l.index).stimuli l.at l.pin
