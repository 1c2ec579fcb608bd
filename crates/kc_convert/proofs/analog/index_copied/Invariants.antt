use Rattle.std.proofs.Common.{◌≡◌, take}
use Rattle.kc_convert.specs.Parts.{samples_in, IsWhole}
use Rattle.kc_convert.proofs.analog.index_copied.Given as goal

abbrev pub invariant-loop-sample : goal.invariant-loop-sample
invariant-loop-sample l = (samples_in l.copy ≡ take l.sample-index (samples_in l.index)) × IsWhole l.copy
