use Rattle.std.proofs.Common.{◌≡◌, ◌++◌}
use Rattle.kc_vcd.specs.Variables.{channels}
use Rattle.kc_vcd.proofs.shown.push_channels.Given as goal

abbrev pub invariant-loop-channel : goal.invariant-loop-channel
invariant-loop-channel l = l.variables.items ≡ l.initial.variables.items ++ channels l.samples l.channel
