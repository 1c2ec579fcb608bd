use Rattle.std.proofs.Common.{◌≡◌, ◌++◌}
use Rattle.kc_vcd.specs.Variables.{inputs}
use Rattle.kc_vcd.proofs.shown.push_inputs.Given as goal

abbrev pub invariant-loop-pin : goal.invariant-loop-pin
invariant-loop-pin l = l.variables.items ≡ l.initial.variables.items ++ inputs l.stimuli l.pin
