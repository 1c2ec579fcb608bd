use Rattle.std.proofs.Common.{◌≡◌, ◌++◌}
use Rattle.kc_vcd.specs.Variables.{outputs}
use Rattle.kc_vcd.proofs.shown.push_outputs.Given as goal

abbrev pub invariant-loop-pin : goal.invariant-loop-pin
invariant-loop-pin l = l.variables.items ≡ l.initial.variables.items ++ outputs l.pin
