use Rattle.std.proofs.Common.{◌≡◌, ◌++◌}
use Rattle.kc_vcd.specs.Variables.{transfers}
use Rattle.kc_vcd.proofs.shown.push_transfers.Given as goal

abbrev pub invariant-loop-number : goal.invariant-loop-number
invariant-loop-number l = l.variables.items ≡ l.initial.variables.items ++ transfers l.number
