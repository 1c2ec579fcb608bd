use Rattle.std.proofs.Common.{◌≡◌, ◌++◌, length, All}
use Rattle.kc_vcd.specs.Variables.{IsVariable}
use Rattle.kc_vcd.specs.Dump.{declarations}
use Rattle.kc_vcd.proofs.shown.put_declarations.Given as goal

abbrev pub invariant-loop-left : goal.invariant-loop-left
invariant-loop-left l = record {
  text : l.text.items ++ declarations l.left ≡ l.initial.text.items ++ declarations l.variables;
  known : All IsVariable l.left;
}

abbrev pub decreases-loop-left : goal.decreases-loop-left
decreases-loop-left l = length l.left
