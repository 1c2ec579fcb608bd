use Rattle.std.proofs.Common.{◌≡◌, ◌++◌, drop}
use Rattle.kc_asm_list.specs.Rows as spec
use Rattle.kc_asm_list.proofs.statements.put_all_made.Given as goal

abbrev pub invariant-loop-spot : goal.invariant-loop-spot
invariant-loop-spot l = l.text.items ++ spec.all_made l.object (drop l.spot-index l.spots) ≡ l.initial.text.items ++ spec.all_made l.object l.spots
