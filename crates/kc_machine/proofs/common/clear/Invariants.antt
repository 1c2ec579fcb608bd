use Rattle.std.proofs.Common.{◌≡◌, true}
use Rattle.std.specs.List.{AllWithin}
use Rattle.kc_exec_predecode.specs.Predecoding.{is_blank}
use Rattle.kc_machine.proofs.common.clear.Given as goal

abbrev pub invariant-loop-slot : goal.invariant-loop-slot
invariant-loop-slot l = AllWithin (λ r. is_blank r ≡ true) l.slot-items 0 l.slot-index
