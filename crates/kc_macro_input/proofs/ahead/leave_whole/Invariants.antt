use Rattle.std.proofs.Common.{◌≡◌, length}
use Rattle.kc_macro_input.specs.Ahead.{flat}
use Rattle.kc_macro_input.specs.Pieces.{left_out}
use Rattle.kc_macro_input.proofs.ahead.leave_whole.Given as goal

abbrev pub invariant-loop-held : goal.invariant-loop-held
invariant-loop-held l = left_out l.mark (flat l.stack.items) ≡ left_out l.mark (flat l.initial.stack.items)

abbrev pub decreases-loop-held : goal.decreases-loop-held
decreases-loop-held l = length l.stack.items
