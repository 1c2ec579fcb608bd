use Rattle.std.proofs.Common.{◌≡◌, length}
use Rattle.kc_macro_input.specs.Ahead.{flat}
use Rattle.kc_macro_input.specs.Pieces.{left_out}
use Rattle.kc_macro_input.proofs.ahead.leave_pieces.Given as goal

abbrev pub invariant-loop-piece : goal.invariant-loop-piece
invariant-loop-piece l = left_out l.mark (flat l.stack.items) ≡ left_out l.mark (flat l.initial.stack.items)

abbrev pub decreases-loop-piece : goal.decreases-loop-piece
decreases-loop-piece l = length (flat l.stack.items)
