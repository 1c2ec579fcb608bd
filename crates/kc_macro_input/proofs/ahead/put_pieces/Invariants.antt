use Rattle.std.proofs.Common.{◌≡◌, ◌++◌, length}
use Rattle.kc_macro_input.specs.Ahead.{flat}
use Rattle.kc_macro_input.proofs.ahead.put_pieces.Given as goal

abbrev pub invariant-loop-piece : goal.invariant-loop-piece
invariant-loop-piece l = l.pieces.items ++ flat l.stack.items ≡ l.initial.pieces.items ++ flat l.initial.stack.items

abbrev pub decreases-loop-piece : goal.decreases-loop-piece
decreases-loop-piece l = length l.pieces.items
