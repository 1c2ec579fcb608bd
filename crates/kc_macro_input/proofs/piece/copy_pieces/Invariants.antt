use Rattle.std.proofs.Common.{◌≡◌, take}
use Rattle.kc_macro_input.proofs.piece.copy_pieces.Given as goal

abbrev pub invariant-loop-piece : goal.invariant-loop-piece
invariant-loop-piece l = l.copy.items ≡ take l.piece-index l.pieces
