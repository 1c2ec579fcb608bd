use Rattle.std.proofs.Common.{◌≡◌, ◌++◌, length, map}
use Rattle.kc_macro_input.specs.Pieces.{marked}
use Rattle.kc_macro_input.specs.Ahead.{flat}
use Rattle.kc_macro_input.proofs.ahead.put_marked_pieces.Given as goal

abbrev pub invariant-loop-piece : goal.invariant-loop-piece
invariant-loop-piece l = record {
  same : l.marking ≡ l.fn.mark;
  kept : map (marked l.fn.mark) l.pieces.items ++ flat l.stack.items ≡ map (marked l.fn.mark) l.initial.pieces.items ++ flat l.initial.stack.items;
}

abbrev pub decreases-loop-piece : goal.decreases-loop-piece
decreases-loop-piece l = length l.pieces.items
