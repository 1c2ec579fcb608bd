use Rattle.std.proofs.Common.{◌≡◌, ◌++◌, drop, map}
use Rattle.std.specs.List.{filter}
use Rattle.kc_macro_input.specs.Pieces.{marked, is_line}
use Rattle.kc_macro_input.proofs.bodies.turn_body.Given as goal

abbrev pub invariant-loop-piece : goal.invariant-loop-piece
invariant-loop-piece l = record {
  same : l.marking ≡ l.fn.mark;
  kept : l.body.items ++ map (marked l.fn.mark) (filter is_line (drop l.piece-index l.prefix)) ≡ map (marked l.fn.mark) (filter is_line l.prefix);
}
