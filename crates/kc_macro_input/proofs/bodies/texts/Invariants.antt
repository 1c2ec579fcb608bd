use Rattle.std.proofs.Common.{◌≡◌, ◌++◌, drop}
use Rattle.kc_macro_input.specs.Pieces.{texts_of}
use Rattle.kc_macro_input.proofs.bodies.texts.Given as goal

abbrev pub invariant-loop-piece : goal.invariant-loop-piece
invariant-loop-piece l = l.texts ++ texts_of (drop l.piece-index l.prefix) ≡ texts_of l.prefix
