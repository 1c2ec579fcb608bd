use Rattle.std.proofs.Common.{◌≡◌, drop}
use Rattle.kc_macro_input.specs.declared.piece.Piece.{Piece}
use Rattle.kc_lex.specs.LineFaults.{lesser}
use Rattle.kc_macro_input.specs.Filled.{fill_turns, fault_of}
use Rattle.kc_macro_input.proofs.bodies.turns_fault.Given as goal

abbrev pub invariant-loop-arg : goal.invariant-loop-arg
invariant-loop-arg l = (head : Piece) → lesser l.found (fault_of (fill_turns l.formals head l.body (drop l.arg-index l.args))) ≡ fault_of (fill_turns l.formals head l.body l.args)
