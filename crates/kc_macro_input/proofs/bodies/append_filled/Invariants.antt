use Rattle.std.proofs.Common.{◌≡◌, drop}
use Rattle.kc_macro_input.specs.Filled.{together, fill_body, seen_filled}
use Rattle.kc_macro_input.proofs.bodies.append_filled.Given as goal

abbrev pub invariant-loop-piece : goal.invariant-loop-piece
invariant-loop-piece l = together (seen_filled l.all) (fill_body l.formals l.args l.given (drop l.piece-index l.body)) ≡ together (seen_filled l.fn.before) (fill_body l.formals l.args l.given l.body)
