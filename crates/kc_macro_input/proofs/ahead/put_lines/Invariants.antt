use Rattle.std.proofs.Common.{◌≡◌, ◌++◌, length, map}
use Rattle.kc_macro_input.specs.Pieces.{first_piece}
use Rattle.kc_macro_input.specs.Ahead.{flat}
use Rattle.kc_macro_input.proofs.ahead.put_lines.Given as goal

abbrev pub invariant-loop-line : goal.invariant-loop-line
invariant-loop-line l = map first_piece l.lines.items ++ flat l.stack.items ≡ map first_piece l.initial.lines.items ++ flat l.initial.stack.items

abbrev pub decreases-loop-line : goal.decreases-loop-line
decreases-loop-line l = length l.lines.items
