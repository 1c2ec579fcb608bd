use Rattle.std.proofs.Common.{◌≡◌, ◌++◌, drop, map}
use Rattle.kc_macro_input.specs.Pieces.{body_line}
use Rattle.kc_macro_input.proofs.bodies.body_lines.Given as goal

abbrev pub invariant-loop-line : goal.invariant-loop-line
invariant-loop-line l = l.body.items ++ map (body_line l.number l.from) (drop l.line-index l.lines) ≡ map (body_line l.number l.from) l.lines
