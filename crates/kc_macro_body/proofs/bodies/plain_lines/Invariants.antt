use Rattle.std.proofs.Common.{◌≡◌, ◌≤◌, ◌++◌, drop}
use Rattle.kc_macro_body.specs.Bodies.{plain_lines}
use Rattle.kc_macro_body.proofs.bodies.plain_lines.Given as goal

abbrev pub invariant-loop-line : goal.invariant-loop-line
invariant-loop-line l = record {
  shallow : l.depth ≤ l.line-index;
  kept : l.plain ++ plain_lines l.depth (drop l.line-index l.lines) ≡ plain_lines 0 l.lines;
}
