use Rattle.std.proofs.Common.{◌≡◌, ◌≤◌, Some, drop}
use Rattle.kc_macro_body.specs.Bodies.{both, local_names}
use Rattle.kc_macro_body.proofs.bodies.local_names.Given as goal

abbrev pub invariant-loop-line : goal.invariant-loop-line
invariant-loop-line l = record {
  shallow : l.depth ≤ l.line-index;
  kept : both (Some l.found) (local_names l.depth (drop l.line-index l.lines)) ≡ local_names 0 l.lines;
}
