use Rattle.std.proofs.Common.{◌≡◌, ◌≤◌, drop}
use Rattle.kc_macro_body.specs.Bodies.{placed, no_locals}
use Rattle.kc_macro_body.proofs.bodies.placed.Given as goal

abbrev pub invariant-loop-name : goal.invariant-loop-name
invariant-loop-name l = record {
  few : l.locals.count ≤ l.name-index;
  kept : placed l.params l.locals (drop l.name-index l.names) ≡ placed l.params no_locals l.names;
}
