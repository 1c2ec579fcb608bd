use Rattle.std.proofs.Common.{◌≡◌, ◌≤◌, ◌+◌, ◌-◌, length, drop}
use Rattle.kc_macro_body.specs.Arguments.{closes}
use Rattle.kc_macro_body.proofs.arguments.closes.Given as goal

abbrev pub invariant-loop-at : goal.invariant-loop-at
invariant-loop-at l = record {
  within : l.at ≤ length l.tokens;
  shallow : l.depth ≤ l.at + 1;
  kept : closes l.depth (drop l.at l.tokens) ≡ closes 1 l.tokens;
}

abbrev pub decreases-loop-at : goal.decreases-loop-at
decreases-loop-at l = length l.tokens - l.at
