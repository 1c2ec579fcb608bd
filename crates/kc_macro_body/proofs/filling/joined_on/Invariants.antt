use Rattle.std.proofs.Common.{◌≡◌, ◌≤◌, ◌-◌, length, drop}
use Rattle.kc_macro_body.specs.Filling.{joined_on}
use Rattle.kc_macro_body.proofs.FillLemmas.{after_line}
use Rattle.kc_macro_body.proofs.filling.joined_on.Given as goal

abbrev pub invariant-loop-at : goal.invariant-loop-at
invariant-loop-at l = record {
  within : l.at ≤ length l.tokens;
  kept : after_line l.line (joined_on l.last (drop l.at l.tokens)) ≡ joined_on l.fn.first l.tokens;
}

abbrev pub decreases-loop-at : goal.decreases-loop-at
decreases-loop-at l = length l.tokens - l.at
