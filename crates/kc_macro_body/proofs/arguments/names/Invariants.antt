use Rattle.std.proofs.Common.{◌≡◌, ◌≤◌, ◌-◌, length, drop}
use Rattle.kc_macro_body.specs.Arguments.{names_at}
use Rattle.kc_macro_body.proofs.ArgumentLemmas.{after_names}
use Rattle.kc_macro_body.proofs.arguments.names.Given as goal

abbrev pub invariant-loop-at : goal.invariant-loop-at
invariant-loop-at l = record {
  within : l.at ≤ length l.tokens;
  kept : after_names l.params (names_at (drop l.at l.tokens)) ≡ names_at l.tokens;
}

abbrev pub decreases-loop-at : goal.decreases-loop-at
decreases-loop-at l = length l.tokens - l.at
