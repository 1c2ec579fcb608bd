use Rattle.std.proofs.Common.{map}
use Rattle.std.proofs.Common.{◌≡◌, ◌≤◌, ◌++◌, drop}
use Rattle.kc_macro_body.specs.Arguments.{split_at_commas, ungrouped}
use Rattle.kc_macro_body.proofs.ArgumentLemmas.{with_last}
use Rattle.kc_macro_body.proofs.arguments.arguments.Given as goal

abbrev pub invariant-loop-token : goal.invariant-loop-token
invariant-loop-token l = record {
  shallow : l.depth ≤ l.token-index;
  kept : l.texts ++ map ungrouped (with_last l.last (split_at_commas l.depth (drop l.token-index l.tokens))) ≡ map ungrouped (split_at_commas 0 l.tokens);
}
