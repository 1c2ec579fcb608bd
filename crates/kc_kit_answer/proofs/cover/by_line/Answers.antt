use Rattle.std.proofs.Common.{rules}
use Rattle.std.proofs.lemmas.List.Sorted.{IsNonDecreasingBy-from_sort_by_key, answers_always}
use Rattle.kc_profile.specs.declared.source.Instruction.{Instruction}
use Rattle.kc_kit_answer.proofs.CoverLemmas.{same}
use Rattle.kc_kit_answer.proofs.cover.by_line.Goals as goal

pub returns : goal.returns
returns c = record {
  rises = IsNonDecreasingBy-from_sort_by_key (λ (i : Instruction). i.line) _ c.in_ok-sort_by_key.ensures.sorted (λ a r q k. search rules);
  same = same _ _ (c.sort_by_key.ensures.stable (λ (i : Instruction). i.line) (answers_always _ _ _ (λ f a r g h. search rules)));
}
