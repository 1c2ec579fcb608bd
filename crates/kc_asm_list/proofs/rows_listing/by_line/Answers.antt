use Rattle.std.proofs.Common.{rules, arith}
use Rattle.std.proofs.lemmas.List.Sorted.{IsNonDecreasingBy-from_sort_by_key, answers_always}
use Rattle.kc_asm_list.proofs.Order.{same, sorted_rises}
use Rattle.kc_asm_list.proofs.rows_listing.by_line.Goals as goal

pub returns-clause-rises : goal.returns-clause-rises
returns-clause-rises c =
    sorted_rises _ 0 (IsNonDecreasingBy-from_sort_by_key (λ s. s.line) _ c.in_ok-sort_by_key.ensures.sorted (λ a r q k. search rules)) (λ d lt. omega arith)

pub returns-clause-same : goal.returns-clause-same
returns-clause-same c = same _ _ (c.sort_by_key.ensures.stable (λ s. s.line) (answers_always _ _ _ (λ f a r g h. search rules)))
