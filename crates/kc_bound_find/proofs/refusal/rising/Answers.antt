use Rattle.std.proofs.Common.{rules}
use Rattle.std.proofs.lemmas.Result.{IfOk-weaker}
use Rattle.std.proofs.lemmas.List.Sorted.{IsNonDecreasingBy-from_sort_by_key}
use Rattle.kc_bound_find.specs.Refusals.{order_of, StandRising}
use Rattle.kc_bound_find.proofs.Refusing.{as_sorted}
use Rattle.kc_bound_find.proofs.refusal.rising.Goals as goal

pub each_once-requires : goal.each_once-requires
each_once-requires c = rw c.as_slice.ensures.value (IsNonDecreasingBy-from_sort_by_key order_of _ c.sort_unstable_by_key.ensures.sorted (λ a r q k. search rules))

pub returns : goal.returns
returns c =
    IfOk-weaker c.each_once.result (λ found. StandRising c.as_slice.result.now found.items) (λ found. StandRising c.args.refused.items found.items)
    (λ found stand. as_sorted c.args.refused.items c.as_slice.result.now found.items (rw c.as_slice.ensures.value c.sort_unstable_by_key.ensures.permutation) stand)
    c.each_once.ensures
