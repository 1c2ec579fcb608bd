use Rattle.std.proofs.Common.{◌≡◌, ◌++◌, map, take}
use Rattle.kc_bound_find.specs.Refusals.{refusal_for}
use Rattle.kc_bound_find.proofs.refusal.refuse_all.Given as goal

abbrev pub invariant-loop-at : goal.invariant-loop-at
invariant-loop-at l = l.refused.items ≡ l.initial.refused.items ++ map (refusal_for l.why) (take l.at-index l.addresses)
