use Rattle.std.specs.List.{All}
use Rattle.kc_bound_find.specs.Refusals.{IsRefusal}
use Rattle.kc_bound_find.proofs.reach.reach.Given as goal

abbrev pub invariant-loop-k : goal.invariant-loop-k
invariant-loop-k l = All (IsRefusal l.image l.notes) l.refused.items
