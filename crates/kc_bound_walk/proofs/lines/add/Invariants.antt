use Rattle.std.proofs.Common.{◌≡◌, ℕ, ◌<◌, false}
use Rattle.std.specs.Prelude.{slice_index_or}
use Rattle.kc_bound_walk.specs.declared.lines.Spent.{Spent}
use Rattle.kc_bound_walk.specs.Walks.{is_alike}
use Rattle.kc_bound_walk.proofs.lines.add.Given as goal

abbrev pub invariant-loop-k : goal.invariant-loop-k
invariant-loop-k l = (l.lines.items ≡ l.fn.lines.items) × ((j : ℕ) (d : Spent) → j < l.k → is_alike (slice_index_or l.lines.items j d) l.s ≡ false)
