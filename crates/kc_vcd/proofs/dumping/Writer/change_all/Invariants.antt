use Rattle.std.proofs.Common.{◌≡◌, ℕ, List, ◌++◌, length, map}
use Rattle.kc_vcd.specs.Changes.{Timed, all_at, change_by}
use Rattle.kc_vcd.specs.Writing.{with_changes, IsSameLife}
use Rattle.kc_vcd.proofs.dumping.Writer.change_all.Given as goal

abbrev pub invariant-loop-left : goal.invariant-loop-left
invariant-loop-left l = record {
  changes : (end : ℕ) (more : List Timed) → with_changes l.self end (all_at l.at (map change_by l.left) ++ more)
      ≡ with_changes l.initial.self end (all_at l.at (map change_by l.whats) ++ more);
  same : IsSameLife l.initial.self l.self;
}

abbrev pub decreases-loop-left : goal.decreases-loop-left
decreases-loop-left l = length l.left
