use Rattle.std.proofs.Common.{◌≡◌, ℕ, List, ◌++◌, length}
use Rattle.kc_trace.specs.Tables.{level_in}
use Rattle.kc_vcd.specs.Changes.{Timed, all_at, differences}
use Rattle.kc_vcd.specs.Writing.{with_changes, IsSameLife}
use Rattle.kc_vcd.proofs.dumping.Writer.change_levels.Given as goal

abbrev pub invariant-loop-left : goal.invariant-loop-left
invariant-loop-left l = record {
  changes : (end : ℕ) (more : List Timed) → with_changes l.self end (all_at l.at (differences l.left (level_in l.initial.self.levels) (level_in l.levels)) ++ more)
      ≡ with_changes l.initial.self end (all_at l.at (differences l.initial.self.shown.variables (level_in l.initial.self.levels) (level_in l.levels)) ++ more);
  same : IsSameLife l.initial.self l.self;
}

abbrev pub decreases-loop-left : goal.decreases-loop-left
decreases-loop-left l = length l.left
