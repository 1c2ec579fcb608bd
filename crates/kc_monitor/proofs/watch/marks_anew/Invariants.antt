use Rattle.std.proofs.Common.{◌≡◌, ℕ, ◌<◌, get_or}
use Rattle.kc_monitor.specs.declared.marks.Marking.{Marking}
use Rattle.kc_monitor.specs.Marking.{fresh}
use Rattle.kc_monitor.proofs.watch.marks_anew.Given as goal

abbrev pub invariant-loop-i : goal.invariant-loop-i
invariant-loop-i l = (k : ℕ) → k < l.i → (d : Marking) → get_or l.markings k d ≡ fresh
