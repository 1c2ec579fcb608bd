use Rattle.std.proofs.Common.{◌≡◌, List, ◌++◌, length}
use Rattle.kc_base.specs.Series.{up_to}
use Rattle.kc_vcd.specs.Changes.{Timed, taken, after}
use Rattle.kc_vcd.specs.Dump.{texts}
use Rattle.kc_vcd.specs.Writing.{IsSameLife}
use Rattle.kc_vcd.proofs.dumping.Writer.put_values.Given as goal

abbrev pub invariant-loop-sample : goal.invariant-loop-sample
invariant-loop-sample l = record {
  put : (more : List Timed) → l.self.text ++ texts l.self.shown.length l.self.stamped (taken (up_to (λ s. s.at) l.at l.self.samples) ++ more)
      ≡ l.initial.self.text ++ texts l.initial.self.shown.length l.initial.self.stamped (taken (up_to (λ s. s.at) l.at l.initial.self.samples) ++ more);
  left : after l.at l.self.samples ≡ after l.at l.initial.self.samples;
  same : IsSameLife l.initial.self l.self;
}

abbrev pub decreases-loop-sample : goal.decreases-loop-sample
decreases-loop-sample l = length l.self.samples
