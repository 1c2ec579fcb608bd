use Rattle.std.proofs.Common.{ℕ, ◌-◌, ◌<◌, ◌≤◌, true, false}
use Rattle.kc_asm_origin.specs.First.{with_first}
use Rattle.kc_asm_origin.specs.Reported.{Reports}
use Rattle.kc_asm_origin.specs.Origin.{IsHalved}
use Rattle.kc_asm_origin.proofs.seeking.faulty_line.Given as goal

abbrev pub invariant-loop-low : goal.invariant-loop-low
invariant-loop-low l = record {
  below : l.low < l.high;
  within : l.high ≤ l.count;
  with : Reports (with_first l.fault.0 l.high l.text) l.fault true;
  without : Reports (with_first l.fault.0 l.low l.text) l.fault false;
  halved : (k rounds : ℕ) → IsHalved rounds l.fault l.text l.low l.high k → (r : ℕ) × IsHalved r l.fault l.text 0 l.count k;
}

abbrev pub decreases-loop-low : goal.decreases-loop-low
decreases-loop-low l = l.high - l.low
