-- That the units which a block holds lead to those that it shows (this kit's own).
use Rattle.std.specs.Prelude.{◌≡◌, ℕ, ◌-◌, ◌≤◌}
use Rattle.kc_span.specs.Span.{Rule, after, QuietFor}
use Rattle.kc_extra.specs.Further.{Further}
use Rattle.kc_hsi.specs.Input.{hsi_rule}
use Rattle.kc_span.specs.DeferredUnit.{DeferredUnit}
use Rattle.kc_block_units.specs.Scheduler.{timer2_goes, hso_goes, further_goes}
use Rattle.kc_block.specs.Seen.{Seen}

-- a unit stands at a state not after the present one, is quiet from there on, and quiet Ticks lead to the shown data
pub record IsLent {D : Type 0} (rule : Rule D) (deferred : DeferredUnit D) (time : ℕ) (shown : D) : Type 0 where
  pub first : deferred.at ≤ time
  pub quiet : QuietFor rule deferred.at (time - deferred.at) deferred.kept
  pub leads : shown ≡ after rule deferred.at (time - deferred.at) deferred.kept

-- each of the four units, Timer 2 under the present control, HSO over the values that Timer 2 shows
pub record AreLent {X : Type 0} (f : Further X) (s : Seen X) : Type 0 where
  pub timer2 : IsLent (timer2_goes s.held) s.held.timer2 s.time s.units.timer2
  pub hso : IsLent (hso_goes s.held) s.held.hso s.time s.units.hso
  pub hsi : IsLent hsi_rule s.held.hsi s.time s.units.hsi
  pub further : IsLent (further_goes f) s.held.further s.time s.units.further
  pub board_registers : s.held.board_registers ≡ s.units.board_registers
