-- What a Tick does to a unit that it does not touch (this kit's own).
use Rattle.std.specs.Prelude.{◌≡◌, ℕ, true, false}
use Rattle.kc_span.specs.Span.{Rule}
use Rattle.kc_timers.specs.T2.{timer2_rule}
use Rattle.kc_hso.specs.Cam.{cam_rule}
use Rattle.kc_hsi.specs.Input.{hsi_rule}
use Rattle.kc_extra.specs.Further.{Further, is_silent}
use Rattle.kc_block_spec.specs.Units.{Units}
use Rattle.kc_block_spec.specs.Control.{control_of}
use Rattle.kc_block_spec.specs.Tick.{tick}
use Rattle.kc_block_spec.specs.Touch.{timer2_touched, hso_touched, hsi_touched, further_touched}

-- a unit goes on by its rule, and is quiet
pub record GoesAlone {D : Type 0} (rule : Rule D) (t : ℕ) (old new : D) : Type 0 where
  pub step : new ≡ rule.step t old
  pub quiet : rule.quiet t old ≡ true

-- Timer 2, under the control that stays as it was
pub record Timer2Alone {X : Type 0} (f : Further X) (t : ℕ) (u : Units X) : Type 0 where
  pub alone : GoesAlone (timer2_rule (control_of u.board_registers u.board_registers.levels)) t u.timer2 (tick f t u).units.timer2
  pub control : control_of (tick f t u).units.board_registers (tick f t u).units.board_registers.levels ≡ control_of u.board_registers u.board_registers.levels

abbrev pub Timer2Untouched : Type 0 → Type 0
Timer2Untouched X = (f : Further X) (t : ℕ) (u : Units X) → timer2_touched t u ≡ false → Timer2Alone f t u

abbrev pub HsoUntouched : Type 0 → Type 0
HsoUntouched X = (f : Further X) (t : ℕ) (u : Units X) → hso_touched t u ≡ false →
    GoesAlone (cam_rule (λ s. u.timer2.value)) t u.hso (tick f t u).units.hso

abbrev pub HsiUntouched : Type 0 → Type 0
HsiUntouched X = (f : Further X) (t : ℕ) (u : Units X) → hsi_touched t u ≡ false → GoesAlone hsi_rule t u.hsi (tick f t u).units.hsi

-- the further unit, at the levels of the state before and no edge
pub record FurtherAlone {X : Type 0} (f : Further X) (t : ℕ) (u : Units X) : Type 0 where
  pub step : (tick f t u).units.further ≡ f.step t u.board_registers.levels 0 u.further
  pub silent : is_silent (f.out t u.board_registers.levels 0 u.further) ≡ true

abbrev pub FurtherUntouched : Type 0 → Type 0
FurtherUntouched X = (f : Further X) (t : ℕ) (u : Units X) → further_touched f t u ≡ false → FurtherAlone f t u
