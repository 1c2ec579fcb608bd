-- One event, unit by unit: what the block keeps of a unit that the Tick does not touch, and how HSO is asked (this kit's own).
use Rattle.std.specs.Prelude.{◌&&◌, ◌≡◌, ℕ, ◌+◌, ◌<◌, ◌≤◌, false, Option}
use Rattle.kc_span.specs.Span.{Rule}
use Rattle.kc_due.specs.Due.{at_slot}
use Rattle.kc_timers.specs.T2.{T2, timer2_rule, view_of}
use Rattle.kc_hso.specs.Cam.{hso_rule, cam_rule}
use Rattle.kc_hsi.specs.Input.{hsi_rule}
use Rattle.kc_extra.specs.Further.{Further}
use Rattle.kc_span.specs.DeferredUnit.{DeferredUnit, shown, IsDeferred, AreAlike}
use Rattle.kc_block_spec.specs.Units.{Units}
use Rattle.kc_block_spec.specs.Control.{control_of}
use Rattle.kc_block_spec.specs.Tick.{passes, tick}
use Rattle.kc_block_spec.specs.Laws.{flag_rule}
use Rattle.kc_base.specs.Bits.{bit}
use Rattle.kc_block_spec.specs.Touch.{timer2_touched, hso_touched, hsi_touched, further_touched}
use Rattle.kc_block_units.specs.Scheduler.{Scheduler, timer2_goes, hso_goes, further_goes, shown_units, IsScheduled}

-- all units after the Tick of the present state
abbrev pub ticked : {X : Type 0} → Further X → Scheduler X → ℕ → Units X
ticked f h now = (tick f now (shown_units f h now)).units

-- a deferred unit stays as it is, and shows what the Tick gives
pub record IsRow {D : Type 0} (rule : Rule D) (deferred : DeferredUnit D) (now : ℕ) (slot : Option ℕ) (new : D) : Type 0 where
  pub stays : IsDeferred rule deferred (now + 1) slot
  pub shows : shown rule deferred (now + 1) ≡ new

-- how Timer 2 goes on under the levels that the Tick leaves
abbrev pub timer2_goes_after : {X : Type 0} → Further X → Scheduler X → ℕ → Rule T2
timer2_goes_after f h now = timer2_rule (control_of (ticked f h now).board_registers (ticked f h now).board_registers.levels)

-- the units that a Tick does not touch
abbrev pub Timer2Row : {X : Type 0} → Further X → (ℕ → ℕ → X → Type 0) → Type 0
Timer2Row {X = X} f agrees = (h : Scheduler X) (now : ℕ) → IsScheduled f agrees h now → timer2_touched now (shown_units f h now) ≡ false →
    IsRow (timer2_goes_after f h now) h.timer2 now (at_slot h.due 0) (ticked f h now).timer2

abbrev pub HsoRow : {X : Type 0} → Further X → (ℕ → ℕ → X → Type 0) → Type 0
HsoRow {X = X} f agrees = (h : Scheduler X) (now : ℕ) → IsScheduled f agrees h now → hso_touched now (shown_units f h now) ≡ false →
    IsRow (cam_rule (λ t. (shown (timer2_goes_after f h now) h.timer2 t).value)) h.hso now (at_slot h.due 1) (ticked f h now).hso

abbrev pub HsiRow : {X : Type 0} → Further X → (ℕ → ℕ → X → Type 0) → Type 0
HsiRow {X = X} f agrees = (h : Scheduler X) (now : ℕ) → IsScheduled f agrees h now → hsi_touched now (shown_units f h now) ≡ false →
    IsRow hsi_rule h.hsi now (at_slot h.due 2) (ticked f h now).hsi

abbrev pub FurtherRow : {X : Type 0} → Further X → (ℕ → ℕ → X → Type 0) → Type 0
FurtherRow {X = X} f agrees = (h : Scheduler X) (now : ℕ) → IsScheduled f agrees h now → further_touched f now (shown_units f h now) ≡ false →
    IsRow (further_goes f) h.further now (at_slot h.due 3) (ticked f h now).further

-- Timer 1's flag, which each Tick steps, where it raises no request
abbrev pub FlagRow : {X : Type 0} → Further X → (ℕ → ℕ → X → Type 0) → Type 0
FlagRow {X = X} f agrees = (h : Scheduler X) (now : ℕ) → IsScheduled f agrees h now → (passes now && bit h.board_registers.ioc1 2) ≡ false →
    IsRow (flag_rule (bit (ticked f h now).board_registers.ioc1 2)) h.flag now (at_slot h.due 4) (ticked f h now).overflowed

-- from a state on, HSO under the view of the timer that is shown there does the same as under the values that the block shows
abbrev pub ViewsAreLines : Type 0 → Type 0
ViewsAreLines X = (h : Scheduler X) (from : ℕ) → h.timer2.at ≤ from → h.timer2.kept.value < 65536 →
    AreAlike (hso_rule (view_of (control_of h.board_registers h.board_registers.levels) (shown (timer2_goes h) h.timer2 from)) from) (hso_goes h) from
