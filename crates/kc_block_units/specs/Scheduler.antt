-- The units as the block keeps them, each at a state of its own, and as it shows them (this kit's own).
use Rattle.std.specs.Prelude.{◌≡◌, ℕ, ◌*◌, ◌<◌, ◌≤◌, ◌==◌, Bool, if◌then◌else◌, Option, Some, None, bit_or, bit_xor}
use Rattle.kc_base.specs.Limits.{max_states}
use Rattle.kc_base.specs.Bits.{bit}
use Rattle.kc_span.specs.Span.{Rule}
use Rattle.kc_due.specs.Due.{Times, at_slot}
use Rattle.kc_stim.specs.Drives.{Drives, IsNextEdge}
use Rattle.kc_stim.specs.Proper.{AreProper}
use Rattle.kc_timers.specs.T2.{T2, timer2_rule}
use Rattle.kc_hso.specs.Cam.{Cam, cam_rule}
use Rattle.kc_hsi.specs.Input.{Input, hsi_rule}
use Rattle.kc_extra.specs.Further.{Further, further_rule}
use Rattle.kc_span.specs.DeferredUnit.{DeferredUnit, shown, IsDeferred}
use Rattle.kc_block_spec.specs.declared.board_registers.BoardRegisters.{BoardRegisters}
use Rattle.kc_block_spec.specs.Units.{Units}
use Rattle.kc_block_spec.specs.Levels.{stimulated_before, wired, outputs}
use Rattle.kc_block_spec.specs.Control.{control_of}
use Rattle.kc_block_spec.specs.Laws.{flag_rule}

-- what the block keeps
pub record Scheduler (X : Type 0) : Type 0 where
  pub drives : Drives
  pub board_registers : BoardRegisters
  -- the due states: Timer 2 has slot 0, HSO 1, HSI 2, the further unit 3, Timer 1's flag 4, stimuli 5, wires 6
  pub due : Times
  pub flag : DeferredUnit Bool
  pub timer2 : DeferredUnit T2
  pub hso : DeferredUnit Cam
  pub hsi : DeferredUnit Input
  pub further : DeferredUnit X

abbrev pub flag_goes : {X : Type 0} → Scheduler X → Rule Bool
flag_goes h = flag_rule (bit h.board_registers.ioc1 2)

abbrev pub timer2_goes : {X : Type 0} → Scheduler X → Rule T2
timer2_goes h = timer2_rule (control_of h.board_registers h.board_registers.levels)

-- the value of Timer 2 that the block shows in a state
abbrev pub line : {X : Type 0} → Scheduler X → ℕ → ℕ
line h t = (shown (timer2_goes h) h.timer2 t).value

abbrev pub hso_goes : {X : Type 0} → Scheduler X → Rule Cam
hso_goes h = cam_rule (line h)

abbrev pub further_goes : {X : Type 0} → Further X → Rule X
further_goes f = further_rule f.rest f.rest_out

-- the units all in state t
abbrev pub shown_units : {X : Type 0} → Further X → Scheduler X → ℕ → Units X
shown_units f h t = record {
  drives = h.drives;
  board_registers = h.board_registers;
  overflowed = shown (flag_goes h) h.flag t;
  timer2 = shown (timer2_goes h) h.timer2 t;
  hso = shown (hso_goes h) h.hso t;
  hsi = shown hsi_rule h.hsi t;
  further = shown (further_goes f) h.further t;
}

-- the levels that the inputs have in state t if no stimulus comes there
abbrev pub levels_ahead : {X : Type 0} → Scheduler X → ℕ → ℕ
levels_ahead h t = bit_or (stimulated_before h.drives t) (wired h.drives (outputs h.board_registers h.hso.kept))

-- the next state in which an input has an edge by its wire: the present one, where the levels differ, or none
abbrev pub wire_slot : ℕ → ℕ → ℕ → Option ℕ
wire_slot now ahead levels = if ahead == levels then None else Some now

-- what a further unit keeps of the levels of pins
pub record IsFurther {X : Type 0} (f : Further X) (agrees : ℕ → ℕ → X → Type 0) : Type 0 where
  pub rests : (t l : ℕ) (d : X) → agrees l 0 d → f.step t l 0 d ≡ f.rest t d
  pub rests_out : (t l : ℕ) (d : X) → agrees l 0 d → f.out t l 0 d ≡ f.rest_out t d
  pub rest_keeps : (t l e : ℕ) (d : X) → agrees l e d → agrees l e (f.rest t d)
  pub keeps : (t l e m : ℕ) (d : X) → agrees l e d → agrees m (bit_xor l m) (f.step t l e d)
  pub start_keeps : (t l e : ℕ) (d : X) → agrees l e d → agrees l e (f.started t d)

-- the levels that are kept: those of the stimuli in the state before, and of the wires from some outputs
pub record AreHeld (drives : Drives) (levels now : ℕ) : Type 0 where
  pub outs : ℕ
  pub are : levels ≡ bit_or (stimulated_before drives now) (wired drives outs)

-- the deferred units in the present state
pub record IsScheduled {X : Type 0} (f : Further X) (agrees : ℕ → ℕ → X → Type 0) (h : Scheduler X) (now : ℕ) : Type 0 where
  pub timer2 : IsDeferred (timer2_goes h) h.timer2 now (at_slot h.due 0)
  pub hso : IsDeferred (hso_goes h) h.hso now (at_slot h.due 1)
  pub hsi : IsDeferred hsi_rule h.hsi now (at_slot h.due 2)
  pub further : IsDeferred (further_goes f) h.further now (at_slot h.due 3)
  pub flag : IsDeferred (flag_goes h) h.flag now (at_slot h.due 4)
  pub stimuli : IsNextEdge h.drives.stimuli now (at_slot h.due 5)
  pub wires : at_slot h.due 6 ≡ wire_slot now (levels_ahead h now) h.board_registers.levels
  pub proper : AreProper h.drives
  pub held : AreHeld h.drives h.board_registers.levels now
  pub order : h.timer2.at ≤ h.hso.at
  pub value : h.timer2.kept.value < 65536
  pub agreed : (m : ℕ) → agrees m (bit_xor h.board_registers.levels m) h.further.kept
  -- the slots from 7 on are of no use
  pub spare : (slot : ℕ) → 7 ≤ slot → slot < 16 → at_slot h.due slot ≡ None

-- deferred units in the present state, past which no run goes
pub record IsPresent {X : Type 0} (f : Further X) (agrees : ℕ → ℕ → X → Type 0) (h : Scheduler X) (now : ℕ) : Type 0 where
  pub bound : now ≤ 3 * max_states
  pub scheduled : IsScheduled f agrees h now

-- deferred units in the present state that show these units
pub record IsLeft {X : Type 0} (f : Further X) (agrees : ℕ → ℕ → X → Type 0) (now : ℕ) (h : Scheduler X) (units : Units X) : Type 0 where
  pub scheduled : IsScheduled f agrees h now
  pub shows : shown_units f h now ≡ units

-- each of the seven slots has a later time, or none
abbrev pub IsAhead : {X : Type 0} → Scheduler X → ℕ → Type 0
IsAhead h t = (slot u : ℕ) → slot < 7 → at_slot h.due slot ≡ Some u → t < u
