-- One event: which units the Tick touches, by what is due, and why the deferred units that it leaves are those of the next state
-- (this kit's own).
use Rattle.std.specs.Prelude.{◌≡◌, ℕ, ◌+◌, ◌<◌, ◌≤◌, ◌==◌, Bool, true, false, not, ◌&&◌, ◌||◌, if◌then◌else◌, Option, None, []}
use Rattle.kc_base.specs.Bits.{bit}
use Rattle.kc_base.specs.Pins.{hsi0, hsi1, hsi2, hsi3, t2clk, t2rst, t2ud, t2cap}
use Rattle.kc_span.specs.Span.{Rule, IsDue}
use Rattle.kc_due.specs.Due.{at_slot}
use Rattle.kc_stim.specs.Drives.{IsNextEdge}
use Rattle.kc_hsi.specs.Input.{hsi_rule}
use Rattle.kc_extra.specs.Further.{Further}
use Rattle.kc_span.specs.DeferredUnit.{DeferredUnit, deferred_at, is_due_in}
use Rattle.kc_block_spec.specs.Units.{Units}
use Rattle.kc_block_spec.specs.Levels.{levels_at, printed, edges_between}
use Rattle.kc_block_spec.specs.Fired.{resets, starts}
use Rattle.kc_block_spec.specs.Tick.{passes, edges_at, fired_at, timer2_out_at, hsi_out_at, further_out_at, board_registers_at, hso_at}
use Rattle.kc_block_spec.specs.Touch.{timer2_touched, hso_touched, hsi_touched, further_touched}
use Rattle.kc_block_units.specs.Scheduler.{Scheduler, flag_goes, timer2_goes, hso_goes, further_goes, shown_units, levels_ahead, wire_slot, IsScheduled}
use Rattle.kc_block_units.specs.Rows.{ticked}

-- an edge of HSI0, HSI1, T2CLK, T2RST, T2UD or T2CAP
abbrev pub has_timer2_edge : ℕ → Bool
has_timer2_edge e = (bit e hsi0 || bit e hsi1) || ((bit e t2clk || bit e t2rst) || (bit e t2ud || bit e t2cap))

-- an edge of HSI0 to HSI3
abbrev pub has_hsi_edge : ℕ → Bool
has_hsi_edge e = (bit e hsi0 || bit e hsi1) || (bit e hsi2 || bit e hsi3)

-- Timer 1 raises its request
abbrev pub flag_touched : {X : Type 0} → Scheduler X → ℕ → Bool
flag_touched h now = passes now && bit h.board_registers.ioc1 2

-- what the Tick of the present state touches is given by edges, by the due states, and by the command that fires
pub record AreKnown {X : Type 0} (f : Further X) (h : Scheduler X) (now : ℕ) (u : Units X) : Type 0 where
  pub timer2 : timer2_touched now u ≡ (has_timer2_edge (edges_at now u) || (is_due_in now (at_slot h.due 0) || resets (fired_at now u)))
  pub hso : hso_touched now u ≡ (is_due_in now (at_slot h.due 1) || (has_timer2_edge (edges_at now u) || is_due_in now (at_slot h.due 0)))
  pub hsi : hsi_touched now u ≡ (has_hsi_edge (edges_at now u) || is_due_in now (at_slot h.due 2))
  pub further : further_touched f now u ≡ (not (edges_at now u == 0) || (is_due_in now (at_slot h.due 3) || starts (fired_at now u)))
  pub flag : flag_touched h now ≡ is_due_in now (at_slot h.due 4)

abbrev pub TouchesAreKnown : {X : Type 0} → Further X → (ℕ → ℕ → X → Type 0) → Type 0
TouchesAreKnown {X = X} f agrees = (h : Scheduler X) (now : ℕ) → IsScheduled f agrees h now → AreKnown f h now (shown_units f h now)

-- a unit that is not touched gives nothing
pub record AreSilent {X : Type 0} (f : Further X) (now : ℕ) (u : Units X) : Type 0 where
  pub timer2 : timer2_touched now u ≡ false → timer2_out_at now u ≡ record { overflow = false; captured = false }
  pub hso : hso_touched now u ≡ false → fired_at now u ≡ None
  pub printed : hso_touched now u ≡ false → edges_between (printed u.board_registers u.hso) (printed (board_registers_at f now u) (hso_at f now u)) ≡ []
  pub hsi : hsi_touched now u ≡ false → hsi_out_at now u ≡ record { loaded = false; fourth = false; sixth = false }
  pub further : further_touched f now u ≡ false → further_out_at f now u ≡ record { raised = record { 0 = 0 }; moved = [] }

abbrev pub UntouchedAreSilent : Type 0 → Type 0
UntouchedAreSilent X = (f : Further X) (now : ℕ) (u : Units X) → AreSilent f now u

-- what the further unit is given in its Tick differs from what it keeps in the edges alone
abbrev pub FurtherAgrees : {X : Type 0} → Further X → (ℕ → ℕ → X → Type 0) → Type 0
FurtherAgrees {X = X} f agrees = (h : Scheduler X) (now : ℕ) → IsScheduled f agrees h now →
    agrees (levels_at now (shown_units f h now)) (edges_at now (shown_units f h now)) (shown_units f h now).further

-- a unit that is touched stands after the Tick, another one where it stood
abbrev pub moved_deferred : {D : Type 0} → Bool → ℕ → D → DeferredUnit D → DeferredUnit D
moved_deferred touched now new deferred = if touched then deferred_at (now + 1) new else deferred

-- the deferred units after the Tick, before any is asked
abbrev pub ticked_scheduler : {X : Type 0} → Further X → Scheduler X → ℕ → Scheduler X
ticked_scheduler f h now = record {
  drives = h.drives;
  board_registers = (ticked f h now).board_registers;
  due = h.due;
  flag = moved_deferred (flag_touched h now) now (ticked f h now).overflowed h.flag;
  timer2 = moved_deferred (timer2_touched now (shown_units f h now)) now (ticked f h now).timer2 h.timer2;
  hso = moved_deferred (hso_touched now (shown_units f h now)) now (ticked f h now).hso h.hso;
  hsi = moved_deferred (hsi_touched now (shown_units f h now)) now (ticked f h now).hsi h.hsi;
  further = moved_deferred (further_touched f now (shown_units f h now)) now (ticked f h now).further h.further;
}

-- a slot is rescheduled where its unit was touched, and else kept
abbrev pub AsksWhere : {D : Type 0} → Bool → Rule D → ℕ → D → Option ℕ → Option ℕ → Type 0
AsksWhere true rule now d old new = IsDue rule now d new
AsksWhere false rule now d old new = new ≡ old

-- the deferred units after the Tick, each touched unit asked in the next state
pub record ArePast {X : Type 0} (f : Further X) (h : Scheduler X) (now : ℕ) (k : Scheduler X) : Type 0 where
  pub scheduler : k ≡ record (ticked_scheduler f h now) { due = k.due }
  pub timer2 : AsksWhere (timer2_touched now (shown_units f h now)) (timer2_goes k) (now + 1) k.timer2.kept (at_slot h.due 0) (at_slot k.due 0)
  pub hso : AsksWhere (hso_touched now (shown_units f h now)) (hso_goes k) (now + 1) k.hso.kept (at_slot h.due 1) (at_slot k.due 1)
  pub hsi : AsksWhere (hsi_touched now (shown_units f h now)) hsi_rule (now + 1) k.hsi.kept (at_slot h.due 2) (at_slot k.due 2)
  pub further : AsksWhere (further_touched f now (shown_units f h now)) (further_goes f) (now + 1) k.further.kept (at_slot h.due 3) (at_slot k.due 3)
  pub flag : AsksWhere (flag_touched h now) (flag_goes k) (now + 1) k.flag.kept (at_slot h.due 4) (at_slot k.due 4)
  pub stimuli : IsNextEdge k.drives.stimuli (now + 1) (at_slot k.due 5)
  pub wires : at_slot k.due 6 ≡ wire_slot (now + 1) (levels_ahead k (now + 1)) k.board_registers.levels
  pub spare : (slot : ℕ) → 7 ≤ slot → slot < 16 → at_slot k.due slot ≡ None

-- such deferred units are those of the next state, and show what the Tick gives
pub record IsJoined {X : Type 0} (f : Further X) (agrees : ℕ → ℕ → X → Type 0) (h : Scheduler X) (now : ℕ) (k : Scheduler X) : Type 0 where
  pub scheduled : IsScheduled f agrees k (now + 1)
  pub shows : shown_units f k (now + 1) ≡ ticked f h now

abbrev pub EventsJoin : {X : Type 0} → Further X → (ℕ → ℕ → X → Type 0) → Type 0
EventsJoin {X = X} f agrees = (h k : Scheduler X) (now : ℕ) → IsScheduled f agrees h now → ArePast f h now k → IsJoined f agrees h now k
