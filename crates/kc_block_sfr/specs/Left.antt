-- What an access leaves of the deferred units: those that it concerns stand in the present state, with its data and with the due
-- states that were asked there; the others stay (this kit's own).
use Rattle.std.specs.Prelude.{◌≡◌, ◌≢◌, ℕ, ◌<◌, Bool}
use Rattle.kc_base.specs.Bits.{bit}
use Rattle.kc_span.specs.Span.{IsDue}
use Rattle.kc_due.specs.Due.{Times, at_slot}
use Rattle.kc_timers.specs.T2.{T2, view_of, value_at}
use Rattle.kc_hso.specs.Cam.{Cam}
use Rattle.kc_hso.specs.Kept.{AreKept}
use Rattle.kc_hsi.specs.Input.{Input, hsi_rule}
use Rattle.kc_extra.specs.Further.{Further}
use Rattle.kc_span.specs.DeferredUnit.{shown, deferred_at}
use Rattle.kc_block_spec.specs.declared.board_registers.BoardRegisters.{BoardRegisters}
use Rattle.kc_block_spec.specs.Control.{control_of}
use Rattle.kc_block_spec.specs.Laws.{flag_rule}
use Rattle.kc_block_units.specs.Scheduler.{Scheduler, flag_goes, timer2_goes, hso_goes, further_goes, shown_units, levels_ahead, wire_slot, IsScheduled, IsLeft}

-- every slot but one has the time that it had
abbrev pub AreSameBut : ℕ → Times → Times → Type 0
AreSameBut slot old new = (k : ℕ) → k ≢ slot → at_slot new k ≡ at_slot old k

-- and but two
abbrev pub AreSameButTwo : ℕ → ℕ → Times → Times → Type 0
AreSameButTwo slot other old new = (k : ℕ) → k ≢ slot → k ≢ other → at_slot new k ≡ at_slot old k

-- data that no deferred unit's rule, output or level reads: status bits, requests, WSR, port latches
abbrev pub AreUnread : BoardRegisters → BoardRegisters → Type 0
AreUnread old new = new ≡ record old {
  ios1 = new.ios1;
  ios2 = new.ios2;
  requests = new.requests;
  wsr = new.wsr;
  port1 = new.port1;
  port2 = new.port2;
}

-- data that may differ in how Timer 2 and HSI are controlled, and in whether HSO keeps locked entries, alone
abbrev pub AreGatedAlike : BoardRegisters → BoardRegisters → Type 0
AreGatedAlike old new = new ≡ record old { ioc0 = new.ioc0; ioc2 = new.ioc2; ioc3 = new.ioc3 }

module _ {X : Type 0} (f : Further X) (agrees : ℕ → ℕ → X → Type 0) where
  -- such data change without a unit
  abbrev pub UnreadLeft : Type 0
  UnreadLeft = (h : Scheduler X) (now : ℕ) (s : BoardRegisters) → IsScheduled f agrees h now → AreUnread h.board_registers s →
      IsLeft f agrees now (record h { board_registers = s }) (record (shown_units f h now) { board_registers = s })

  -- bit 5 of IOS1
  abbrev pub FlagLeft : Type 0
  FlagLeft = (h : Scheduler X) (now : ℕ) (b : Bool) (times : Times) → IsScheduled f agrees h now → AreSameBut 4 h.due times →
      IsDue (flag_goes h) now b (at_slot times 4) →
      IsLeft f agrees now (record h { flag = deferred_at now b; due = times }) (record (shown_units f h now) { overflowed = b })

  -- HSI
  abbrev pub HsiLeft : Type 0
  HsiLeft = (h : Scheduler X) (now : ℕ) (d : Input) (times : Times) → IsScheduled f agrees h now → AreSameBut 2 h.due times →
      IsDue hsi_rule now d (at_slot times 2) →
      IsLeft f agrees now (record h { hsi = deferred_at now d; due = times }) (record (shown_units f h now) { hsi = d })

  -- the further unit, which keeps what it kept of the levels
  abbrev pub FurtherLeft : Type 0
  FurtherLeft = (h : Scheduler X) (now : ℕ) (d : X) (times : Times) → IsScheduled f agrees h now → AreSameBut 3 h.due times →
      IsDue (further_goes f) now d (at_slot times 3) →
      ((l e : ℕ) → agrees l e (shown (further_goes f) h.further now) → agrees l e d) →
      IsLeft f agrees now (record h { further = deferred_at now d; due = times }) (record (shown_units f h now) { further = d })

  -- HSO, whose latches stay
  abbrev pub HsoLeft : Type 0
  HsoLeft = (h : Scheduler X) (now : ℕ) (d : Cam) (times : Times) → IsScheduled f agrees h now → AreSameBut 1 h.due times →
      IsDue (hso_goes h) now d (at_slot times 1) →
      d.latches ≡ (shown (hso_goes h) h.hso now).latches →
      IsLeft f agrees now (record h { hso = deferred_at now d; due = times }) (record (shown_units f h now) { hso = d })

  -- HSO_COMMAND, which no Tick reads: HSO stands where it stood, and is due as before
  abbrev pub CommandLeft : Type 0
  CommandLeft = (h : Scheduler X) (now value : ℕ) → IsScheduled f agrees h now →
      IsLeft f agrees now (record h { hso = record h.hso { kept = record h.hso.kept { command = value } } })
      (record (shown_units f h now) { hso = record (shown (hso_goes h) h.hso now) { command = value } })

  -- Timer 2 with HSO, under other control bits; the latches stay
  abbrev pub TimersLeft : Type 0
  TimersLeft = (h : Scheduler X) (now : ℕ) (s : BoardRegisters) (d : T2) (c : Cam) (times : Times) → IsScheduled f agrees h now → AreSameButTwo 0 1 h.due times →
      AreGatedAlike h.board_registers s → d.value < 65536 → c.latches ≡ (shown (hso_goes h) h.hso now).latches →
      let new : Scheduler X = record h { board_registers = s; timer2 = deferred_at now d; hso = deferred_at now c; due = times } in
      IsDue (timer2_goes new) now d (at_slot times 0) → IsDue (hso_goes new) now c (at_slot times 1) →
      IsLeft f agrees now new (record (shown_units f h now) { board_registers = s; timer2 = d; hso = c })

  -- IOC1, which gates outputs, and whose bit 2 makes Timer 1's overflow a request
  abbrev pub GateLeft : Type 0
  GateLeft = (h : Scheduler X) (now ioc1 : ℕ) (times : Times) → IsScheduled f agrees h now → AreSameButTwo 4 6 h.due times →
      let s : BoardRegisters = record h.board_registers { ioc1 = ioc1 } in
      let b : Bool = shown (flag_goes h) h.flag now in
      IsDue (flag_rule (bit ioc1 2)) now b (at_slot times 4) →
      at_slot times 6 ≡ wire_slot now (levels_ahead (record h { board_registers = s }) now) h.board_registers.levels →
      IsLeft f agrees now (record h { board_registers = s; flag = deferred_at now b; due = times }) (record (shown_units f h now) { board_registers = s })

-- What units that stand earlier report of the present state. HSI is as it stands; of Timer 2 the capture, and its value by its
-- view; of HSO all but done marks.
pub record ReportsShown {X : Type 0} (h : Scheduler X) (now : ℕ) : Type 0 where
  pub hsi : shown hsi_rule h.hsi now ≡ h.hsi.kept
  pub captured : (shown (timer2_goes h) h.timer2 now).captured ≡ h.timer2.kept.captured
  pub value : (shown (timer2_goes h) h.timer2 now).value
      ≡ value_at (view_of (control_of h.board_registers h.board_registers.levels) h.timer2.kept) h.timer2.at now
  pub hso : AreKept h.hso.kept (shown (hso_goes h) h.hso now)

abbrev pub StandingReports : {X : Type 0} → Further X → (ℕ → ℕ → X → Type 0) → Type 0
StandingReports {X = X} f agrees = (h : Scheduler X) (now : ℕ) → IsScheduled f agrees h now → ReportsShown h now
