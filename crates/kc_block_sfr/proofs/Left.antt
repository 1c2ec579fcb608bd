-- Proofs of what an access leaves of the deferred units.
use Rattle.std.proofs.Common.{◌≡◌, ℕ, zero, suc, ◌+◌, ◌-◌, ◌<◌, Bool, Some, None, refl, sym, ◌∙◌, ap, subst, arith, Option, bit_or, bit_xor}
use Rattle.kc_base.specs.Bits.{bit}
use Rattle.kc_span.specs.Span.{IsDue, QuietFor, after}
use Rattle.kc_span.proofs.SpanLaws.{after-zero, after-suc}
use Rattle.kc_due.specs.Due.{Times, at_slot}
use Rattle.kc_stim.specs.Drives.{IsNextEdge}
use Rattle.kc_timers.specs.T2.{T2, timer2_rule}
use Rattle.kc_timers.specs.declared.T2Control.{T2Control}
use Rattle.kc_timers.proofs.T2Laws.{view_shows}
use Rattle.kc_hso.specs.Cam.{Cam, cam_rule}
use Rattle.kc_hso.proofs.Kept.{quiet_keeps}
use Rattle.kc_hsi.specs.Input.{hsi_rule}
use Rattle.kc_hsi.proofs.QuietSpans.{quiet_after}
use Rattle.kc_extra.specs.Further.{Further}
use Rattle.kc_span.specs.DeferredUnit.{shown, deferred_at, IsDeferred}
use Rattle.kc_span.proofs.DeferredUnits.{asked, asked_shows, lent}
use Rattle.kc_block_spec.specs.declared.board_registers.BoardRegisters.{BoardRegisters}
use Rattle.kc_block_spec.specs.Levels.{stimulated_before, wired, outputs}
use Rattle.kc_block_spec.specs.Control.{control_of}
use Rattle.kc_block_spec.specs.Laws.{flag_rule}
use Rattle.kc_block_units.specs.Scheduler.{Scheduler, flag_goes, timer2_goes, line, hso_goes, further_goes, shown_units, levels_ahead, wire_slot, IsFurther, IsScheduled, IsLeft}
use Rattle.kc_block_units.proofs.Spans.{agrees_after}
use Rattle.kc_block_sfr.specs.Left.{AreSameButTwo, UnreadLeft, FlagLeft, HsiLeft, FurtherLeft, HsoLeft, CommandLeft, TimersLeft, GateLeft, StandingReports}

captured_stays : (control : T2Control) (from n : ℕ) (d : T2) → (after (timer2_rule control) from n d).captured ≡ d.captured
captured_stays control from zero d = ap (λ e. e.captured) (after-zero (timer2_rule control) from d)
captured_stays control from (suc n) d = ap (λ e. e.captured) (after-suc (timer2_rule control) from n d) ∙ captured_stays control from n d

-- HSO_COMMAND stays through Ticks, whatever it is
command_stays : (line : ℕ → ℕ) (from n value : ℕ) (d : Cam) → after (cam_rule line) from n (record d { command = value }) ≡ record (after (cam_rule line) from n d) { command = value }
command_stays line from zero value d =
    after-zero (cam_rule line) from (record d { command = value })
    ∙ ap (λ (e : Cam). record e { command = value }) (sym (after-zero (cam_rule line) from d))
command_stays line from (suc n) value d =
    after-suc (cam_rule line) from n (record d { command = value })
    ∙ ap ((cam_rule line).step (from + n)) (command_stays line from n value d)
    ∙ ap (λ (e : Cam). record e { command = value }) (sym (after-suc (cam_rule line) from n d))

command_quiet : (line : ℕ → ℕ) (from n value : ℕ) (d : Cam) → QuietFor (cam_rule line) from n d → QuietFor (cam_rule line) from n (record d { command = value })
command_quiet line from n value d quiet = λ k few. ap ((cam_rule line).quiet (from + k)) (command_stays line from k value d) ∙ quiet k few

-- so HSO is due as before
command_due : (line : ℕ → ℕ) (from value : ℕ) (d : Cam) (slot : Option ℕ) → IsDue (cam_rule line) from d slot → IsDue (cam_rule line) from (record d { command = value }) slot
command_due line from value d None never = λ n. command_quiet line from n value d (never n)
command_due line from value d (Some u) due = record {
  later = due.later;
  before = command_quiet line from (u - from) value d due.before;
  active = ap ((cam_rule line).quiet u) (command_stays line from (u - from) value d) ∙ due.active;
}

module _ {X : Type 0} (f : Further X) (agrees : ℕ → ℕ → X → Type 0) where
  pub standing_reports : StandingReports f agrees
  standing_reports h now is = record {
    hsi = quiet_after h.hsi.at (now - h.hsi.at) h.hsi.kept (lent hsi_rule h.hsi now (at_slot h.due 2) is.hsi);
    captured = captured_stays (control_of h.board_registers h.board_registers.levels) h.timer2.at (now - h.timer2.at) h.timer2.kept;
    value = sym (view_shows (control_of h.board_registers h.board_registers.levels) h.timer2.at now h.timer2.kept is.value is.timer2.first);
    hso = quiet_keeps (line h) h.hso.at (now - h.hso.at) h.hso.kept (lent (hso_goes h) h.hso now (at_slot h.due 1) is.hso);
  }

  pub unread_left : UnreadLeft f agrees
  unread_left h now s is unread = subst (λ t. IsLeft f agrees now (record h { board_registers = t }) (record (shown_units f h now) { board_registers = t })) (sym unread) (record {
    scheduled = record {
      timer2 = is.timer2;
      hso = is.hso;
      hsi = is.hsi;
      further = is.further;
      flag = is.flag;
      stimuli = is.stimuli;
      wires = is.wires;
      proper = is.proper;
      held = is.held;
      order = is.order;
      value = is.value;
      agreed = is.agreed;
      spare = is.spare;
    };
    shows = refl;
  })

  -- what is said of a slot that keeps its time
  at : (P : Option ℕ → Type 0) {a b : Option ℕ} → b ≡ a → P a → P b
  at P same p = subst P (sym same) p

  pub flag_left : FlagLeft f agrees
  flag_left h now b times is same due = record {
    scheduled = record {
      timer2 = at (IsDeferred (timer2_goes h) h.timer2 now) (same 0 (λ e. omega arith)) is.timer2;
      hso = at (IsDeferred (hso_goes h) h.hso now) (same 1 (λ e. omega arith)) is.hso;
      hsi = at (IsDeferred hsi_rule h.hsi now) (same 2 (λ e. omega arith)) is.hsi;
      further = at (IsDeferred (further_goes f) h.further now) (same 3 (λ e. omega arith)) is.further;
      flag = asked (flag_goes h) now b (at_slot times 4) due;
      stimuli = at (IsNextEdge h.drives.stimuli now) (same 5 (λ e. omega arith)) is.stimuli;
      wires = same 6 (λ e. omega arith) ∙ is.wires;
      proper = is.proper;
      held = is.held;
      order = is.order;
      value = is.value;
      agreed = is.agreed;
      spare = λ slot from to. same slot (λ e. omega arith) ∙ is.spare slot from to;
    };
    shows = ap (λ o. record (shown_units f h now) { overflowed = o }) (asked_shows (flag_goes h) now b);
  }

  pub hsi_left : HsiLeft f agrees
  hsi_left h now d times is same due = record {
    scheduled = record {
      timer2 = at (IsDeferred (timer2_goes h) h.timer2 now) (same 0 (λ e. omega arith)) is.timer2;
      hso = at (IsDeferred (hso_goes h) h.hso now) (same 1 (λ e. omega arith)) is.hso;
      hsi = asked hsi_rule now d (at_slot times 2) due;
      further = at (IsDeferred (further_goes f) h.further now) (same 3 (λ e. omega arith)) is.further;
      flag = at (IsDeferred (flag_goes h) h.flag now) (same 4 (λ e. omega arith)) is.flag;
      stimuli = at (IsNextEdge h.drives.stimuli now) (same 5 (λ e. omega arith)) is.stimuli;
      wires = same 6 (λ e. omega arith) ∙ is.wires;
      proper = is.proper;
      held = is.held;
      order = is.order;
      value = is.value;
      agreed = is.agreed;
      spare = λ slot from to. same slot (λ e. omega arith) ∙ is.spare slot from to;
    };
    shows = ap (λ i. record (shown_units f h now) { hsi = i }) (asked_shows hsi_rule now d);
  }

  pub further_left : IsFurther f agrees → FurtherLeft f agrees
  further_left keeps h now d times is same due kept = record {
    scheduled = record {
      timer2 = at (IsDeferred (timer2_goes h) h.timer2 now) (same 0 (λ e. omega arith)) is.timer2;
      hso = at (IsDeferred (hso_goes h) h.hso now) (same 1 (λ e. omega arith)) is.hso;
      hsi = at (IsDeferred hsi_rule h.hsi now) (same 2 (λ e. omega arith)) is.hsi;
      further = asked (further_goes f) now d (at_slot times 3) due;
      flag = at (IsDeferred (flag_goes h) h.flag now) (same 4 (λ e. omega arith)) is.flag;
      stimuli = at (IsNextEdge h.drives.stimuli now) (same 5 (λ e. omega arith)) is.stimuli;
      wires = same 6 (λ e. omega arith) ∙ is.wires;
      proper = is.proper;
      held = is.held;
      order = is.order;
      value = is.value;
      agreed = λ m. kept m (bit_xor h.board_registers.levels m)
          (agrees_after f agrees keeps h h.further.at (now - h.further.at) m (bit_xor h.board_registers.levels m) h.further.kept (is.agreed m));
      spare = λ slot from to. same slot (λ e. omega arith) ∙ is.spare slot from to;
    };
    shows = ap (λ x. record (shown_units f h now) { further = x }) (asked_shows (further_goes f) now d);
  }

  -- the latches of HSO as it stands are those that are shown
  same_latches : (h : Scheduler X) (now : ℕ) → IsScheduled f agrees h now → (shown (hso_goes h) h.hso now).latches ≡ h.hso.kept.latches
  same_latches h now is = (standing_reports h now is).hso.latches

  -- so the wires lead the same levels
  same_wires : (h : Scheduler X) (now : ℕ) (c : Cam) → IsScheduled f agrees h now → c.latches ≡ (shown (hso_goes h) h.hso now).latches →
      wire_slot now (levels_ahead h now) h.board_registers.levels
      ≡ wire_slot now (bit_or (stimulated_before h.drives now) (wired h.drives (outputs h.board_registers c))) h.board_registers.levels
  same_wires h now c is latches = ap {B = Option ℕ} (λ (l : _).
      wire_slot now (bit_or (stimulated_before h.drives now) (wired h.drives (outputs h.board_registers (record c { latches = l })))) h.board_registers.levels)
      (sym (latches ∙ same_latches h now is))

  pub hso_left : HsoLeft f agrees
  hso_left h now d times is same due latches = record {
    scheduled = record {
      timer2 = at (IsDeferred (timer2_goes h) h.timer2 now) (same 0 (λ e. omega arith)) is.timer2;
      hso = asked (hso_goes h) now d (at_slot times 1) due;
      hsi = at (IsDeferred hsi_rule h.hsi now) (same 2 (λ e. omega arith)) is.hsi;
      further = at (IsDeferred (further_goes f) h.further now) (same 3 (λ e. omega arith)) is.further;
      flag = at (IsDeferred (flag_goes h) h.flag now) (same 4 (λ e. omega arith)) is.flag;
      stimuli = at (IsNextEdge h.drives.stimuli now) (same 5 (λ e. omega arith)) is.stimuli;
      wires = same 6 (λ e. omega arith) ∙ is.wires ∙ same_wires h now d is latches;
      proper = is.proper;
      held = is.held;
      order = is.timer2.first;
      value = is.value;
      agreed = is.agreed;
      spare = λ slot from to. same slot (λ e. omega arith) ∙ is.spare slot from to;
    };
    shows = ap (λ c. record (shown_units f h now) { hso = c }) (asked_shows (hso_goes h) now d);
  }

  pub command_left : CommandLeft f agrees
  command_left h now value is = record {
    scheduled = record {
      timer2 = is.timer2;
      hso = record {
        first = is.hso.first;
        due = command_due (line h) h.hso.at value h.hso.kept (at_slot h.due 1) is.hso.due;
        later = is.hso.later;
      };
      hsi = is.hsi;
      further = is.further;
      flag = is.flag;
      stimuli = is.stimuli;
      wires = is.wires;
      proper = is.proper;
      held = is.held;
      order = is.order;
      value = is.value;
      agreed = is.agreed;
      spare = is.spare;
    };
    shows = ap (λ c. record (shown_units f h now) { hso = c }) (command_stays (line h) h.hso.at (now - h.hso.at) value h.hso.kept);
  }

  controlled_left : (h : Scheduler X) (now ioc0 ioc2 ioc3 : ℕ) (d : T2) (c : Cam) (times : Times) → IsScheduled f agrees h now → AreSameButTwo 0 1 h.due times →
      d.value < 65536 → c.latches ≡ (shown (hso_goes h) h.hso now).latches →
      let s : BoardRegisters = record h.board_registers { ioc0 = ioc0; ioc2 = ioc2; ioc3 = ioc3 } in
      let new : Scheduler X = record h { board_registers = s; timer2 = deferred_at now d; hso = deferred_at now c; due = times } in
      IsDue (timer2_goes new) now d (at_slot times 0) → IsDue (hso_goes new) now c (at_slot times 1) →
      IsLeft f agrees now new (record (shown_units f h now) { board_registers = s; timer2 = d; hso = c })
  controlled_left h now ioc0 ioc2 ioc3 d c times is same fits latches due_timer2 due_hso =
      let s : BoardRegisters = record h.board_registers { ioc0 = ioc0; ioc2 = ioc2; ioc3 = ioc3 } in
      let new : Scheduler X = record h { board_registers = s; timer2 = deferred_at now d; hso = deferred_at now c; due = times } in
      record {
        scheduled = record {
          timer2 = asked (timer2_goes new) now d (at_slot times 0) due_timer2;
          hso = asked (hso_goes new) now c (at_slot times 1) due_hso;
          hsi = at (IsDeferred hsi_rule h.hsi now) (same 2 (λ e. omega arith) (λ e. omega arith)) is.hsi;
          further = at (IsDeferred (further_goes f) h.further now) (same 3 (λ e. omega arith) (λ e. omega arith)) is.further;
          flag = at (IsDeferred (flag_goes h) h.flag now) (same 4 (λ e. omega arith) (λ e. omega arith)) is.flag;
          stimuli = at (IsNextEdge h.drives.stimuli now) (same 5 (λ e. omega arith) (λ e. omega arith)) is.stimuli;
          wires = same 6 (λ e. omega arith) (λ e. omega arith) ∙ is.wires ∙ same_wires h now c is latches;
          proper = is.proper;
          held = is.held;
          order = omega arith;
          value = fits;
          agreed = is.agreed;
          spare = λ slot from to. same slot (λ e. omega arith) (λ e. omega arith) ∙ is.spare slot from to;
        };
        shows = λ j. record (shown_units f h now) { board_registers = s; timer2 = asked_shows (timer2_goes new) now d j; hso = asked_shows (hso_goes new) now c j };
      }

  pub timers_left : TimersLeft f agrees
  timers_left h now s d c times is same alike fits latches =
      subst (λ (t : BoardRegisters).
      let new : Scheduler X = record h { board_registers = t; timer2 = deferred_at now d; hso = deferred_at now c; due = times } in
      IsDue (timer2_goes new) now d (at_slot times 0) → IsDue (hso_goes new) now c (at_slot times 1) →
      IsLeft f agrees now new (record (shown_units f h now) { board_registers = t; timer2 = d; hso = c }))
      (sym alike) (controlled_left h now s.ioc0 s.ioc2 s.ioc3 d c times is same fits latches)

  pub gate_left : GateLeft f agrees
  gate_left h now ioc1 times is same due wires =
      let b : Bool = shown (flag_goes h) h.flag now in
      record {
        scheduled = record {
          timer2 = at (IsDeferred (timer2_goes h) h.timer2 now) (same 0 (λ e. omega arith) (λ e. omega arith)) is.timer2;
          hso = at (IsDeferred (hso_goes h) h.hso now) (same 1 (λ e. omega arith) (λ e. omega arith)) is.hso;
          hsi = at (IsDeferred hsi_rule h.hsi now) (same 2 (λ e. omega arith) (λ e. omega arith)) is.hsi;
          further = at (IsDeferred (further_goes f) h.further now) (same 3 (λ e. omega arith) (λ e. omega arith)) is.further;
          flag = asked (flag_rule (bit ioc1 2)) now b (at_slot times 4) due;
          stimuli = at (IsNextEdge h.drives.stimuli now) (same 5 (λ e. omega arith) (λ e. omega arith)) is.stimuli;
          wires = wires;
          proper = is.proper;
          held = is.held;
          order = is.order;
          value = is.value;
          agreed = is.agreed;
          spare = λ slot from to. same slot (λ e. omega arith) (λ e. omega arith) ∙ is.spare slot from to;
        };
        shows = ap (λ o. record (shown_units f h now) { board_registers = record h.board_registers { ioc1 = ioc1 }; overflowed = o }) (asked_shows (flag_rule (bit ioc1 2)) now b);
      }
