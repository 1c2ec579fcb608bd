-- Units caught up to the present state: the deferred units are still those of the present, and show the same.
use Rattle.std.proofs.Common.{◌≡◌, ℕ, ◌-◌, ◌<◌, ◌≤◌, ◌||◌, false, not, refl, sym, ◌∙◌, ap, subst, arith, Option, Some}
use Rattle.std.specs.Prelude.{bit_or, bit_xor}
use Rattle.kc_span.specs.Span.{Rule, QuietFor, IsDue}
use Rattle.kc_timers.specs.declared.T2View.{T2View}
use Rattle.kc_timers.specs.T2.{view_of}
use Rattle.kc_hso.specs.Cam.{hso_rule, tick_of, fires, slot_at, loads}
use Rattle.kc_hsi.specs.Input.{hsi_rule}
use Rattle.kc_extra.specs.Further.{Further}
use Rattle.kc_due.specs.Due.{at_slot}
use Rattle.kc_span.specs.DeferredUnit.{shown, caught_up_to, AreAlike}
use Rattle.kc_span.proofs.DeferredUnits.{caught_up, caught_up_shows, alike, alike_shows, due_alike, lent}
use Rattle.kc_block_spec.specs.Control.{control_of}
use Rattle.kc_block_spec.specs.Levels.{stimulated, stimulated_before, wired, outputs, levels_at}
use Rattle.kc_block_units.specs.Scheduler.{Scheduler, flag_goes, timer2_goes, line, hso_goes, further_goes, shown_units, levels_ahead, wire_slot, IsFurther, IsScheduled}
use Rattle.kc_block_units.proofs.Spans.{same_units, same_latches, agrees_after, no_wire}
use Rattle.kc_block_units.proofs.Levels.{stimulated_here}
use Rattle.kc_block_units.proofs.Rows.{value_fits, views_are_lines}

flip : {D : Type 0} (a b : Rule D) (from : ℕ) → AreAlike a b from → AreAlike b a from
flip a b from same = record { step = λ t d le. sym (same.step t d le); quiet = λ t d le. sym (same.quiet t d le) }

-- Timer 2 as it is shown from a state on
abbrev pub view_then : {X : Type 0} → Scheduler X → ℕ → T2View
view_then h t = view_of (control_of h.board_registers h.board_registers.levels) (shown (timer2_goes h) h.timer2 t)

-- what is asked of HSO by what it sees
pub hso_asked : {X : Type 0} (h : Scheduler X) (now : ℕ) (view : T2View) (slot : Option ℕ) → h.timer2.at ≤ now → h.timer2.kept.value < 65536 → view ≡ view_then h now →
    IsDue (hso_rule view now) now h.hso.kept slot → IsDue (hso_goes h) now h.hso.kept slot
hso_asked h now view slot le fits is due =
    due_alike (hso_rule (view_then h now) now) (hso_goes h) now h.hso.kept slot (views_are_lines h now le fits)
    (subst (λ v. IsDue (hso_rule v now) now h.hso.kept slot) is due)

module _ {X : Type 0} (f : Further X) (agrees : ℕ → ℕ → X → Type 0) (keeps : IsFurther f agrees) (h : Scheduler X) (now : ℕ) (is : IsScheduled f agrees h now) where
  -- HSO goes on under what it sees where it stands
  hso_alike : AreAlike (hso_rule (view_then h h.hso.at) h.hso.at) (hso_goes h) h.hso.at
  hso_alike = views_are_lines h h.hso.at is.order is.value

  pub hso_seen : (view : T2View) → view ≡ view_then h h.hso.at → shown (hso_rule view h.hso.at) h.hso now ≡ shown (hso_goes h) h.hso now
  hso_seen view same =
      ap (λ v. shown (hso_rule v h.hso.at) h.hso now) same
      ∙ alike_shows (hso_rule (view_then h h.hso.at) h.hso.at) (hso_goes h) h.hso now hso_alike

  pub hso_quiet : (view : T2View) → view ≡ view_then h h.hso.at → QuietFor (hso_rule view h.hso.at) h.hso.at (now - h.hso.at) h.hso.kept
  hso_quiet view same =
      subst (λ v. QuietFor (hso_rule v h.hso.at) h.hso.at (now - h.hso.at) h.hso.kept) (sym same)
      (lent (hso_rule (view_then h h.hso.at) h.hso.at) h.hso now (at_slot h.due 1)
      (alike (hso_goes h) (hso_rule (view_then h h.hso.at) h.hso.at) h.hso now (at_slot h.due 1) (flip _ _ h.hso.at hso_alike) is.hso))

  -- the outputs that are shown are those of the HSO that is kept
  same_outputs : outputs h.board_registers (shown (hso_goes h) h.hso now) ≡ outputs h.board_registers h.hso.kept
  same_outputs = ap (λ latches. outputs h.board_registers (record h.hso.kept { latches = latches })) (same_latches f agrees keeps h now now is (omega arith) is.hso.later)

  -- the levels of the present state
  pub levels_from : (own : ℕ) → own ≡ stimulated h.drives now → bit_or own (wired h.drives (outputs h.board_registers h.hso.kept)) ≡ levels_at now (shown_units f h now)
  levels_from own same =
      ap (λ m. bit_or m (wired h.drives (outputs h.board_registers h.hso.kept))) same
      ∙ ap (λ outs. bit_or (stimulated h.drives now) (wired h.drives outs)) (sym same_outputs)

  pub no_stimulus : ((u : ℕ) → at_slot h.due 5 ≡ Some u → now < u) → stimulated_before h.drives now ≡ stimulated h.drives now
  no_stimulus ahead = sym (stimulated_here h.drives now (at_slot h.due 5) is.stimuli ahead)

  pub levels_stay : ((u : ℕ) → at_slot h.due 5 ≡ Some u → now < u) → ((u : ℕ) → at_slot h.due 6 ≡ Some u → now < u) →
      h.board_registers.levels ≡ levels_at now (shown_units f h now)
  levels_stay stimuli wires =
      sym (no_wire now (levels_ahead h now) h.board_registers.levels (at_slot h.due 6) is.wires wires)
      ∙ levels_from (stimulated_before h.drives now) (no_stimulus stimuli)

  pub hso_caught_up : IsScheduled f agrees (record h { hso = caught_up_to (hso_goes h) now h.hso }) now
  hso_caught_up = record {
    timer2 = is.timer2;
    hso = caught_up (hso_goes h) h.hso now (at_slot h.due 1) is.hso;
    hsi = is.hsi;
    further = is.further;
    flag = is.flag;
    stimuli = is.stimuli;
    wires = is.wires ∙ ap (λ outs. wire_slot now (bit_or (stimulated_before h.drives now) (wired h.drives outs)) h.board_registers.levels) (sym same_outputs);
    proper = is.proper;
    held = is.held;
    order = is.timer2.first;
    value = is.value;
    agreed = is.agreed;
    spare = is.spare;
  }

  pub hso_caught_up_shows : shown_units f (record h { hso = caught_up_to (hso_goes h) now h.hso }) now ≡ shown_units f h now
  hso_caught_up_shows = same_units h.drives h.board_registers refl refl (caught_up_shows (hso_goes h) h.hso now now is.hso.first (omega arith)) refl refl

  -- HSO has been caught up before Timer 2, which it sees
  module _ (there : h.hso.at ≡ now) where
    same_line : AreAlike (hso_goes h) (hso_goes (record h { timer2 = caught_up_to (timer2_goes h) now h.timer2 })) h.hso.at
    same_line =
        let goes_on : (t : ℕ) → h.hso.at ≤ t → line h t ≡ line (record h { timer2 = caught_up_to (timer2_goes h) now h.timer2 }) t =
        λ t le. ap (λ d. d.value) (sym (caught_up_shows (timer2_goes h) h.timer2 now t is.timer2.first (omega arith))) in
        record {
          step = λ t e le. ap (λ v. tick_of false t v e) (goes_on t le);
          quiet = λ t e le. ap (λ v. not (fires (slot_at e t) t v || loads e t)) (goes_on t le);
        }

    pub timer2_caught_up : IsScheduled f agrees (record h { timer2 = caught_up_to (timer2_goes h) now h.timer2 }) now
    timer2_caught_up = record {
      timer2 = caught_up (timer2_goes h) h.timer2 now (at_slot h.due 0) is.timer2;
      hso = alike (hso_goes h) (hso_goes (record h { timer2 = caught_up_to (timer2_goes h) now h.timer2 })) h.hso now (at_slot h.due 1) same_line is.hso;
      hsi = is.hsi;
      further = is.further;
      flag = is.flag;
      stimuli = is.stimuli;
      wires = is.wires;
      proper = is.proper;
      held = is.held;
      order = omega arith;
      value = value_fits (control_of h.board_registers h.board_registers.levels) h.timer2 now is.value;
      agreed = is.agreed;
      spare = is.spare;
    }

    pub timer2_caught_up_shows : shown_units f (record h { timer2 = caught_up_to (timer2_goes h) now h.timer2 }) now ≡ shown_units f h now
    timer2_caught_up_shows =
        same_units h.drives h.board_registers refl (caught_up_shows (timer2_goes h) h.timer2 now now is.timer2.first (omega arith))
        (sym (alike_shows (hso_goes h) (hso_goes (record h { timer2 = caught_up_to (timer2_goes h) now h.timer2 })) h.hso now same_line)) refl refl

  pub hsi_caught_up : IsScheduled f agrees (record h { hsi = caught_up_to hsi_rule now h.hsi }) now
  hsi_caught_up = record {
    timer2 = is.timer2;
    hso = is.hso;
    hsi = caught_up hsi_rule h.hsi now (at_slot h.due 2) is.hsi;
    further = is.further;
    flag = is.flag;
    stimuli = is.stimuli;
    wires = is.wires;
    proper = is.proper;
    held = is.held;
    order = is.order;
    value = is.value;
    agreed = is.agreed;
    spare = is.spare;
  }

  pub hsi_caught_up_shows : shown_units f (record h { hsi = caught_up_to hsi_rule now h.hsi }) now ≡ shown_units f h now
  hsi_caught_up_shows = same_units h.drives h.board_registers refl refl refl (caught_up_shows hsi_rule h.hsi now now is.hsi.first (omega arith)) refl

  pub further_caught_up : IsScheduled f agrees (record h { further = caught_up_to (further_goes f) now h.further }) now
  further_caught_up = record {
    timer2 = is.timer2;
    hso = is.hso;
    hsi = is.hsi;
    further = caught_up (further_goes f) h.further now (at_slot h.due 3) is.further;
    flag = is.flag;
    stimuli = is.stimuli;
    wires = is.wires;
    proper = is.proper;
    held = is.held;
    order = is.order;
    value = is.value;
    agreed = λ m. agrees_after f agrees keeps h h.further.at (now - h.further.at) m (bit_xor h.board_registers.levels m) h.further.kept (is.agreed m);
    spare = is.spare;
  }

  pub further_caught_up_shows : shown_units f (record h { further = caught_up_to (further_goes f) now h.further }) now ≡ shown_units f h now
  further_caught_up_shows = same_units h.drives h.board_registers refl refl refl refl (caught_up_shows (further_goes f) h.further now now is.further.first (omega arith))

  pub flag_caught_up : IsScheduled f agrees (record h { flag = caught_up_to (flag_goes h) now h.flag }) now
  flag_caught_up = record {
    timer2 = is.timer2;
    hso = is.hso;
    hsi = is.hsi;
    further = is.further;
    flag = caught_up (flag_goes h) h.flag now (at_slot h.due 4) is.flag;
    stimuli = is.stimuli;
    wires = is.wires;
    proper = is.proper;
    held = is.held;
    order = is.order;
    value = is.value;
    agreed = is.agreed;
    spare = is.spare;
  }

  pub flag_caught_up_shows : shown_units f (record h { flag = caught_up_to (flag_goes h) now h.flag }) now ≡ shown_units f h now
  flag_caught_up_shows = same_units h.drives h.board_registers (caught_up_shows (flag_goes h) h.flag now now is.flag.first (omega arith)) refl refl refl refl
