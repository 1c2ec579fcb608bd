-- What an event touches, by what is due.
use Rattle.std.proofs.Common.{◌≡◌, ℕ, ◌-◌, ◌==◌, Bool, true, false, not, ◌&&◌, ◌||◌, refl, sym, ◌∙◌, ap, subst, Option, Some, None, [], List, ◌∷◌, length, bit_and, bit_or}
use Rattle.std.proofs.lemmas.Nat.{xor_comm}
use Rattle.std.proofs.lemmas.Bool.{or_parts, and_parts, eqb-true, not-false, false≢true}
use lib.Bits.{or_zero_r, xor_self}
use Rattle.kc_base.specs.Pins.{hsi0, hsi1, hsi2, hsi3, t2clk, t2rst, t2ud, t2cap}
use Rattle.kc_base.specs.Bits.{bit}
use Rattle.kc_span.specs.Span.{Rule}
use Rattle.kc_timers.specs.T2 as t2
use Rattle.kc_hso.specs.declared.cam.Entry.{Entry}
use Rattle.kc_hso.specs.Cam as cam
use Rattle.kc_hsi.specs.Input as hsi
use Rattle.kc_hsi.specs.Still.{no_edges_with}
use Rattle.kc_hsi.proofs.Still.{events_none}
use Rattle.kc_extra.specs.Further.{Further, is_silent, is_empty}
use Rattle.kc_extra.specs.declared.outcome.ExtraOut.{ExtraOut}
use Rattle.kc_due.specs.Due.{at_slot}
use Rattle.kc_span.specs.DeferredUnit.{DeferredUnit, shown, is_due_in, IsDeferred}
use Rattle.kc_span.proofs.DeferredUnits.{event}
use Rattle.kc_block_spec.specs.Units.{Units}
use Rattle.kc_block_spec.specs.Levels.{levels_at, printed, edges_between}
use Rattle.kc_block_spec.specs.Fired.{resets, starts}
use Rattle.kc_block_spec.specs.Control.{control_of, hsi_bits, hsi_enabled}
use Rattle.kc_block_spec.specs.Tick.{edges_at, rises_at, fired_at, control_at, timer2_inputs_at, timer2_out_at, hsi_edges_at, further_out_at}
use Rattle.kc_block_spec.specs.Touch.{hso_works, hsi_works, further_works, timer2_touched, hso_touched}
use Rattle.kc_block_spec.proofs.Quiet.{same_masks, edges_none}
use Rattle.kc_block_spec.proofs.Rests.{latches_stay}
use Rattle.kc_block_spec.proofs.Rows.{same_bit, no_bit, inputs_off, same_control, bits_off}
use Rattle.kc_block_units.specs.Scheduler.{flag_goes, timer2_goes, hso_goes, further_goes, shown_units, IsFurther}
use Rattle.kc_block_units.specs.Events.{has_timer2_edge, has_hsi_edge, TouchesAreKnown, UntouchedAreSilent, FurtherAgrees}
use Rattle.kc_block_units.proofs.Spans.{agrees_after}

-- without an edge, and without a reset, Timer 2 overflows as it does by itself
module _ {X : Type 0} (t : ℕ) (u : Units X) where
  same_overflow : has_timer2_edge (edges_at t u) ≡ false → resets (fired_at t u) ≡ false →
      (timer2_out_at t u).overflow ≡ t2.overflows (control_of u.board_registers u.board_registers.levels) t2.no_inputs t u.timer2
  same_overflow none no_reset =
      let e = edges_at t u in
      let pins = or_parts (bit e hsi0 || bit e hsi1) ((bit e t2clk || bit e t2rst) || (bit e t2ud || bit e t2cap)) none in
      let hsis = or_parts (bit e hsi0) (bit e hsi1) pins.0 in
      let others = or_parts (bit e t2clk || bit e t2rst) (bit e t2ud || bit e t2cap) pins.1 in
      let clocks = or_parts (bit e t2clk) (bit e t2rst) others.0 in
      let ups = or_parts (bit e t2ud) (bit e t2cap) others.1 in
      let control : control_at t u ≡ control_of u.board_registers u.board_registers.levels =
      same_control u.board_registers (levels_at t u) u.board_registers.levels (same_bit (levels_at t u) u.board_registers.levels t2ud ups.0) in
      let inputs : timer2_inputs_at t u ≡ t2.no_inputs =
      inputs_off (control_at t u) e (rises_at t u) (fired_at t u) hsis.1 clocks.0
      (no_bit e (levels_at t u) hsi0 hsis.0) (no_bit e (levels_at t u) t2rst clocks.1) (no_bit e (levels_at t u) t2cap ups.1) no_reset in
      ap (λ i. t2.overflows (control_at t u) i t u.timer2) inputs ∙ ap (λ c. t2.overflows c t2.no_inputs t u.timer2) control

  same_push : has_hsi_edge (edges_at t u) ≡ false → hsi.is_push t (hsi.gathered_with (hsi_edges_at t u) u.hsi) ≡ hsi.is_push t u.hsi.gathered
  same_push none =
      let e = edges_at t u in
      let pins = or_parts (bit e hsi0 || bit e hsi1) (bit e hsi2 || bit e hsi3) none in
      let low = or_parts (bit e hsi0) (bit e hsi1) pins.0 in
      let high = or_parts (bit e hsi2) (bit e hsi3) pins.1 in
      let masks : (m : ℕ) → hsi_bits (bit_and e m) ≡ 0 =
      λ m. bits_off (bit_and e m) (no_bit e m hsi0 low.0) (no_bit e m hsi1 low.1) (no_bit e m hsi2 high.0) (no_bit e m hsi3 high.1) in
      let edges : hsi_edges_at t u ≡ no_edges_with (hsi_enabled u.board_registers.ioc0) =
      λ i. record { rising = masks (levels_at t u) i; falling = masks u.board_registers.levels i; enabled = hsi_enabled u.board_registers.ioc0 } in
      ap (λ x. hsi.is_push t (hsi.gathered_with x u.hsi)) edges
      ∙ ap (λ n. hsi.is_push t (bit_or u.hsi.gathered n)) (events_none (hsi_enabled u.board_registers.ioc0) u.hsi.mode u.hsi.counts)
      ∙ ap (hsi.is_push t) (or_zero_r u.hsi.gathered)

  no_fire : cam.fires (cam.slot_at u.hso t) t u.timer2.value ≡ false → fired_at t u ≡ None
  no_fire quiet = by (cam.slot_at u.hso t) quiet
    where
      by : (o : Option Entry) → cam.fires o t u.timer2.value ≡ false → cam.fired_command o t u.timer2.value ≡ None
      by None off = refl
      by (Some entry) off = rw off refl

-- a deferred unit is active in the present state where that is its due state
active : {D : Type 0} (rule : Rule D) (deferred : DeferredUnit D) (now : ℕ) (slot : Option ℕ) → IsDeferred rule deferred now slot → not (rule.quiet now (shown rule deferred now)) ≡ is_due_in now slot
active rule deferred now slot is = ap not (event rule deferred now slot is) ∙ twice (is_due_in now slot)
  where
    twice : (b : Bool) → not (not b) ≡ b
    twice true = refl
    twice false = refl

not_twice : (b : Bool) → not (not b) ≡ b
not_twice true = refl
not_twice false = refl

not_both : (a b : Bool) → not (not a && not b) ≡ (a || b)
not_both true b = refl
not_both false b = not_twice b

-- three tests of which the middle one matters where the others fail alone
middle : (a b c d : Bool) → (a ≡ false → c ≡ false → b ≡ d) → (a || (b || c)) ≡ (a || (d || c))
middle true b c d same = refl
middle false true true true same = refl
middle false true true false same = refl
middle false false true true same = refl
middle false false true false same = refl
middle false b false d same = rw (same refl refl) refl

ends : (a b d : Bool) → (a ≡ false → b ≡ d) → (a || b) ≡ (a || d)
ends true b d same = refl
ends false b d same = same refl

-- HSO works, or Timer 2 is touched: a reset comes only where HSO works
either : (w p o r d : Bool) → (w ≡ false → r ≡ false) → (p ≡ false → r ≡ false → o ≡ d) → (w || (p || (o || r))) ≡ (w || (p || d))
either true p o r d fires same = refl
either false true o r d fires same = refl
either false false o r d fires same = rw (fires refl, or_off o) (same refl (fires refl))
  where
    or_off : (b : Bool) → (b || false) ≡ b
    or_off true = refl
    or_off false = refl

module _ {X : Type 0} (f : Further X) (agrees : ℕ → ℕ → X → Type 0) (keeps : IsFurther f agrees) where
  pub further_agrees : FurtherAgrees f agrees
  further_agrees h now is =
      let levels = levels_at now (shown_units f h now) in
      agrees_after f agrees keeps h h.further.at (now - h.further.at) levels (edges_at now (shown_units f h now)) h.further.kept
      (subst (λ e. agrees levels e h.further.kept) (xor_comm h.board_registers.levels levels) (is.agreed levels))

  pub touches_are_known : TouchesAreKnown f agrees
  touches_are_known h now is =
      let u = shown_units f h now in
      let e = edges_at now u in
      let r = resets (fired_at now u) in
      let overflow : has_timer2_edge e ≡ false → r ≡ false → (timer2_out_at now u).overflow ≡ is_due_in now (at_slot h.due 0) =
      λ none off. same_overflow now u none off ∙ sym (not_twice _) ∙ active (timer2_goes h) h.timer2 now (at_slot h.due 0) is.timer2 in
      let works : hso_works now u ≡ is_due_in now (at_slot h.due 1) = sym (not_twice _) ∙ active (hso_goes h) h.hso now (at_slot h.due 1) is.hso in
      let resets_by : hso_works now u ≡ false → r ≡ false =
      λ off. ap resets (no_fire now u (or_parts (cam.fires (cam.slot_at u.hso now) now u.timer2.value) (cam.loads u.hso now) off).0) in
      record {
        timer2 = middle (has_timer2_edge e) (timer2_out_at now u).overflow r (is_due_in now (at_slot h.due 0)) overflow;
        hso =
            either (hso_works now u) (has_timer2_edge e) (timer2_out_at now u).overflow r (is_due_in now (at_slot h.due 0)) resets_by overflow
            ∙ ap (λ b. b || (has_timer2_edge e || is_due_in now (at_slot h.due 0))) works;
        hsi = ends (has_hsi_edge e) (hsi_works now u) (is_due_in now (at_slot h.due 2)) (λ none.
            ap (λ b. b || hsi.is_move now u.hsi) (same_push now u none)
            ∙ sym (not_both (hsi.is_push now u.hsi.gathered) (hsi.is_move now u.hsi))
            ∙ active hsi.hsi_rule h.hsi now (at_slot h.due 2) is.hsi);
        further = middle (not (e == 0)) (further_works f now u) (starts (fired_at now u)) (is_due_in now (at_slot h.due 3)) (λ none off.
            let zero : e ≡ 0 = eqb-true e 0 (not-false (e == 0) none) in
            let level : levels_at now u ≡ h.board_registers.levels = same_masks (levels_at now u) h.board_registers.levels zero in
            let agreed : agrees h.board_registers.levels 0 u.further =
            agrees_after f agrees keeps h h.further.at (now - h.further.at) h.board_registers.levels 0 h.further.kept
            (subst (λ x. agrees h.board_registers.levels x h.further.kept) (xor_self h.board_registers.levels) (is.agreed h.board_registers.levels)) in
            ap (λ x. not (is_silent (f.out now (levels_at now u) x u.further))) zero
            ∙ ap (λ l. not (is_silent (f.out now l 0 u.further))) level
            ∙ ap (λ o. not (is_silent o)) (keeps.rests_out now h.board_registers.levels u.further agreed)
            ∙ active (further_goes f) h.further now (at_slot h.due 3) is.further);
        flag = sym (not_twice _) ∙ active (flag_goes h) h.flag now (at_slot h.due 4) is.flag;
      }

-- a Tick that raises and moves nothing
silent_is : (o : ExtraOut) → is_silent o ≡ true → o ≡ record { raised = record { 0 = 0 }; moved = [] }
silent_is o silent =
    let parts = and_parts (o.raised.0 == 0) (is_empty o.moved) silent in
    λ i. record { raised = record { 0 = eqb-true o.raised.0 0 parts.0 i }; moved = none o.moved parts.1 i }
  where
    none : {T : Type 0} (xs : List T) → is_empty xs ≡ true → xs ≡ []
    none [] e = refl
    none (x ∷ xs) e = absurd (false≢true e)

pub untouched_are_silent : {X : Type 0} → UntouchedAreSilent X
untouched_are_silent f now u =
    let e = edges_at now u in
    let quiet : hso_touched now u ≡ false → cam.fires (cam.slot_at u.hso now) now u.timer2.value ≡ false =
    λ off. (or_parts (cam.fires (cam.slot_at u.hso now) now u.timer2.value) (cam.loads u.hso now) (or_parts (hso_works now u) (timer2_touched now u) off).0).0 in
    record {
      timer2 = λ off.
          let parts = or_parts (has_timer2_edge e) ((timer2_out_at now u).overflow || resets (fired_at now u)) off in
          let own = or_parts (timer2_out_at now u).overflow (resets (fired_at now u)) parts.1 in
          let pins = or_parts (bit e hsi0 || bit e hsi1) ((bit e t2clk || bit e t2rst) || (bit e t2ud || bit e t2cap)) parts.0 in
          let others = or_parts (bit e t2clk || bit e t2rst) (bit e t2ud || bit e t2cap) pins.1 in
          let ups = or_parts (bit e t2ud) (bit e t2cap) others.1 in
          λ i. record { overflow = own.0 i; captured = no_bit e (levels_at now u) t2cap ups.1 i };
      hso = λ off. no_fire now u (quiet off);
      printed = λ off.
          ap (λ latches. edges_between (printed u.board_registers u.hso) (printed u.board_registers (record u.hso { latches = latches })))
          (latches_stay (cam.slot_at u.hso now) now u.timer2.value u.hso.latches (quiet off))
          ∙ edges_none (printed u.board_registers u.hso) 18;
      hsi = λ off.
          let parts = or_parts (has_hsi_edge e) (hsi_works now u) off in
          let works = or_parts (hsi.is_push now (hsi.gathered_with (hsi_edges_at now u) u.hsi)) (hsi.is_move now u.hsi) parts.1 in
          λ i. record { loaded = works.1 i; fourth = ap (λ b. b && (length u.hsi.fifo == 3)) works.0 i; sixth = ap (λ b. b && (length u.hsi.fifo == 5)) works.0 i };
      further = λ off.
          let parts = or_parts (not (e == 0)) (further_works f now u || starts (fired_at now u)) off in
          let own = or_parts (further_works f now u) (starts (fired_at now u)) parts.1 in
          silent_is (further_out_at f now u) (not-false (is_silent (further_out_at f now u)) own.0);
    }
