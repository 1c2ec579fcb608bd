-- The deferred units after an event are those of the next state.
use Rattle.std.proofs.Common.{◌≡◌, ℕ, ◌+◌, ◌<◌, ◌≤◌, ◌==◌, Bool, true, false, not, ◌&&◌, ◌||◌, refl, sym, ◌∙◌, ap, subst, arith, Option, bit_or, bit_xor, add-one}
use Rattle.std.specs.Prelude.{if◌then◌else◌}
use Rattle.std.proofs.lemmas.Bool.{or_parts, eqb-true, not-false, false≢true}
use Rattle.kc_span.specs.Span.{Rule}
use Rattle.kc_base.specs.Levels.{is_high}
use Rattle.kc_base.specs.Pins.{pin_count}
use Rattle.kc_stim.specs.Drives.{Drives, level_before}
use Rattle.kc_stim.specs.Proper.{is_driven}
use Rattle.kc_timers.specs.declared.T2Control.{T2Control}
use Rattle.kc_timers.specs.declared.T2Inputs.{T2Inputs}
use Rattle.kc_timers.specs.T2 as t2
use Rattle.kc_hso.specs.Cam.{cam_rule}
use Rattle.kc_hsi.specs.Input.{hsi_rule}
use Rattle.kc_extra.specs.Further.{Further}
use Rattle.kc_extra.specs.Two.{either_holds}
use Rattle.kc_due.specs.Due.{Times, at_slot}
use Rattle.kc_span.specs.DeferredUnit.{DeferredUnit, shown}
use Rattle.kc_span.proofs.DeferredUnits.{asked, asked_shows}
use Rattle.kc_block_spec.specs.Levels.{stimulated, stimulated_before, wired, outputs, levels_at}
use Rattle.kc_block_spec.specs.Fired.{starts}
use Rattle.kc_block_spec.specs.Control.{control_of}
use Rattle.kc_block_spec.specs.Tick.{edges_at, fired_at, control_at, timer2_inputs_at, tick}
use Rattle.kc_block_spec.specs.Touch.{hso_works, further_works, timer2_touched, hso_touched, hsi_touched, further_touched}
use Rattle.kc_block_spec.proofs.Quiet.{same_masks}
use Rattle.kc_block_spec.proofs.Masks.{mask_same}
use Rattle.kc_block_units.specs.Scheduler.{Scheduler, flag_goes, hso_goes, further_goes, shown_units, IsFurther, AreHeld, IsScheduled}
use Rattle.kc_block_units.specs.Rows.{ticked, IsRow, timer2_goes_after}
use Rattle.kc_block_units.specs.Events.{flag_touched, moved_deferred, ticked_scheduler, AsksWhere, ArePast, IsJoined, EventsJoin}
use Rattle.kc_block_units.proofs.Levels.{before-suc}
use Rattle.kc_block_units.proofs.Rows.{value_fits, timer2_row, hso_row, hsi_row, further_row, flag_row}
use Rattle.kc_block_units.proofs.Known.{further_agrees}

-- a deferred unit that was asked, or is a row
row_either : {D : Type 0} (touched : Bool) (rule : Rule D) (now : ℕ) (deferred : DeferredUnit D) (old new : Option ℕ) (d : D) →
    AsksWhere touched rule (now + 1) (moved_deferred touched now d deferred).kept old new → (touched ≡ false → IsRow rule deferred now old d) →
    IsRow rule (moved_deferred touched now d deferred) now new d
row_either true rule now deferred old new d is row = record { stays = asked rule (now + 1) d new is; shows = asked_shows rule (now + 1) d }
row_either false rule now deferred old new d is row = subst (λ slot. IsRow rule deferred now slot d) (sym is) (row refl)

-- where it is not touched it is the old one
left_deferred : {D : Type 0} (touched : Bool) (now : ℕ) (d : D) (deferred : DeferredUnit D) → touched ≡ false → deferred ≡ moved_deferred touched now d deferred
left_deferred touched now d deferred off = ap (λ b. moved_deferred b now d deferred) (sym off)

in_order : (a b : Bool) (now x y : ℕ) → (b ≡ false → a ≡ false) → x ≤ now → x ≤ y → (if a then now + 1 else x) ≤ (if b then now + 1 else y)
in_order true true now x y both le le' = omega arith
in_order true false now x y both le le' = absurd (false≢true (sym (both refl)))
in_order false true now x y both le le' = omega arith
in_order false false now x y both le le' = le'

moved_at : {D : Type 0} (touched : Bool) (now : ℕ) (d : D) (deferred : DeferredUnit D) → (moved_deferred touched now d deferred).at ≡ (if touched then now + 1 else deferred.at)
moved_at true now d deferred = refl
moved_at false now d deferred = refl

tick_fits : (c : T2Control) (inputs : T2Inputs) (t : ℕ) (d : t2.T2) → d.value < 65536 → (t2.tick_of c inputs t d).value < 65536
tick_fits c inputs t d fits = by inputs.reset (t2.is_count c inputs.clock t) c.down
  where
    by : (reset counts down : Bool) → (if reset then 0 else (if counts then t2.counted down d.value else d.value)) < 65536
    by true counts down = omega arith
    by false true true = omega arith
    by false true false = omega arith
    by false false down = fits

moved_fits : (touched : Bool) (now : ℕ) (d : t2.T2) (deferred : DeferredUnit t2.T2) → d.value < 65536 → deferred.kept.value < 65536 → (moved_deferred touched now d deferred).kept.value < 65536
moved_fits true now d deferred new old = new
moved_fits false now d deferred new old = old

kept_either : {D : Type 0} (P : D → Type 0) (touched : Bool) (now : ℕ) (d : D) (deferred : DeferredUnit D) → (touched ≡ true → P d) → (touched ≡ false → P deferred.kept) → P (moved_deferred touched now d deferred).kept
kept_either P true now d deferred new old = new refl
kept_either P false now d deferred new old = old refl

before_next : (drives : Drives) (now : ℕ) → stimulated drives now ≡ stimulated_before drives (now + 1)
before_next drives now = mask_same _ _ pin_count (λ pin lt.
    ap (λ l. is_driven drives pin && is_high l) (sym (before-suc drives.stimuli pin now) ∙ ap (λ t. level_before drives.stimuli pin t) (sym (add-one now))))

module _ {X : Type 0} (f : Further X) (agrees : ℕ → ℕ → X → Type 0) (keeps : IsFurther f agrees) (h : Scheduler X) (now : ℕ) (is : IsScheduled f agrees h now) where
  -- HSO is touched where Timer 2 is
  hso_with_timer2 : hso_touched now (shown_units f h now) ≡ false → timer2_touched now (shown_units f h now) ≡ false
  hso_with_timer2 off = (or_parts (hso_works now (shown_units f h now)) (timer2_touched now (shown_units f h now)) off).1

  drives_stay : h.drives ≡ (ticked f h now).drives
  unfolding tick
  drives_stay = refl

  pub held : AreHeld h.drives (ticked f h now).board_registers.levels (now + 1)
  unfolding tick
  held = record {
    outs = outputs h.board_registers (shown (hso_goes h) h.hso now);
    are = ap (λ m. bit_or m (wired h.drives (outputs h.board_registers (shown (hso_goes h) h.hso now)))) (before_next h.drives now);
  }

  timer2_fits : (ticked f h now).timer2.value < 65536
  unfolding tick
  timer2_fits =
      tick_fits (control_at now (shown_units f h now)) (timer2_inputs_at now (shown_units f h now)) now (shown_units f h now).timer2
      (value_fits (control_of h.board_registers h.board_registers.levels) h.timer2 now is.value)

  agreed_after : (m : ℕ) → agrees m (bit_xor (ticked f h now).board_registers.levels m) (ticked f h now).further
  unfolding tick
  agreed_after m =
      let levels = levels_at now (shown_units f h now) in
      let edges = edges_at now (shown_units f h now) in
      let d = (shown_units f h now).further in
      let stepped : agrees m (bit_xor levels m) (f.step now levels edges d) = keeps.keeps now levels edges m d (further_agrees f agrees keeps h now is) in
      either_holds (agrees m (bit_xor levels m)) (starts (fired_at now (shown_units f h now))) (f.started now (f.step now levels edges d)) (f.step now levels edges d)
      (keeps.start_keeps now m (bit_xor levels m) (f.step now levels edges d) stepped) stepped

  agreed_before : further_touched f now (shown_units f h now) ≡ false → (m : ℕ) → agrees m (bit_xor (ticked f h now).board_registers.levels m) h.further.kept
  unfolding tick
  agreed_before off m =
      let e = edges_at now (shown_units f h now) in
      let none : not (e == 0) ≡ false = (or_parts (not (e == 0)) (further_works f now (shown_units f h now) || starts (fired_at now (shown_units f h now))) off).0 in
      let level : levels_at now (shown_units f h now) ≡ h.board_registers.levels =
      same_masks (levels_at now (shown_units f h now)) h.board_registers.levels (eqb-true e 0 (not-false (e == 0) none)) in
      subst (λ l. agrees m (bit_xor l m) h.further.kept) (sym level) (is.agreed m)

  module _ (d : Times) (past : ArePast f h now (record (ticked_scheduler f h now) { due = d })) where
    timer2_stands : IsRow (timer2_goes_after f h now) (ticked_scheduler f h now).timer2 now (at_slot d 0) (ticked f h now).timer2
    timer2_stands =
        row_either (timer2_touched now (shown_units f h now)) (timer2_goes_after f h now) now h.timer2 (at_slot h.due 0) (at_slot d 0) (ticked f h now).timer2
        past.timer2 (timer2_row f agrees h now is)

    hso_stands : IsRow (hso_goes (record (ticked_scheduler f h now) { due = d })) (ticked_scheduler f h now).hso now (at_slot d 1) (ticked f h now).hso
    hso_stands =
        row_either (hso_touched now (shown_units f h now)) (hso_goes (record (ticked_scheduler f h now) { due = d })) now h.hso (at_slot h.due 1) (at_slot d 1) (ticked f h now).hso
        past.hso (λ off.
        subst (λ deferred. IsRow (cam_rule (λ t. (shown (timer2_goes_after f h now) deferred t).value)) h.hso now (at_slot h.due 1) (ticked f h now).hso)
        (left_deferred (timer2_touched now (shown_units f h now)) now (ticked f h now).timer2 h.timer2 (hso_with_timer2 off))
        (hso_row f agrees h now is off))

    hsi_stands : IsRow hsi_rule (ticked_scheduler f h now).hsi now (at_slot d 2) (ticked f h now).hsi
    hsi_stands =
        row_either (hsi_touched now (shown_units f h now)) hsi_rule now h.hsi (at_slot h.due 2) (at_slot d 2) (ticked f h now).hsi
        past.hsi (hsi_row f agrees h now is)

    further_stands : IsRow (further_goes f) (ticked_scheduler f h now).further now (at_slot d 3) (ticked f h now).further
    further_stands =
        row_either (further_touched f now (shown_units f h now)) (further_goes f) now h.further (at_slot h.due 3) (at_slot d 3) (ticked f h now).further
        past.further (further_row f agrees keeps h now is)

    flag_stands : IsRow (flag_goes (record (ticked_scheduler f h now) { due = d })) (ticked_scheduler f h now).flag now (at_slot d 4) (ticked f h now).overflowed
    flag_stands =
        row_either (flag_touched h now) (flag_goes (record (ticked_scheduler f h now) { due = d })) now h.flag (at_slot h.due 4) (at_slot d 4) (ticked f h now).overflowed
        past.flag (flag_row f agrees h now is)

    order : (ticked_scheduler f h now).timer2.at ≤ (ticked_scheduler f h now).hso.at
    order =
        let le : h.timer2.at ≤ now = is.timer2.first in
        let t = moved_at (timer2_touched now (shown_units f h now)) now (ticked f h now).timer2 h.timer2 in
        let o = moved_at (hso_touched now (shown_units f h now)) now (ticked f h now).hso h.hso in
        subst (λ n. n ≤ (ticked_scheduler f h now).hso.at) (sym t) (subst (λ n. (if timer2_touched now (shown_units f h now) then now + 1 else h.timer2.at) ≤ n) (sym o)
        (in_order (timer2_touched now (shown_units f h now)) (hso_touched now (shown_units f h now)) now h.timer2.at h.hso.at hso_with_timer2 le is.order))

    joined : IsJoined f agrees h now (record (ticked_scheduler f h now) { due = d })
    joined = record {
      scheduled = record {
        timer2 = timer2_stands.stays;
        hso = hso_stands.stays;
        hsi = hsi_stands.stays;
        further = further_stands.stays;
        flag = flag_stands.stays;
        stimuli = past.stimuli;
        wires = past.wires;
        proper = is.proper;
        held = held;
        order = order;
        value = moved_fits (timer2_touched now (shown_units f h now)) now (ticked f h now).timer2 h.timer2 timer2_fits is.value;
        agreed = λ m.
            kept_either (agrees m (bit_xor (ticked f h now).board_registers.levels m)) (further_touched f now (shown_units f h now)) now (ticked f h now).further h.further
            (λ on. agreed_after m) (λ off. agreed_before off m);
        spare = past.spare;
      };
      shows = shown_is;
    }
      where
        shown_is : shown_units f (record (ticked_scheduler f h now) { due = d }) (now + 1) ≡ ticked f h now
        shown_is = λ i. record {
          drives = drives_stay i;
          board_registers = (ticked f h now).board_registers;
          overflowed = flag_stands.shows i;
          timer2 = timer2_stands.shows i;
          hso = hso_stands.shows i;
          hsi = hsi_stands.shows i;
          further = further_stands.shows i;
        }

pub events_join : {X : Type 0} (f : Further X) (agrees : ℕ → ℕ → X → Type 0) → IsFurther f agrees → EventsJoin f agrees
events_join f agrees keeps h k now is past =
    subst (IsJoined f agrees h now) (sym past.scheduler) (joined f agrees keeps h now is k.due (subst (ArePast f h now) past.scheduler past))
