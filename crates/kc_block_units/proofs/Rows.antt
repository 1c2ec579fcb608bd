-- One event, unit by unit.
use Rattle.std.proofs.Common.{refl, ◌≡◌, ℕ, ◌+◌, ◌-◌, ◌<◌, ◌≤◌, Bool, true, false, not, ◌||◌, sym, ◌∙◌, ap, arith, subst, Option}
use Rattle.std.proofs.lemmas.Bool.{or_parts, not_from_false}
use lib.Bits.{xor_self}
use Rattle.kc_span.specs.Span.{Rule}
use Rattle.kc_span.proofs.SpanLaws.{after-over}
use Rattle.kc_due.specs.Due.{at_slot}
use Rattle.kc_timers.specs.declared.T2Control.{T2Control}
use Rattle.kc_timers.specs.T2.{T2, timer2_rule, view_of, value_at, moved, counts_in, every_of}
use Rattle.kc_timers.proofs.T2Laws.{timer2_after, view_shows}
use Rattle.kc_hso.specs.Cam.{cam_rule, tick_of, fires, slot_at, loads}
use Rattle.kc_hsi.specs.Input.{hsi_rule}
use Rattle.kc_extra.specs.Further.{Further, is_silent}
use Rattle.kc_span.specs.DeferredUnit.{DeferredUnit, shown, IsDeferred}
use Rattle.kc_span.proofs.DeferredUnits.{next, passes_over}
use Rattle.kc_block_spec.specs.Control.{control_of}
use Rattle.kc_block_spec.specs.Tick.{tick}
use Rattle.kc_block_spec.specs.Touch.{timer2_touched, hso_works}
use Rattle.kc_block_spec.specs.Rows.{GoesAlone}
use Rattle.kc_block_spec.proofs.Rows.{timer2_untouched, hso_untouched, hsi_untouched, further_untouched}
use Rattle.kc_block_units.specs.Scheduler.{flag_goes, timer2_goes, line, hso_goes, further_goes, shown_units, IsFurther}
use Rattle.kc_block_units.specs.Rows.{ticked, IsRow, Timer2Row, HsoRow, HsiRow, FlagRow, FurtherRow, ViewsAreLines}
use Rattle.kc_block_units.proofs.Spans.{agrees_after}

-- a unit that goes on by itself
row : {D : Type 0} (rule : Rule D) (deferred : DeferredUnit D) (now : ℕ) (slot : Option ℕ) (new : D) → IsDeferred rule deferred now slot →
    GoesAlone rule now (shown rule deferred now) new → IsRow rule deferred now slot new
row rule deferred now slot new is alone = record {
  stays = passes_over rule deferred now slot is alone.quiet;
  shows = next rule deferred now is.first ∙ sym alone.step;
}

module _ {X : Type 0} (f : Further X) (agrees : ℕ → ℕ → X → Type 0) where
  pub timer2_row : Timer2Row f agrees
  timer2_row h now is none =
      let alone = timer2_untouched f now (shown_units f h now) none in
      subst (λ c. IsRow (timer2_rule c) h.timer2 now (at_slot h.due 0) (ticked f h now).timer2) (sym alone.control)
      (row (timer2_goes h) h.timer2 now (at_slot h.due 0) (ticked f h now).timer2 is.timer2 alone.alone)

  pub hso_row : HsoRow f agrees
  hso_row h now is none =
      let parts = or_parts (hso_works now (shown_units f h now)) (timer2_touched now (shown_units f h now)) none in
      let timer2 = timer2_untouched f now (shown_units f h now) parts.1 in
      let alone = hso_untouched f now (shown_units f h now) none in
      subst (λ c. IsRow (cam_rule (λ t. (shown (timer2_rule c) h.timer2 t).value)) h.hso now (at_slot h.due 1) (ticked f h now).hso) (sym timer2.control)
      (row (hso_goes h) h.hso now (at_slot h.due 1) (ticked f h now).hso is.hso (record { step = alone.step; quiet = alone.quiet }))

  pub hsi_row : HsiRow f agrees
  hsi_row h now is none = row hsi_rule h.hsi now (at_slot h.due 2) (ticked f h now).hsi is.hsi (hsi_untouched f now (shown_units f h now) none)

  pub flag_row : FlagRow f agrees
  unfolding tick
  flag_row h now is none =
      row (flag_goes h) h.flag now (at_slot h.due 4) (ticked f h now).overflowed is.flag (record { step = refl; quiet = not_from_false _ none })

  pub further_row : IsFurther f agrees → FurtherRow f agrees
  further_row keeps h now is none =
      let alone = further_untouched f now (shown_units f h now) none in
      let d : X = shown (further_goes f) h.further now in
      let agreed : agrees h.board_registers.levels 0 d =
      agrees_after f agrees keeps h h.further.at (now - h.further.at) h.board_registers.levels 0 h.further.kept
      (subst (λ e. agrees h.board_registers.levels e h.further.kept) (xor_self h.board_registers.levels) (is.agreed h.board_registers.levels)) in
      row (further_goes f) h.further now (at_slot h.due 3) (ticked f h now).further is.further (record {
        step = alone.step ∙ keeps.rests now h.board_registers.levels d agreed;
        quiet = ap is_silent (sym (keeps.rests_out now h.board_registers.levels d agreed)) ∙ alone.silent;
      })

moved_fits : (down : Bool) (v n : ℕ) → moved down v n < 65536
moved_fits true v n = omega arith
moved_fits false v n = omega arith

-- the value of Timer 2 stays in its range
pub value_fits : (c : T2Control) (deferred : DeferredUnit T2) (t : ℕ) → deferred.kept.value < 65536 → (shown (timer2_rule c) deferred t).value < 65536
value_fits c deferred t fits =
    subst (λ e. e.value < 65536) (sym (timer2_after c deferred.at (t - deferred.at) deferred.kept fits))
    (moved_fits c.down deferred.kept.value (counts_in (every_of c) deferred.at (deferred.at + (t - deferred.at))))

pub views_are_lines : {X : Type 0} → ViewsAreLines X
views_are_lines h from le fits =
    let c = control_of h.board_registers h.board_registers.levels in
    let d = shown (timer2_goes h) h.timer2 from in
    let small : d.value < 65536 = value_fits c h.timer2 from fits in
    let same : (t : ℕ) → from ≤ t → value_at (view_of c d) from t ≡ line h t =
    λ t later. view_shows c from t d small later ∙ ap (λ e. e.value) (sym (after-over (timer2_goes h) h.timer2.at from t h.timer2.kept le later)) in
    record {
      step = λ t e later. ap (λ v. tick_of false t v e) (same t later);
      quiet = λ t e later. ap (λ v. not (fires (slot_at e t) t v || loads e t)) (same t later);
    }
