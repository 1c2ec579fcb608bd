-- What the code does to each unit is what the Tick of all units does to it.
use Rattle.std.proofs.Common.{◌≡◌, ℕ, ◌+◌, ◌*◌, ◌==◌, Bool, true, false, not, ◌&&◌, ◌||◌, refl, sym, ◌∙◌, ap, arith, None, [], ◌++◌}
use Rattle.std.specs.Prelude.{if◌then◌else◌}
use Rattle.std.proofs.lemmas.List.{map-append}
use Rattle.kc_base.specs.Bits.{bit}
use Rattle.kc_timers.specs.declared.T2Control.{T2Control}
use Rattle.kc_timers.specs.declared.T2Inputs.{T2Inputs}
use Rattle.kc_timers.specs.declared.T2View.{T2View}
use Rattle.kc_timers.specs.T2 as t2
use Rattle.kc_hso.specs.Cam as cam
use Rattle.kc_hsi.specs.declared.pins.PinEdges.{PinEdges}
use Rattle.kc_hsi.specs.Input as hsi
use Rattle.kc_extra.specs.Further.{Further}
use Rattle.kc_due.specs.Due.{at_slot}
use Rattle.kc_span.specs.DeferredUnit.{DeferredUnit, shown, is_due_in}
use Rattle.kc_block_spec.specs.Levels.{levels_at, printed, edges_between}
use Rattle.kc_block_spec.specs.Fired.{resets, starts}
use Rattle.kc_block_spec.specs.Control.{control_of}
use Rattle.kc_block_spec.specs.Tick.{passes, edges_at, fired_at, control_at, timer2_inputs_at, timer2_out_at, hsi_edges_at, hsi_out_at, further_out_at, board_registers_at, hso_at, tick}
use Rattle.kc_block_spec.specs.Touch.{in_state, one_if, timer2_touched, hso_touched, hsi_touched, further_touched, touched}
use Rattle.kc_block_units.specs.Scheduler.{Scheduler, further_goes, shown_units, IsFurther, IsScheduled}
use Rattle.kc_block_units.specs.Events.{has_timer2_edge, has_hsi_edge, flag_touched, moved_deferred, ticked_scheduler}
use Rattle.kc_block_units.proofs.CatchingUp.{view_then, hso_seen}
use Rattle.kc_block_units.proofs.Known.{touches_are_known, untouched_are_silent}

-- a choice of two that are the same where the second is taken
either_is : {T : Type 0} (b : Bool) (x y : T) → (b ≡ false → x ≡ y) → (if b then x else y) ≡ x
either_is true x y same = refl
either_is false x y same = sym (same refl)

twice : (b : Bool) → (if b then 2 else 0) ≡ 2 * one_if b
twice true = refl
twice false = refl

flag_set : (p r o : Bool) (now : ℕ) (deferred : DeferredUnit Bool) → moved_deferred (p && r) now true deferred ≡ moved_deferred (p && r) now (o || p) deferred
flag_set true true true now deferred = refl
flag_set true true false now deferred = refl
flag_set true false o now deferred = refl
flag_set false r o now deferred = refl

module _ {X : Type 0} (f : Further X) (agrees : ℕ → ℕ → X → Type 0) (keeps : IsFurther f agrees) (h : Scheduler X) (now : ℕ) (is : IsScheduled f agrees h now) where
  pub hso_known : (p a b : Bool) → p ≡ has_timer2_edge (edges_at now (shown_units f h now)) → a ≡ is_due_in now (at_slot h.due 1) → b ≡ is_due_in now (at_slot h.due 0) →
      (a || (p || b)) ≡ hso_touched now (shown_units f h now)
  hso_known p a b e e1 e0 = (λ i. e1 i || (e i || e0 i)) ∙ sym (touches_are_known f agrees keeps h now is).hso

  pub timer2_known : (p b r : Bool) → p ≡ has_timer2_edge (edges_at now (shown_units f h now)) → b ≡ is_due_in now (at_slot h.due 0) → r ≡ resets (fired_at now (shown_units f h now)) →
      (p || (b || r)) ≡ timer2_touched now (shown_units f h now)
  timer2_known p b r e e0 reset = (λ i. e i || (e0 i || reset i)) ∙ sym (touches_are_known f agrees keeps h now is).timer2

  pub hsi_known : (p b : Bool) → p ≡ has_hsi_edge (edges_at now (shown_units f h now)) → b ≡ is_due_in now (at_slot h.due 2) → (p || b) ≡ hsi_touched now (shown_units f h now)
  hsi_known p b e e2 = (λ i. e i || e2 i) ∙ sym (touches_are_known f agrees keeps h now is).hsi

  pub further_known : (e : ℕ) (b s : Bool) → e ≡ edges_at now (shown_units f h now) → b ≡ is_due_in now (at_slot h.due 3) → s ≡ starts (fired_at now (shown_units f h now)) →
      (not (e == 0) || (b || s)) ≡ further_touched f now (shown_units f h now)
  further_known e b s same e3 start = (λ i. not (same i == 0) || (e3 i || start i)) ∙ sym (touches_are_known f agrees keeps h now is).further

  pub flag_known : (b : Bool) → b ≡ is_due_in now (at_slot h.due 4) → b ≡ flag_touched h now
  flag_known b e4 = e4 ∙ sym (touches_are_known f agrees keeps h now is).flag

  module _ (on : Bool) (view : T2View) (value : ℕ) (is_on : on ≡ hso_touched now (shown_units f h now)) (seen : view ≡ view_then h h.hso.at) (valued : value ≡ (shown_units f h now).timer2.value) where
    abbrev pub caught_up_hso : cam.Cam
    caught_up_hso = shown (cam.hso_rule view h.hso.at) h.hso now

    same_hso : caught_up_hso ≡ (shown_units f h now).hso
    same_hso = hso_seen f agrees keeps h now is view seen

    pub hso_deferred : moved_deferred on now (cam.tick_of (bit h.board_registers.ioc2 6) now value caught_up_hso) h.hso ≡ (ticked_scheduler f h now).hso
    unfolding tick
    hso_deferred = λ i. moved_deferred (is_on i) now (cam.tick_of (bit h.board_registers.ioc2 6) now (valued i) (same_hso i)) h.hso

    pub hso_fired : (if on then (cam.out_of now value caught_up_hso).command else None) ≡ fired_at now (shown_units f h now)
    hso_fired =
        (λ i. if is_on i then (cam.out_of now (valued i) (same_hso i)).command else None)
        ∙ either_is (hso_touched now (shown_units f h now)) (fired_at now (shown_units f h now)) None (untouched_are_silent f now (shown_units f h now)).hso

    pub hso_edges : (if on then in_state now (edges_between (printed h.board_registers caught_up_hso) (printed h.board_registers (cam.tick_of (bit h.board_registers.ioc2 6) now value caught_up_hso))) else [])
        ≡ in_state now (edges_between (printed h.board_registers (shown_units f h now).hso) (printed (board_registers_at f now (shown_units f h now)) (hso_at f now (shown_units f h now))))
    hso_edges =
        (λ i. if is_on i then in_state now (edges_between (printed h.board_registers (same_hso i)) (printed h.board_registers (cam.tick_of (bit h.board_registers.ioc2 6) now (valued i) (same_hso i)))) else [])
        ∙ either_is (hso_touched now (shown_units f h now))
        (in_state now (edges_between (printed h.board_registers (shown_units f h now).hso) (printed (board_registers_at f now (shown_units f h now)) (hso_at f now (shown_units f h now))))) []
        (λ off. ap (in_state now) ((untouched_are_silent f now (shown_units f h now)).printed off))

  module _ (on : Bool) (before control : T2Control) (inputs : T2Inputs) (is_on : on ≡ timer2_touched now (shown_units f h now)) (was : before ≡ control_of h.board_registers h.board_registers.levels)
      (controlled : control ≡ control_at now (shown_units f h now)) (given : inputs ≡ timer2_inputs_at now (shown_units f h now)) where
    pub timer2_deferred : moved_deferred on now (t2.tick_of control inputs now (shown (t2.timer2_rule before) h.timer2 now)) h.timer2 ≡ (ticked_scheduler f h now).timer2
    unfolding tick
    timer2_deferred = λ i. moved_deferred (is_on i) now (t2.tick_of (controlled i) (given i) now (shown (t2.timer2_rule (was i)) h.timer2 now)) h.timer2

    pub timer2_out : (if on then t2.out_of control inputs now (shown (t2.timer2_rule before) h.timer2 now) else record { overflow = false; captured = false })
        ≡ timer2_out_at now (shown_units f h now)
    timer2_out =
        (λ i. if is_on i then t2.out_of (controlled i) (given i) now (shown (t2.timer2_rule (was i)) h.timer2 now) else record { overflow = false; captured = false })
        ∙ either_is (timer2_touched now (shown_units f h now)) (timer2_out_at now (shown_units f h now)) (record { overflow = false; captured = false })
        (untouched_are_silent f now (shown_units f h now)).timer2

  module _ (on : Bool) (edges : PinEdges) (is_on : on ≡ hsi_touched now (shown_units f h now)) (given : edges ≡ hsi_edges_at now (shown_units f h now)) where
    pub hsi_deferred : moved_deferred on now (hsi.tick_of edges now (shown hsi.hsi_rule h.hsi now)) h.hsi ≡ (ticked_scheduler f h now).hsi
    unfolding tick
    hsi_deferred = λ i. moved_deferred (is_on i) now (hsi.tick_of (given i) now (shown hsi.hsi_rule h.hsi now)) h.hsi

    pub hsi_out : (if on then hsi.out_of edges now (shown hsi.hsi_rule h.hsi now) else record { loaded = false; fourth = false; sixth = false })
        ≡ hsi_out_at now (shown_units f h now)
    hsi_out =
        (λ i. if is_on i then hsi.out_of (given i) now (shown hsi.hsi_rule h.hsi now) else record { loaded = false; fourth = false; sixth = false })
        ∙ either_is (hsi_touched now (shown_units f h now)) (hsi_out_at now (shown_units f h now)) (record { loaded = false; fourth = false; sixth = false })
        (untouched_are_silent f now (shown_units f h now)).hsi

  module _ (on started : Bool) (levels edges : ℕ) (is_on : on ≡ further_touched f now (shown_units f h now)) (is_started : started ≡ starts (fired_at now (shown_units f h now)))
      (level : levels ≡ levels_at now (shown_units f h now)) (edge : edges ≡ edges_at now (shown_units f h now)) where
    pub further_deferred :
        moved_deferred on now
        (if started then f.started now (f.step now levels edges (shown (further_goes f) h.further now)) else f.step now levels edges (shown (further_goes f) h.further now)) h.further
        ≡ (ticked_scheduler f h now).further
    unfolding tick
    further_deferred = λ i.
        moved_deferred (is_on i) now
        (if is_started i then f.started now (f.step now (level i) (edge i) (shown (further_goes f) h.further now)) else f.step now (level i) (edge i) (shown (further_goes f) h.further now)) h.further

    pub further_raised : (if on then (f.out now levels edges (shown (further_goes f) h.further now)).raised else record { 0 = 0 }) ≡ (further_out_at f now (shown_units f h now)).raised
    further_raised =
        (λ i. if is_on i then (f.out now (level i) (edge i) (shown (further_goes f) h.further now)).raised else record { 0 = 0 })
        ∙ either_is (further_touched f now (shown_units f h now)) (further_out_at f now (shown_units f h now)).raised (record { 0 = 0 })
        (λ off. ap (λ o. o.raised) ((untouched_are_silent f now (shown_units f h now)).further off))

    pub further_edges : (if on then in_state now (f.out now levels edges (shown (further_goes f) h.further now)).moved else []) ≡ in_state now (further_out_at f now (shown_units f h now)).moved
    further_edges =
        (λ i. if is_on i then in_state now (f.out now (level i) (edge i) (shown (further_goes f) h.further now)).moved else [])
        ∙ either_is (further_touched f now (shown_units f h now)) (in_state now (further_out_at f now (shown_units f h now)).moved) []
        (λ off. ap (λ o. in_state now o.moved) ((untouched_are_silent f now (shown_units f h now)).further off))

  pub flag_deferred : (on : Bool) → on ≡ flag_touched h now → moved_deferred on now true h.flag ≡ (ticked_scheduler f h now).flag
  unfolding tick
  flag_deferred on is_on =
      ap (λ b. moved_deferred b now true h.flag) is_on ∙ flag_set (passes now) (bit h.board_registers.ioc1 2) (shown_units f h now).overflowed now h.flag

  pub all_edges : in_state now (edges_between (printed h.board_registers (shown_units f h now).hso) (printed (board_registers_at f now (shown_units f h now)) (hso_at f now (shown_units f h now))))
      ++ in_state now (further_out_at f now (shown_units f h now)).moved ≡ in_state now (tick f now (shown_units f h now)).edges
  unfolding tick
  all_edges = sym (map-append (λ edge. (now, edge)) (edges_between (printed h.board_registers (shown_units f h now).hso) (printed (board_registers_at f now (shown_units f h now)) (hso_at f now (shown_units f h now))))
      (further_out_at f now (shown_units f h now)).moved)

  pub all_calls : (a b c d : Bool) → a ≡ hso_touched now (shown_units f h now) → b ≡ timer2_touched now (shown_units f h now) → c ≡ hsi_touched now (shown_units f h now) →
      d ≡ further_touched f now (shown_units f h now) →
      (if a then 2 else 0) + (if b then 2 else 0) + (if c then 2 else 0) + (if d then 2 else 0) ≡ 2 * touched f now (shown_units f h now)
  unfolding touched
  all_calls a b c d p q r s =
      let e : (if a then 2 else 0) + (if b then 2 else 0) + (if c then 2 else 0) + (if d then 2 else 0)
      ≡ 2 * one_if (hso_touched now (shown_units f h now)) + 2 * one_if (timer2_touched now (shown_units f h now)) + 2 * one_if (hsi_touched now (shown_units f h now)) + 2 * one_if (further_touched f now (shown_units f h now)) =
      (λ i. (if p i then 2 else 0) + (if q i then 2 else 0) + (if r i then 2 else 0) + (if s i then 2 else 0))
      ∙ (λ i. twice (hso_touched now (shown_units f h now)) i + twice (timer2_touched now (shown_units f h now)) i + twice (hsi_touched now (shown_units f h now)) i + twice (further_touched f now (shown_units f h now)) i) in
      omega (arith, e)
