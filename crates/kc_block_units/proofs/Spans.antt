-- States before each slot, and spans of them.
use Rattle.std.proofs.Common.{◌≡◌, ℕ, zero, suc, ◌+◌, ◌-◌, ◌<◌, ◌≤◌, ◌==◌, Bool, true, false, not, refl, sym, ◌∙◌, ap, arith, Option, Some, [], ◌++◌, subst, inl, inr, bit_or, bit_xor, add-zero, zero-add}
use Rattle.std.proofs.lemmas.Bool.{cases_Bool, eqb-true, false≢true, cases_eq, eq-eqb}
use lib.Bits.{xor_self}
use Rattle.kc_base.specs.Levels.{is_high}
use Rattle.kc_span.specs.Span.{Rule, after}
use Rattle.kc_span.proofs.SpanLaws.{after-zero, after-suc}
use Rattle.kc_stim.specs.Drives.{Drives, level_at, level_before, IsNextEdge}
use Rattle.kc_stim.specs.Proper.{AreProper}
use Rattle.kc_block_spec.proofs.Quiet.{same_masks}
use Rattle.std.specs.Prelude.{is_some, ◌≢◌, None}
use Rattle.kc_timers.specs.T2.{T2}
use Rattle.kc_hso.specs.Cam.{Cam}
use Rattle.kc_hso.proofs.Kept.{quiet_keeps}
use Rattle.kc_hsi.specs.Input.{Input, hsi_rule}
use Rattle.kc_extra.specs.Further.{Further, is_silent}
use Rattle.kc_due.specs.Due.{at_slot}
use Rattle.kc_span.specs.DeferredUnit.{DeferredUnit, shown, IsDeferred, is_due_in}
use Rattle.kc_span.proofs.DeferredUnits.{next, calm, event, waits}
use Rattle.kc_span.proofs.SpanLaws.{quiet_until}
use Rattle.kc_block_spec.specs.declared.board_registers.BoardRegisters.{BoardRegisters}
use Rattle.kc_block_spec.specs.Units.{Units}
use Rattle.kc_block_spec.specs.Levels.{levels_at, stimulated, stimulated_before, wired, outputs}
use Rattle.kc_block_spec.specs.Tick.{tick}
use Rattle.kc_block_spec.specs.Touch.{in_state, worked, touched, block_rule, touch, edges_of}
use Rattle.kc_block_spec.specs.Laws.{rested, IsCalm}
use Rattle.kc_block_spec.proofs.Rests.{quiet_ticks_are_rests, calm_ticks_are_not_worked, unworked_ticks_are_calm}
use Rattle.kc_block_units.specs.Scheduler.{Scheduler, flag_goes, timer2_goes, line, hso_goes, further_goes, shown_units, levels_ahead, wire_slot, IsFurther, IsScheduled, IsAhead}
use Rattle.kc_block_units.specs.Laws.{IsQuietState, QuietState, QuietSpan, GoesOn, EventIsWorked}
use Rattle.kc_block_units.proofs.Levels.{before_stays, stimulated_stays, next_stays, edge_changes, same_stimuli}

abbrev pub units_of : {X : Type 0} → Drives → BoardRegisters → Bool → T2 → Cam → Input → X → Units X
units_of drives board_registers overflowed timer2 hso input further = record {
  drives = drives;
  board_registers = board_registers;
  overflowed = overflowed;
  timer2 = timer2;
  hso = hso;
  hsi = input;
  further = further;
}

pub same_units : {X : Type 0} (drives : Drives) (board_registers : BoardRegisters) {o o' : Bool} {a a' : T2} {h h' : Cam} {i i' : Input} {x x' : X} →
    o ≡ o' → a ≡ a' → h ≡ h' → i ≡ i' → x ≡ x' → units_of drives board_registers o a h i x ≡ units_of drives board_registers o' a' h' i' x'
same_units drives board_registers p q r v w = λ j. units_of drives board_registers (p j) (q j) (r j) (v j) (w j)

-- the wires have no slot before a later state: the levels are those ahead
pub no_wire : (now ahead levels : ℕ) (slot : Option ℕ) → slot ≡ wire_slot now ahead levels → ((u : ℕ) → slot ≡ Some u → now < u) → ahead ≡ levels
no_wire now ahead levels slot is later = elim (cases_Bool (ahead == levels)) [
  | inl same ↦ eqb-true ahead levels same
  | inr other ↦ let soon : now < now = later now (is ∙ rw other refl) in absurd (omega arith)
]

wire_later : (now to ahead levels : ℕ) → ahead ≡ levels → wire_slot now ahead levels ≡ wire_slot to ahead levels
wire_later now to ahead levels same = rw (eq-eqb ahead levels same) refl

module _ {X : Type 0} (f : Further X) (agrees : ℕ → ℕ → X → Type 0) (keeps : IsFurther f agrees) (h : Scheduler X) where
  -- what a further unit keeps of levels, over states without an edge
  pub agrees_after : (from n l e : ℕ) (d : X) → agrees l e d → agrees l e (after (further_goes f) from n d)
  agrees_after from zero l e d is = rw after-zero is
  agrees_after from (suc n) l e d is = rw after-suc (keeps.rest_keeps (from + n) l e _ (agrees_after from n l e d is))

  -- the latches that are shown up to the due state
  pub same_latches : (now t : ℕ) → IsScheduled f agrees h now → now ≤ t → ((u : ℕ) → at_slot h.due 1 ≡ Some u → t ≤ u) →
      (shown (hso_goes h) h.hso t).latches ≡ h.hso.kept.latches
  same_latches now t is le ahead =
      (quiet_keeps (line h) h.hso.at (t - h.hso.at) h.hso.kept (quiet_until (hso_goes h) h.hso.at h.hso.kept (at_slot h.due 1) t is.hso.due ahead)).latches

  module _ (now t : ℕ) (is : IsScheduled f agrees h now) (le : now ≤ t) (ahead : IsAhead h t) where
    same_levels : levels_at t (shown_units f h t) ≡ h.board_registers.levels
    same_levels =
        ap (λ m. bit_or m (wired h.drives (outputs h.board_registers (shown (hso_goes h) h.hso t))))
        (stimulated_stays h.drives now t (at_slot h.due 5) is.stimuli le (λ u e. ahead 5 u (omega arith) e))
        ∙ ap (λ latches. bit_or (stimulated_before h.drives now) (wired h.drives (outputs h.board_registers (record h.hso.kept { latches = latches }))))
        (same_latches now t is le (λ u e. let lt : t < u = ahead 1 u (omega arith) e in omega arith))
        ∙ no_wire now (levels_ahead h now) h.board_registers.levels (at_slot h.due 6) is.wires (λ u e. let lt : t < u = ahead 6 u (omega arith) e in omega arith)

    agreed : agrees h.board_registers.levels 0 (shown (further_goes f) h.further t)
    agreed =
        agrees_after h.further.at (t - h.further.at) h.board_registers.levels 0 h.further.kept
        (subst (λ e. agrees h.board_registers.levels e h.further.kept) (xor_self h.board_registers.levels) (is.agreed h.board_registers.levels))

    is_calm : IsCalm f t (shown_units f h t)
    is_calm = record {
      inputs = ap (λ l. bit_xor l h.board_registers.levels) same_levels ∙ xor_self h.board_registers.levels;
      flag = calm (flag_goes h) h.flag now t (at_slot h.due 4) is.flag le (λ u e. ahead 4 u (omega arith) e);
      timer2 = calm (timer2_goes h) h.timer2 now t (at_slot h.due 0) is.timer2 le (λ u e. ahead 0 u (omega arith) e);
      hso = calm (hso_goes h) h.hso now t (at_slot h.due 1) is.hso le (λ u e. ahead 1 u (omega arith) e);
      hsi = calm hsi_rule h.hsi now t (at_slot h.due 2) is.hsi le (λ u e. ahead 2 u (omega arith) e);
      further =
          ap is_silent (keeps.rests_out t h.board_registers.levels (shown (further_goes f) h.further t) agreed)
          ∙ calm (further_goes f) h.further now t (at_slot h.due 3) is.further le (λ u e. ahead 3 u (omega arith) e);
    }

    next_shown : rested f t (shown_units f h t) ≡ shown_units f h (t + 1)
    next_shown =
        let a : h.timer2.at ≤ now = is.timer2.first in
        let b : h.hso.at ≤ now = is.hso.first in
        let c : h.hsi.at ≤ now = is.hsi.first in
        let d : h.further.at ≤ now = is.further.first in
        let e : h.flag.at ≤ now = is.flag.first in
        same_units h.drives h.board_registers
        (sym (next (flag_goes h) h.flag t (omega arith)))
        (sym (next (timer2_goes h) h.timer2 t (omega arith)))
        (sym (next (hso_goes h) h.hso t (omega arith)))
        (sym (next hsi_rule h.hsi t (omega arith)))
        (keeps.rests t h.board_registers.levels (shown (further_goes f) h.further t) agreed ∙ sym (next (further_goes f) h.further t (omega arith)))

    pub is_quiet : IsQuietState f h t
    is_quiet =
        let none : worked f t (shown_units f h t) ≡ false = calm_ticks_are_not_worked f t (shown_units f h t) is_calm in
        let quiet = quiet_ticks_are_rests f t (shown_units f h t) none in
        record {
          same = quiet.same ∙ ap (λ units. record { units = units; edges = [] }) next_shown;
          untouched = quiet.untouched;
          unworked = none;
        }

pub quiet_state : {X : Type 0} (f : Further X) (agrees : ℕ → ℕ → X → Type 0) → IsFurther f agrees → QuietState f agrees
quiet_state f agrees keeps h now t is le ahead = is_quiet f agrees keeps h now t is le ahead

pub quiet_span : {X : Type 0} (f : Further X) (agrees : ℕ → ℕ → X → Type 0) → IsFurther f agrees → QuietSpan f agrees
unfolding touch edges_of
quiet_span f agrees keeps h now zero is up_to = record {
  units = rw (after-zero, add-zero) refl;
  touch = refl;
  edges = refl;
}
quiet_span f agrees keeps h now (suc n) is up_to =
    let before = quiet_span f agrees keeps h now n is (λ slot u lt e. let le : now + suc n ≤ u = up_to slot u lt e in omega arith) in
    let here = is_quiet f agrees keeps h now (now + n) is (omega arith) (λ slot u lt e. let le : now + suc n ≤ u = up_to slot u lt e in omega arith) in
    let one : now + n + 1 ≡ now + suc n = omega arith in
    record {
      units =
          after-suc (block_rule f) now n (shown_units f h now)
          ∙ ap (λ u. (tick f (now + n) u).units) before.units
          ∙ ap (λ ticked. ticked.units) here.same
          ∙ ap (shown_units f h) one;
      touch =
          ap (λ m. m + touched f (now + n) (after (block_rule f) now n (shown_units f h now))) before.touch
          ∙ zero-add (touched f (now + n) (after (block_rule f) now n (shown_units f h now)))
          ∙ ap (touched f (now + n)) before.units
          ∙ here.untouched;
      edges =
          ap (λ es. es ++ in_state (now + n) (tick f (now + n) (after (block_rule f) now n (shown_units f h now))).edges) before.edges
          ∙ ap (λ u. in_state (now + n) (tick f (now + n) u).edges) before.units
          ∙ ap (λ ticked. in_state (now + n) ticked.edges) here.same;
    }

pub goes_on : {X : Type 0} (f : Further X) (agrees : ℕ → ℕ → X → Type 0) → IsFurther f agrees → GoesOn f agrees
goes_on f agrees keeps h now to is le up_to =
    let same : stimulated_before h.drives to ≡ stimulated_before h.drives now =
    before_stays h.drives now to (at_slot h.due 5) is.stimuli le (λ u e. up_to 5 u (omega arith) e) in
    record {
      timer2 = waits (timer2_goes h) h.timer2 now to (at_slot h.due 0) is.timer2 le (λ u e. up_to 0 u (omega arith) e);
      hso = waits (hso_goes h) h.hso now to (at_slot h.due 1) is.hso le (λ u e. up_to 1 u (omega arith) e);
      hsi = waits hsi_rule h.hsi now to (at_slot h.due 2) is.hsi le (λ u e. up_to 2 u (omega arith) e);
      further = waits (further_goes f) h.further now to (at_slot h.due 3) is.further le (λ u e. up_to 3 u (omega arith) e);
      flag = waits (flag_goes h) h.flag now to (at_slot h.due 4) is.flag le (λ u e. up_to 4 u (omega arith) e);
      stimuli = next_stays h.drives.stimuli now to (at_slot h.due 5) is.stimuli le (λ u e. up_to 5 u (omega arith) e);
      wires = wires_stay now to (levels_ahead h now) (levels_ahead h to) h.board_registers.levels (at_slot h.due 6) is.wires le (λ u e. up_to 6 u (omega arith) e)
          (ap (λ m. bit_or m (wired h.drives (outputs h.board_registers h.hso.kept))) same);
      proper = is.proper;
      held = record { outs = is.held.outs; are = is.held.are ∙ ap (λ m. bit_or m (wired h.drives is.held.outs)) (sym same) };
      order = is.order;
      value = is.value;
      agreed = is.agreed;
      spare = is.spare;
    }
  where
    wires_stay : (now to ahead later levels : ℕ) (slot : Option ℕ) → slot ≡ wire_slot now ahead levels → now ≤ to → ((u : ℕ) → slot ≡ Some u → to ≤ u) → later ≡ ahead →
        slot ≡ wire_slot to later levels
    wires_stay now to ahead later levels slot is le up_to same = elim (cases_Bool (ahead == levels)) [
      | inl none ↦ is ∙ rw (same, none) refl
      | inr other ↦
          let found : slot ≡ Some now = is ∙ rw other refl in
          let back : to ≤ now = up_to now found in
          let here : now ≡ to = omega arith in
          is ∙ rw (same, other) (ap Some here)
    ]

-- a Tick that is not worked is calm, but in its due state no unit is quiet
active_then : {D : Type 0} (rule : Rule D) (deferred : DeferredUnit D) (now : ℕ) (slot : Option ℕ) → IsDeferred rule deferred now slot → slot ≡ Some now → rule.quiet now (shown rule deferred now) ≡ true → ⊥
active_then rule deferred now slot is due quiet =
    let here : is_due_in now slot ≡ true = ap (is_due_in now) due ∙ eq-eqb now now refl in
    false≢true (sym (ap not here) ∙ sym (event rule deferred now slot is) ∙ quiet)

-- an edge by stimuli in the present state
edge_here : {X : Type 0} (h : Scheduler X) (now : ℕ) (slot : Option ℕ) → IsNextEdge h.drives.stimuli now slot → slot ≡ Some now → AreProper h.drives → (a b : ℕ) →
    bit_or (stimulated h.drives now) (wired h.drives a) ≡ bit_or (stimulated_before h.drives now) (wired h.drives b) → ⊥
edge_here h now None is e proper a b same = false≢true (ap is_some e)
edge_here h now (Some u) is e proper a b same =
    let here : u ≡ now = cc in
    let edge : (pin : ℕ) × (level_at h.drives.stimuli pin now ≢ level_before h.drives.stimuli pin now) =
    subst (λ t. (pin : ℕ) × (level_at h.drives.stimuli pin t ≢ level_before h.drives.stimuli pin t)) here is.edge in
    edge_changes h.drives now a b edge.0 proper edge.1 same

-- an edge by a wire
wire_here : {X : Type 0} (f : Further X) (agrees : ℕ → ℕ → X → Type 0) → IsFurther f agrees → (h : Scheduler X) (now : ℕ) → IsScheduled f agrees h now →
    at_slot h.due 6 ≡ Some now → levels_at now (shown_units f h now) ≡ h.board_registers.levels → ⊥
wire_here f agrees keeps h now is due levels =
    let stimuli : stimulated h.drives now ≡ stimulated_before h.drives now =
    same_stimuli h.drives (λ n. is_high (level_at h.drives.stimuli n now)) (λ n. is_high (level_before h.drives.stimuli n now))
    (outputs h.board_registers (shown (hso_goes h) h.hso now)) is.held.outs (levels ∙ is.held.are) in
    let ahead : levels_ahead h now ≡ h.board_registers.levels =
    ap (λ m. bit_or m (wired h.drives (outputs h.board_registers h.hso.kept))) (sym stimuli)
    ∙ ap (λ latches. bit_or (stimulated h.drives now) (wired h.drives (outputs h.board_registers (record h.hso.kept { latches = latches }))))
    (sym (same_latches f agrees keeps h now now is (omega arith) is.hso.later))
    ∙ levels in
    let none : at_slot h.due 6 ≡ None = is.wires ∙ rw (eq-eqb (levels_ahead h now) h.board_registers.levels ahead) refl in
    let both : ◌≡◌ {A = Option ℕ} None (Some now) = sym none ∙ due in
    false≢true (ap is_some both)

pub event_is_worked : {X : Type 0} (f : Further X) (agrees : ℕ → ℕ → X → Type 0) → IsFurther f agrees → EventIsWorked f agrees
event_is_worked f agrees keeps h now slot is lt due = elim (cases_Bool (worked f now (shown_units f h now))) [
  | inl there ↦ there
  | inr none ↦
      let calm = unworked_ticks_are_calm f now (shown_units f h now) none in
      let agreed : agrees h.board_registers.levels 0 (shown (further_goes f) h.further now) =
      agrees_after f agrees keeps h h.further.at (now - h.further.at) h.board_registers.levels 0 h.further.kept
      (subst (λ e. agrees h.board_registers.levels e h.further.kept) (xor_self h.board_registers.levels) (is.agreed h.board_registers.levels)) in
      let silent : is_silent (f.rest_out now (shown (further_goes f) h.further now)) ≡ true =
      ap is_silent (sym (keeps.rests_out now h.board_registers.levels (shown (further_goes f) h.further now) agreed)) ∙ calm.further in
      absurd (
      elim (cases_eq slot 0) [
        | inl e ↦ active_then (timer2_goes h) h.timer2 now (at_slot h.due 0) is.timer2 (subst (λ k. at_slot h.due k ≡ Some now) e due) calm.timer2
        | inr n0 ↦ elim (cases_eq slot 1) [
          | inl e ↦ active_then (hso_goes h) h.hso now (at_slot h.due 1) is.hso (subst (λ k. at_slot h.due k ≡ Some now) e due) calm.hso
          | inr n1 ↦ elim (cases_eq slot 2) [
            | inl e ↦ active_then hsi_rule h.hsi now (at_slot h.due 2) is.hsi (subst (λ k. at_slot h.due k ≡ Some now) e due) calm.hsi
            | inr n2 ↦ elim (cases_eq slot 3) [
              | inl e ↦ active_then (further_goes f) h.further now (at_slot h.due 3) is.further (subst (λ k. at_slot h.due k ≡ Some now) e due) silent
              | inr n3 ↦ elim (cases_eq slot 4) [
                | inl e ↦ active_then (flag_goes h) h.flag now (at_slot h.due 4) is.flag (subst (λ k. at_slot h.due k ≡ Some now) e due) calm.flag
                | inr n4 ↦ elim (cases_eq slot 5) [
                  | inl e ↦ edge_here h now (at_slot h.due 5) is.stimuli (subst (λ k. at_slot h.due k ≡ Some now) e due) is.proper
                      (outputs h.board_registers (shown (hso_goes h) h.hso now)) is.held.outs (same_masks _ _ calm.inputs ∙ is.held.are)
                  | inr n5 ↦
                      let e : slot ≡ 6 = omega arith in
                      wire_here f agrees keeps h now is (subst (λ k. at_slot h.due k ≡ Some now) e due) (same_masks _ _ calm.inputs)
                ]
              ]
            ]
          ]
        ]
      ]
      )
]
