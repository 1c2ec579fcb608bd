-- The due state of the whole block.
use Rattle.std.proofs.Common.{◌≡◌, ℕ, ◌+◌, ◌-◌, ◌<◌, ◌≤◌, true, false, not, sym, ◌∙◌, ap, subst, arith, Option, Some, None, Bool, ◌==◌, inl, inr}
use Rattle.std.specs.Prelude.{is_some, if◌then◌else◌}
use Rattle.std.proofs.lemmas.Bool.{false≢true, cases_eq, eq-eqb}
use Rattle.kc_span.specs.Span.{after}
use Rattle.kc_due.specs.Due.{at_slot}
use Rattle.kc_stim.specs.Drives.{Stimulation, IsNextEdge}
use Rattle.kc_extra.specs.Further.{Further}
use Rattle.kc_span.specs.DeferredUnit.{is_due_in}
use Rattle.kc_block_spec.specs.Touch.{worked, block_rule}
use Rattle.kc_block_units.specs.Scheduler.{Scheduler, levels_ahead, wire_slot, shown_units, IsFurther, IsScheduled}
use Rattle.kc_block_units.specs.Laws.{IsUpTo, LeastSlotIsDue, NoSlotIsDue}
use Rattle.kc_block_units.proofs.Spans.{is_quiet, quiet_span, goes_on, event_is_worked}

edge_later : (stimuli : Stimulation) (now : ℕ) (next : Option ℕ) (u : ℕ) → IsNextEdge stimuli now next → next ≡ Some u → now ≤ u
edge_later stimuli now None u is e = absurd (false≢true (ap is_some e))
edge_later stimuli now (Some v) u is e = let same : v ≡ u = cc in subst (λ w. now ≤ w) same is.later

wire_later : (now ahead levels u : ℕ) → wire_slot now ahead levels ≡ Some u → now ≤ u
wire_later now ahead levels u e = by (ahead == levels) e
  where
    by : (b : Bool) → (if b then None else Some now) ≡ Some u → now ≤ u
    by true e = absurd (false≢true (ap is_some e))
    by false e = let same : now ≡ u = cc in omega arith

-- no slot lies before the present state
pub slots_later : {X : Type 0} (f : Further X) (agrees : ℕ → ℕ → X → Type 0) (h : Scheduler X) (now slot u : ℕ) → IsScheduled f agrees h now → slot < 7 → at_slot h.due slot ≡ Some u → now ≤ u
slots_later f agrees h now slot u is lt due = elim (cases_eq slot 0) [
  | inl e ↦ is.timer2.later u (ap (at_slot h.due) (sym e) ∙ due)
  | inr n0 ↦ elim (cases_eq slot 1) [
    | inl e ↦ is.hso.later u (ap (at_slot h.due) (sym e) ∙ due)
    | inr n1 ↦ elim (cases_eq slot 2) [
      | inl e ↦ is.hsi.later u (ap (at_slot h.due) (sym e) ∙ due)
      | inr n2 ↦ elim (cases_eq slot 3) [
        | inl e ↦ is.further.later u (ap (at_slot h.due) (sym e) ∙ due)
        | inr n3 ↦ elim (cases_eq slot 4) [
          | inl e ↦ is.flag.later u (ap (at_slot h.due) (sym e) ∙ due)
          | inr n4 ↦ elim (cases_eq slot 5) [
            | inl e ↦ edge_later h.drives.stimuli now (at_slot h.due 5) u is.stimuli (ap (at_slot h.due) (sym e) ∙ due)
            | inr n5 ↦
                let e : slot ≡ 6 = omega arith in
                wire_later now (levels_ahead h now) h.board_registers.levels u (sym is.wires ∙ ap (at_slot h.due) (sym e) ∙ due)
          ]
        ]
      ]
    ]
  ]
]

-- a slot whose state is not the present one is ahead
pub slot_ahead : {X : Type 0} (f : Further X) (agrees : ℕ → ℕ → X → Type 0) (h : Scheduler X) (now slot : ℕ) → IsScheduled f agrees h now → slot < 7 →
    is_due_in now (at_slot h.due slot) ≡ false → (u : ℕ) → at_slot h.due slot ≡ Some u → now < u
slot_ahead f agrees h now slot is lt off u due =
    let le : now ≤ u = slots_later f agrees h now slot u is lt due in
    elim (cases_eq u now) [
      | inl same ↦ absurd (false≢true (sym off ∙ ap (is_due_in now) due ∙ eq-eqb u now same))
      | inr other ↦ omega (arith, other)
    ]

module _ {X : Type 0} (f : Further X) (agrees : ℕ → ℕ → X → Type 0) (keeps : IsFurther f agrees) (h : Scheduler X) where
  -- a state before each slot
  quiet_before : (now k at : ℕ) → IsScheduled f agrees h now → IsUpTo h at → now + k < at →
      (block_rule f).quiet (now + k) (after (block_rule f) now k (shown_units f h now)) ≡ true
  quiet_before now k at is up_to lt =
      let span = quiet_span f agrees keeps h now k is (λ slot u below e. let le : at ≤ u = up_to slot u below e in omega arith) in
      let here = is_quiet f agrees keeps h now (now + k) is (omega arith) (λ slot u below e. let le : at ≤ u = up_to slot u below e in omega arith) in
      ap (λ u. not (worked f (now + k) u)) span.units ∙ ap not here.unworked

pub least_slot_is_due : {X : Type 0} (f : Further X) (agrees : ℕ → ℕ → X → Type 0) → IsFurther f agrees → LeastSlotIsDue f agrees
least_slot_is_due f agrees keeps h now slot at is below due up_to =
    let later : now ≤ at = slots_later f agrees h now slot at is below due in
    let to : now + (at - now) ≡ at = omega arith in
    let span = quiet_span f agrees keeps h now (at - now) is (λ s u lt e. let le : at ≤ u = up_to s u lt e in omega arith) in
    let there : IsScheduled f agrees h at = goes_on f agrees keeps h now at is later up_to in
    record {
      later = later;
      before = λ k lt. quiet_before f agrees keeps h now k at is up_to (omega arith);
      active =
          ap (λ u. not (worked f at u)) (span.units ∙ ap (shown_units f h) to)
          ∙ ap not (event_is_worked f agrees keeps h at slot there below due);
    }

pub no_slot_is_due : {X : Type 0} (f : Further X) (agrees : ℕ → ℕ → X → Type 0) → IsFurther f agrees → NoSlotIsDue f agrees
no_slot_is_due f agrees keeps h now is none n k lt =
    quiet_before f agrees keeps h now k (now + k + 1) is (λ slot u below e. absurd (false≢true (ap is_some (sym (none slot below) ∙ e)))) (omega arith)
