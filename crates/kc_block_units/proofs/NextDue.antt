-- The least slot, found in the list of the due states.
use Rattle.std.proofs.Common.{◌≡◌, ℕ, ◌-◌, ◌^◌, ◌<◌, refl, sym, ◌∙◌, ap, arith, Some, None, inl, inr}
use Rattle.std.specs.Prelude.{is_some}
use Rattle.std.proofs.lemmas.Bool.{false≢true, cases_lt}
use Rattle.kc_due.specs.Due.{IsFirst}
use Rattle.kc_extra.specs.Further.{Further}
use Rattle.kc_block_spec.specs.Touch.{block_rule}
use Rattle.kc_block_units.specs.Scheduler.{Scheduler, shown_units, IsFurther, IsScheduled}
use Rattle.kc_block_units.specs.Laws.{IsUpTo}
use Rattle.kc_block_units.proofs.Due.{least_slot_is_due, no_slot_is_due}
use Rattle.kc_block_units.specs.Next.{IsDueOrLast}

some_same : {u v : ℕ} → Some u ≡ Some v → u ≡ v
some_same e = cc

module _ {X : Type 0} (f : Further X) (agrees : ℕ → ℕ → X → Type 0) (keeps : IsFurther f agrees) (h : Scheduler X) where
  pub first_up_to : (slot at : ℕ) → IsFirst h.due (Some (slot, at)) → IsUpTo h at
  first_up_to slot at first k u lt e = elim (first.2 k u (omega arith) e) [
    | inl sooner ↦ omega arith
    | inr same ↦ let eq : at ≡ u = same.0 in omega arith
  ]

  slot_small : (now slot at : ℕ) → IsScheduled f agrees h now → IsFirst h.due (Some (slot, at)) → slot < 7
  slot_small now slot at is first = elim (cases_lt slot 7) [
    | inl lt ↦ lt
    | inr le ↦ absurd (false≢true (ap is_some (sym (is.spare slot le first.0) ∙ first.1)))
  ]

  pub first_is_due : (now slot at : ℕ) → IsScheduled f agrees h now → IsFirst h.due (Some (slot, at)) → IsDueOrLast (block_rule f) now (shown_units f h now) at
  first_is_due now slot at is first =
      inl (least_slot_is_due f agrees keeps h now slot at is (slot_small now slot at is first) first.1 (first_up_to slot at first))

  pub none_is_due : (now : ℕ) → IsScheduled f agrees h now → IsFirst h.due None → IsDueOrLast (block_rule f) now (shown_units f h now) (2 ^ 64 - 1)
  none_is_due now is none = inr (refl, no_slot_is_due f agrees keeps h now is (λ slot lt. none slot (omega arith)))
