-- The first state that passes a test is found among so many states, if it is one of them.
use Rattle.std.specs.Prelude.{if◌then◌else◌, ◌&&◌, ◌==◌, ◌⊎◌}
use Rattle.std.specs.Option.{option_or, IfSome}
use Rattle.std.proofs.Common.{◌≡◌, ℕ, zero, suc, ◌+◌, ◌*◌, ◌%◌, ◌<◌, ◌≤◌, Bool, true, false, Option, Some, None, inl, inr, refl, sym, ◌∙◌, ap, subst, arith}
use Rattle.std.proofs.lemmas.Bool.{cases_eq, cases_order}
use Rattle.kc_timers.specs.declared.T2View.{T2View}
use Rattle.kc_hso.specs.declared.cam.Entry.{Entry}
use Rattle.kc_hso.specs.Visits.{first_state, due_of_slot, slot_active, IsSlotDue}

module _ (test : ℕ → Bool) (from : ℕ) where
  one_more : (n : ℕ) (b : Bool) → test (from + n) ≡ b → first_state test from (suc n) ≡ option_or (first_state test from n) (if b then Some (from + n) else None)
  unfolding first_state
  one_more n b is = ap (λ c. option_or (first_state test from n) (if c then Some (from + n) else None)) is

  none_found : (n : ℕ) → ((t : ℕ) → from ≤ t → t < from + n → test t ≡ false) → first_state test from n ≡ None
  unfolding first_state
  none_found zero off = refl
  none_found (suc n) off =
      let here : test (from + n) ≡ false = off (from + n) (omega arith) (omega arith) in
      let before : first_state test from n ≡ None = none_found n (λ t late few. off t late (omega (arith, few))) in
      one_more n false here ∙ ap (λ o. option_or o None) before

  at_last : (u n : ℕ) (b : Bool) → first_state test from n ≡ Some u → test (from + n) ≡ b → first_state test from (suc n) ≡ Some u
  at_last u n b before is = one_more n b is ∙ ap (λ o. option_or o (if b then Some (from + n) else None)) before

  -- of one state more, where it is the one that is looked for, or is none of those before
  one_later : (u n : ℕ) → test u ≡ true → ((t : ℕ) → from ≤ t → t < u → test t ≡ false) → (u < from + n → first_state test from n ≡ Some u) →
      (u ≡ from + n) ⊎ ((u < from + n) ⊎ (from + n < u)) → u < from + suc n → first_state test from (suc n) ≡ Some u
  one_later u n on off before (inl last) few =
      let here : test (from + n) ≡ true = subst (λ t. test t ≡ true) last on in
      let none : first_state test from n ≡ None = none_found n (λ t later fewer. off t later (omega (arith, last, fewer))) in
      one_more n true here ∙ ap (λ o. option_or o (Some (from + n))) none ∙ ap Some (sym last)
  one_later u n on off before (inr (inl less)) few = at_last u n (test (from + n)) (before less) refl
  one_later u n on off before (inr (inr more)) few = absurd (omega (arith, more, few))

  some_found : (u n : ℕ) → from ≤ u → test u ≡ true → ((t : ℕ) → from ≤ t → t < u → test t ≡ false) → u < from + n → first_state test from n ≡ Some u
  some_found u zero late on off few = absurd (omega (arith, late, few))
  some_found u (suc n) late on off few = one_later u n on off (λ fewer. some_found u n late on off fewer) (cases_order u (from + n)) few

module _ (view : T2View) (from i : ℕ) (slot : Option Entry) where
  -- a state that does not look at the slot is none of its states
  not_due : (t : ℕ) → (t % 8 ≡ i → slot_active view from i slot false t ≡ false) → ((t % 8 == i) && slot_active view from i slot false t) ≡ false
  not_due t quiet = by (cases_eq (t % 8) i)
    where
      by : (t % 8 ≡ i) ⊎ (t % 8 ≡ i → ⊥) → ((t % 8 == i) && slot_active view from i slot false t) ≡ false
      by (inl here) = grind (arith, here, quiet here)
      by (inr other) = grind (arith, other)

  due : (t : ℕ) → t % 8 ≡ i → slot_active view from i slot false t ≡ true → ((t % 8 == i) && slot_active view from i slot false t) ≡ true
  due t here active = grind (arith, here, active)

pub due_found : (view : T2View) (from i : ℕ) (slot : Option Entry) (at : Option ℕ) → IsSlotDue view from i slot false at → IfSome at (λ u. u < from + 8 * 65537) →
    at ≡ due_of_slot view from i slot
due_found view from i slot None never reach =
    sym (none_found (λ t. (t % 8 == i) && slot_active view from i slot false t) from (8 * 65537) (λ t late few. not_due view from i slot t (never t late)))
due_found view from i slot (Some u) is reach =
    sym (some_found (λ t. (t % 8 == i) && slot_active view from i slot false t) from u (8 * 65537) is.0 (due view from i slot u is.1 is.2)
    (λ t late sooner. not_due view from i slot t (is.3 t late sooner)) reach)
