-- Spans of states with an event at their end, and spans one after the other.
use Rattle.std.proofs.Common.{◌≡◌, ℕ, zero, suc, ◌+◌, ◌-◌, ◌^◌, ◌<◌, ◌≤◌, refl, sym, ◌∙◌, ap, arith, List, [], ◌∷◌, ◌++◌, append_assoc, add-zero, add-suc, zero-add, add_assoc, inl, inr}
use Rattle.kc_span.specs.Span.{Rule, after}
use Rattle.kc_span.proofs.SpanLaws.{after-zero, after-add, after-until}
use Rattle.kc_extra.specs.Further.{Further}
use Rattle.kc_block_spec.specs.Units.{Units}
use Rattle.kc_block_spec.specs.Tick.{tick}
use Rattle.kc_block_spec.specs.Touch.{in_state, block_rule, touched, touch, edges_of}
use Rattle.kc_block_units.specs.Scheduler.{Scheduler, shown_units, IsFurther, IsScheduled}
use Rattle.kc_block_units.specs.Laws.{IsUpTo}
use Rattle.kc_block_units.proofs.Spans.{quiet_span, goes_on}
use Rattle.kc_block_units.specs.Next.{IsDueOrLast}

-- edges and touches of two spans
module _ {X : Type 0} (f : Further X) where
  edges-add : (from m n : ℕ) (u : Units X) → edges_of f from (m + n) u ≡ edges_of f from m u ++ edges_of f (from + m) n (after (block_rule f) from m u)
  unfolding edges_of
  edges-add from m zero u = rw add-zero (sym (append_nil (edges_of f from m u)))
    where
      append_nil : {T : Type 0} (xs : List T) → xs ++ [] ≡ xs
      append_nil [] = refl
      append_nil (x ∷ xs) = ap (λ ys. x ∷ ys) (append_nil xs)
  edges-add from m (suc n) u =
      rw (add-suc m n)
      (ap (λ es. es ++ in_state (from + (m + n)) (tick f (from + (m + n)) (after (block_rule f) from (m + n) u)).edges) (edges-add from m n u)
      ∙ ap (λ v. (edges_of f from m u ++ edges_of f (from + m) n (after (block_rule f) from m u)) ++ in_state (from + (m + n)) (tick f (from + (m + n)) v).edges) (after-add (block_rule f) from m n u)
      ∙ ap (λ t. (edges_of f from m u ++ edges_of f (from + m) n (after (block_rule f) from m u)) ++ in_state t (tick f t (after (block_rule f) (from + m) n (after (block_rule f) from m u))).edges) (sym (add_assoc from m n))
      ∙ append_assoc (edges_of f from m u) (edges_of f (from + m) n (after (block_rule f) from m u)) _)

  touch-add : (from m n : ℕ) (u : Units X) → touch f from (m + n) u ≡ touch f from m u + touch f (from + m) n (after (block_rule f) from m u)
  unfolding touch
  touch-add from m zero u = rw (add-zero m, add-zero (touch f from m u)) refl
  touch-add from m (suc n) u =
      rw (add-suc m n)
      (ap (λ k. k + touched f (from + (m + n)) (after (block_rule f) from (m + n) u)) (touch-add from m n u)
      ∙ ap (λ v. (touch f from m u + touch f (from + m) n (after (block_rule f) from m u)) + touched f (from + (m + n)) v) (after-add (block_rule f) from m n u)
      ∙ ap (λ t. (touch f from m u + touch f (from + m) n (after (block_rule f) from m u)) + touched f t (after (block_rule f) (from + m) n (after (block_rule f) from m u))) (sym (add_assoc from m n))
      ∙ add_assoc (touch f from m u) (touch f (from + m) n (after (block_rule f) from m u)) _)

  pub edges-over : (from mid to : ℕ) (u : Units X) → from ≤ mid → mid ≤ to →
      edges_of f from (to - from) u ≡ edges_of f from (mid - from) u ++ edges_of f mid (to - mid) (after (block_rule f) from (mid - from) u)
  edges-over from mid to u le le' =
      let parts : to - from ≡ (mid - from) + (to - mid) = omega arith in
      let at : from + (mid - from) ≡ mid = omega arith in
      ap (λ n. edges_of f from n u) parts ∙ edges-add from (mid - from) (to - mid) u
      ∙ ap (λ t. edges_of f from (mid - from) u ++ edges_of f t (to - mid) (after (block_rule f) from (mid - from) u)) at

  pub touch-over : (from mid to : ℕ) (u : Units X) → from ≤ mid → mid ≤ to →
      touch f from (to - from) u ≡ touch f from (mid - from) u + touch f mid (to - mid) (after (block_rule f) from (mid - from) u)
  touch-over from mid to u le le' =
      let parts : to - from ≡ (mid - from) + (to - mid) = omega arith in
      let at : from + (mid - from) ≡ mid = omega arith in
      ap (λ n. touch f from n u) parts ∙ touch-add from (mid - from) (to - mid) u
      ∙ ap (λ t. touch f from (mid - from) u + touch f t (to - mid) (after (block_rule f) from (mid - from) u)) at

  edges-one : (t : ℕ) (u : Units X) → edges_of f t (t + 1 - t) u ≡ in_state t (tick f t u).edges
  unfolding edges_of
  edges-one t u =
      let one : t + 1 - t ≡ 1 = omega arith in
      ap (λ n. edges_of f t n u) one
      ∙ ap (λ s. in_state s (tick f s (after (block_rule f) t 0 u)).edges) (add-zero t)
      ∙ ap (λ v. in_state t (tick f t v).edges) (after-zero (block_rule f) t u)

  touch-one : (t : ℕ) (u : Units X) → touch f t (t + 1 - t) u ≡ touched f t u
  unfolding touch
  touch-one t u =
      let one : t + 1 - t ≡ 1 = omega arith in
      ap (λ n. touch f t n u) one
      ∙ zero-add (touched f (t + 0) (after (block_rule f) t 0 u))
      ∙ ap (λ s. touched f s (after (block_rule f) t 0 u)) (add-zero t)
      ∙ ap (λ v. touched f t v) (after-zero (block_rule f) t u)

-- a span of no state
pub edges-none : {X : Type 0} (f : Further X) (from : ℕ) (u : Units X) → edges_of f from (from - from) u ≡ []
unfolding edges_of
edges-none f from u = let none : from - from ≡ 0 = omega arith in ap (λ n. edges_of f from n u) none

-- a due state, or the last number, is not before a state of 64 bits
pub due_not_before : {D : Type 0} (rule : Rule D) (now : ℕ) (d : D) (at : ℕ) → IsDueOrLast rule now d at → now < 2 ^ 64 → now ≤ at
due_not_before rule now d at (inl due) fits = due.later
due_not_before rule now d at (inr last) fits = let same : at ≡ 2 ^ 64 - 1 = last.0 in omega arith

module _ {X : Type 0} (f : Further X) (agrees : ℕ → ℕ → X → Type 0) (keeps : IsFurther f agrees) (h : Scheduler X) (now to : ℕ) (is : IsScheduled f agrees h now) (le : now ≤ to) (up_to : IsUpTo h to) where
  there : now + (to - now) ≡ to
  there = omega arith

  up_to_there : IsUpTo h (now + (to - now))
  up_to_there slot u lt e = let later : to ≤ u = up_to slot u lt e in omega arith

  -- over states before each slot
  pub still_scheduled : IsScheduled f agrees h to
  still_scheduled = goes_on f agrees keeps h now to is le up_to

  pub still_units : shown_units f h to ≡ after (block_rule f) now (to - now) (shown_units f h now)
  still_units = sym ((quiet_span f agrees keeps h now (to - now) is up_to_there).units ∙ ap (shown_units f h) there)

  pub no_edges : edges_of f now (to - now) (shown_units f h now) ≡ []
  no_edges = (quiet_span f agrees keeps h now (to - now) is up_to_there).edges

  none_touched : touch f now (to - now) (shown_units f h now) ≡ 0
  none_touched = (quiet_span f agrees keeps h now (to - now) is up_to_there).touch

  -- and past the Tick of the state that is reached
  pub units_past : (tick f to (shown_units f h to)).units ≡ after (block_rule f) now (to + 1 - now) (shown_units f h now)
  units_past = ap (λ u. (tick f to u).units) still_units ∙ sym (after-until (block_rule f) now to (shown_units f h now) le)

  pub edges_past : in_state to (tick f to (shown_units f h to)).edges ≡ edges_of f now (to + 1 - now) (shown_units f h now)
  edges_past =
      sym (edges-over f now to (to + 1) (shown_units f h now) le (omega arith)
      ∙ ap (λ es. es ++ edges_of f to (to + 1 - to) (after (block_rule f) now (to - now) (shown_units f h now))) no_edges
      ∙ ap (λ u. edges_of f to (to + 1 - to) u) (sym still_units)
      ∙ edges-one f to (shown_units f h to))

  pub touch_past : touched f to (shown_units f h to) ≡ touch f now (to + 1 - now) (shown_units f h now)
  touch_past =
      sym (touch-over f now to (to + 1) (shown_units f h now) le (omega arith)
      ∙ ap (λ n. n + touch f to (to + 1 - to) (after (block_rule f) now (to - now) (shown_units f h now))) none_touched
      ∙ zero-add (touch f to (to + 1 - to) (after (block_rule f) now (to - now) (shown_units f h now)))
      ∙ ap (λ u. touch f to (to + 1 - to) u) (sym still_units)
      ∙ touch-one f to (shown_units f h to))
