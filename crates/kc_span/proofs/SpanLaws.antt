-- Laws of spans that every unit and the block use.
use Rattle.std.proofs.Common.{◌≡◌, ℕ, zero, suc, ◌+◌, ◌-◌, ◌<◌, ◌≤◌, refl, ◌∙◌, arith, add-zero, add-suc, add_assoc}
use Rattle.std.proofs.Common.{subst, Option, Some, None, true, false, inl, inr, min}
use Rattle.std.proofs.lemmas.Bool.{cases_lt}
use Rattle.kc_span.specs.Span.{Rule, after, QuietFor, IsDue, least_of}

pub after-zero : {D : Type 0} (rule : Rule D) (from : ℕ) (d : D) → after rule from 0 d ≡ d
unfolding after
after-zero rule from d = refl

pub after-suc : {D : Type 0} (rule : Rule D) (from n : ℕ) (d : D) → after rule from (suc n) d ≡ rule.step (from + n) (after rule from n d)
unfolding after
after-suc rule from n d = refl

-- a span in two parts
pub after-add : {D : Type 0} (rule : Rule D) (from m n : ℕ) (d : D) → after rule from (m + n) d ≡ after rule (from + m) n (after rule from m d)
after-add rule from m zero d = rw (add-zero, after-zero) refl
after-add rule from m (suc n) d = rw (add-suc, after-suc, after-suc, after-add rule from m n d, add_assoc) refl

-- two rules that do the same in each state of a span
pub after-same : {D : Type 0} (a b : Rule D) (from n : ℕ) (d : D) → ((k : ℕ) → k < n → (e : D) → a.step (from + k) e ≡ b.step (from + k) e) →
    after a from n d ≡ after b from n d
after-same a b from zero d same = rw (after-zero, after-zero) refl
after-same a b from (suc n) d same =
    rw (after-suc, after-suc, after-same a b from n d (λ k lt. same k (omega arith))) (same n (omega arith) _)

-- one state more, by the state
pub after-until : {D : Type 0} (rule : Rule D) (from t : ℕ) (d : D) → from ≤ t → after rule from (t + 1 - from) d ≡ rule.step t (after rule from (t - from) d)
after-until rule from t d le =
    let one : t + 1 - from ≡ suc (t - from) = omega arith in
    let at : from + (t - from) ≡ t = omega arith in
    rw (one, after-suc, at) refl

-- what a due state says of the states before it
pub quiet_before : {D : Type 0} (rule : Rule D) (from : ℕ) (d : D) (due : Option ℕ) (t : ℕ) → IsDue rule from d due → from ≤ t →
    ((u : ℕ) → due ≡ Some u → t < u) → rule.quiet t (after rule from (t - from) d) ≡ true
quiet_before rule from d None t never le sooner =
    let at : from + (t - from) ≡ t = omega arith in
    subst (λ s. rule.quiet s (after rule from (t - from) d) ≡ true) at (never (t - from + 1) (t - from) (omega arith))
quiet_before rule from d (Some u) t due le sooner =
    let at : from + (t - from) ≡ t = omega arith in
    let lt : t < u = sooner u refl in
    let later : from ≤ u = due.later in
    subst (λ s. rule.quiet s (after rule from (t - from) d) ≡ true) at (due.before (t - from) (omega arith))

-- a span that does not go past the due state is quiet
pub quiet_until : {D : Type 0} (rule : Rule D) (from : ℕ) (d : D) (due : Option ℕ) (t : ℕ) → IsDue rule from d due →
    ((u : ℕ) → due ≡ Some u → t ≤ u) → QuietFor rule from (t - from) d
quiet_until rule from d None t never sooner = never (t - from)
quiet_until rule from d (Some u) t due sooner = λ k lt. let le : t ≤ u = sooner u refl in due.before k (omega arith)

-- the due state itself is not quiet
pub active_at : {D : Type 0} (rule : Rule D) (from : ℕ) (d : D) (due : Option ℕ) (t : ℕ) → IsDue rule from d due → due ≡ Some t →
    rule.quiet t (after rule from (t - from) d) ≡ false
active_at rule from d None t never e = cc
active_at rule from d (Some u) t due e =
    let same : u ≡ t = cc in
    subst (λ s. rule.quiet s (after rule from (s - from) d) ≡ false) same due.active

-- what holds of whichever of two states comes first holds of the earlier of both
pub least_holds : (P : Option ℕ → Type 0) (u v : ℕ) → (u < v → P (Some u)) → (v ≤ u → P (Some v)) → P (least_of (Some u) (Some v))
least_holds P u v first second = elim (cases_lt u v) [
  | inl lt ↦ let e : u ≡ min u v = omega arith in subst (λ w. P (Some w)) e (first lt)
  | inr le ↦ let e : v ≡ min u v = omega arith in subst (λ w. P (Some w)) e (second le)
]

-- a span of no state
pub after-none : {D : Type 0} (rule : Rule D) (from : ℕ) (d : D) → after rule from (from - from) d ≡ d
after-none rule from d = let none : from - from ≡ 0 = omega arith in rw (none, after-zero) refl

-- a span in two parts, by states
pub after-over : {D : Type 0} (rule : Rule D) (from mid to : ℕ) (d : D) → from ≤ mid → mid ≤ to →
    after rule from (to - from) d ≡ after rule mid (to - mid) (after rule from (mid - from) d)
after-over rule from mid to d le le' =
    let parts : to - from ≡ (mid - from) + (to - mid) = omega arith in
    let at : from + (mid - from) ≡ mid = omega arith in
    rw (parts, after-add rule from (mid - from) (to - mid) d, at) refl

-- a rule that changes nothing
pub after-still : {D : Type 0} (rule : Rule D) (from n : ℕ) (d : D) → ((t : ℕ) (e : D) → rule.step t e ≡ e) → after rule from n d ≡ d
after-still rule from zero d still = after-zero rule from d
after-still rule from (suc n) d still = after-suc rule from n d ∙ still (from + n) _ ∙ after-still rule from n d still
