-- Proofs of the laws of deferred units, and two laws of due states.
use Rattle.std.proofs.Common.{not, ◌≡◌, ℕ, ◌+◌, ◌-◌, ◌<◌, ◌≤◌, ◌==◌, true, false, Option, Some, None, refl, sym, ◌∙◌, ap, subst, arith, inl, inr}
use Rattle.std.proofs.lemmas.Bool.{false≢true, cases_eq, eq-eqb, ne_eqb, not_from_false, not_from_true}
use Rattle.kc_span.specs.Span.{Rule, after, QuietFor, IsDue}
use Rattle.kc_span.proofs.SpanLaws.{after-until, after-over, after-none, after-same, quiet_before, quiet_until, active_at}
use Rattle.kc_span.specs.DeferredUnit.{is_due_in, AreAlike}
use Rattle.kc_span.specs.Laws.{Next, Calm, Event, Waits, Lent, CaughtUp, CaughtUpShows, Asked, AskedShows, Alike, AlikeShows, PassesOver}

-- a quiet span less a first part of it
quiet_rest : {D : Type 0} (rule : Rule D) (from mid to : ℕ) (d : D) → from ≤ mid → QuietFor rule from (to - from) d →
    QuietFor rule mid (to - mid) (after rule from (mid - from) d)
quiet_rest rule from mid to d le quiet k lt =
    let past : from ≤ mid + k = omega arith in
    let within : mid + k - from < to - from = omega arith in
    let at : from + (mid + k - from) ≡ mid + k = omega arith in
    let length_of : mid + k - mid ≡ k = omega arith in
    let over : after rule from (mid + k - from) d ≡ after rule mid (mid + k - mid) (after rule from (mid - from) d) =
    after-over rule from mid (mid + k) d le (omega arith) in
    let whole : rule.quiet (mid + k) (after rule from (mid + k - from) d) ≡ true =
    subst (λ s. rule.quiet s (after rule from (mid + k - from) d) ≡ true) at (quiet (mid + k - from) within) in
    subst (λ n. rule.quiet (mid + k) (after rule mid n (after rule from (mid - from) d)) ≡ true) length_of
    (subst (λ e. rule.quiet (mid + k) e ≡ true) over whole)

-- a due state stays due after a part of the span before it
pub due_after : {D : Type 0} (rule : Rule D) (from mid : ℕ) (d : D) (slot : Option ℕ) → from ≤ mid → IsDue rule from d slot →
    ((u : ℕ) → slot ≡ Some u → mid ≤ u) → IsDue rule mid (after rule from (mid - from) d) slot
due_after rule from mid d None le never later = λ n.
    let length_of : mid + n - mid ≡ n = omega arith in
    subst (λ m. QuietFor rule mid m (after rule from (mid - from) d)) length_of
    (quiet_rest rule from mid (mid + n) d le (never (mid + n - from)))
due_after rule from mid d (Some u) le due later =
    let ahead : mid ≤ u = later u refl in
    record {
      later = ahead;
      before = quiet_rest rule from mid u d le due.before;
      active = subst (λ e. rule.quiet u e ≡ false) (after-over rule from mid u d le ahead) due.active;
    }

-- spans by rules that do the same from their first state on
pub after_alike : {D : Type 0} (a b : Rule D) (from n : ℕ) (d : D) → AreAlike a b from → after a from n d ≡ after b from n d
after_alike a b from n d same = after-same a b from n d (λ k lt e. same.step (from + k) e (omega arith))

quiet_alike : {D : Type 0} (a b : Rule D) (from n : ℕ) (d : D) → AreAlike a b from → QuietFor a from n d → QuietFor b from n d
quiet_alike a b from n d same quiet k lt =
    subst (λ e. b.quiet (from + k) e ≡ true) (after_alike a b from k d same)
    (sym (same.quiet (from + k) _ (omega arith)) ∙ quiet k lt)

-- and the same due state
pub due_alike : {D : Type 0} (a b : Rule D) (from : ℕ) (d : D) (slot : Option ℕ) → AreAlike a b from → IsDue a from d slot → IsDue b from d slot
due_alike a b from d None same never = λ n. quiet_alike a b from n d same (never n)
due_alike a b from d (Some u) same due =
    record {
      later = due.later;
      before = quiet_alike a b from (u - from) d same due.before;
      active = subst (λ e. b.quiet u e ≡ false) (after_alike a b from (u - from) d same) (sym (same.quiet u _ due.later) ∙ due.active);
    }

pub next : {D : Type 0} → Next D
next rule deferred t le = after-until rule deferred.at t deferred.kept le

pub calm : {D : Type 0} → Calm D
calm rule deferred now t slot is le sooner =
    let first : deferred.at ≤ now = is.first in
    quiet_before rule deferred.at deferred.kept slot t is.due (omega arith) sooner

pub event : {D : Type 0} → Event D
event rule deferred now None is = quiet_before rule deferred.at deferred.kept None now is.due is.first (λ u e. absurd (cc))
event rule deferred now (Some u) is = elim (cases_eq u now) [
  | inl same ↦ rw same (active_at rule deferred.at deferred.kept (Some u) now is.due (ap Some same) ∙ sym (not_from_true _ (eq-eqb now now refl)))
  | inr other ↦
      let le : now ≤ u = is.later u refl in
      let test : (u == now) ≡ false = ne_eqb u now other in
      quiet_before rule deferred.at deferred.kept (Some u) now is.due is.first (λ v e. let same : u ≡ v = cc in omega (arith, other)) ∙ sym (not_from_false _ test)
]

pub waits : {D : Type 0} → Waits D
waits rule deferred now to slot is le sooner =
    let first : deferred.at ≤ now = is.first in
    record { first = omega arith; due = is.due; later = sooner }

pub lent : {D : Type 0} → Lent D
lent rule deferred now slot is = quiet_until rule deferred.at deferred.kept slot now is.due is.later

pub caught_up : {D : Type 0} → CaughtUp D
caught_up rule deferred now slot is = record {
  first = omega arith;
  due = due_after rule deferred.at now deferred.kept slot is.first is.due is.later;
  later = is.later;
}

pub caught_up_shows : {D : Type 0} → CaughtUpShows D
caught_up_shows rule deferred now t le le' = sym (after-over rule deferred.at now t deferred.kept le le')

pub asked : {D : Type 0} → Asked D
asked rule now d None due = record { first = omega arith; due = due; later = λ u e. absurd (cc) }
asked rule now d (Some v) due = record {
  first = omega arith;
  due = due;
  later = λ u e. let same : v ≡ u = cc in subst (λ w. now ≤ w) same due.later;
}

pub asked_shows : {D : Type 0} → AskedShows D
asked_shows rule now d = after-none rule now d

pub alike : {D : Type 0} → Alike D
alike a b deferred now slot same is = record { first = is.first; due = due_alike a b deferred.at deferred.kept slot same is.due; later = is.later }

pub alike_shows : {D : Type 0} → AlikeShows D
alike_shows a b deferred t same = after_alike a b deferred.at (t - deferred.at) deferred.kept same

pub passes_over : {D : Type 0} → PassesOver D
passes_over rule deferred now slot is quiet = waits rule deferred now (now + 1) slot is (omega arith) (λ u e.
    let le : now ≤ u = is.later u e in
    elim (cases_eq u now) [
      | inl same ↦
          let here : is_due_in now slot ≡ true = ap (is_due_in now) e ∙ eq-eqb u now same in
          absurd (false≢true (sym (ap not here) ∙ sym (event rule deferred now slot is) ∙ quiet))
      | inr other ↦ omega (arith, other)
    ])
