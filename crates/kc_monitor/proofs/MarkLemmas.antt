-- What is kept of the positions of a mark reports which have it.
use Rattle.std.proofs.Common.{◌≡◌, ℕ, zero, suc, ◌+◌, ◌%◌, ◌^◌, ◌<◌, Bool, true, false, ◌&&◌, eqb, List, [], ◌∷◌, length, Option, Some, None, refl, sym, ap, ◌∙◌, inl, inr, arith}
use Rattle.std.specs.Prelude.{filter, if◌then◌else◌, ◌==◌, nat_lt}
use Rattle.std.specs.Option.{option_map}
use Rattle.std.proofs.Math.Nat.{suc-mod, mod-lt, mod_self, mod-eq_of_lt}
use Rattle.std.proofs.lemmas.Bool.{cases_Bool, cases_eq, eq-eqb, ne_eqb, lt-ltb}
use Rattle.kc_rules.specs.declared.amount.Factor.{Factor}
use Rattle.kc_monitor.specs.declared.marks.Marking.{Marking}
use Rattle.kc_monitor_forms.specs.Tallies.{one_more}
use Rattle.kc_monitor.specs.Marked.{Hit, event_states, is_far, is_farther, quiet_for, quiet_share, every, since, is_number, counted_from}
use Rattle.kc_monitor.specs.Marking.{far_by, gap_from, farther_by, or_zero, up_to_number, begun_by, counted_by, with_gap, with_count, latest, latest_gap, stands}

-- ---- distances

far_latest : (least at : ℕ) (ts : List ℕ) → far_by least at (latest ts) ≡ is_far least at ts
far_latest least at [] = refl
far_latest least at (t ∷ ts) = refl

farther_latest : (share : Factor) (at : ℕ) (ts : List ℕ) → farther_by share (gap_from at (latest ts)) (latest_gap ts) ≡ is_farther share at ts
farther_latest share at [] = refl
farther_latest share at (t ∷ []) = refl
farther_latest share at (t ∷ u ∷ ts) = refl

gap_latest : (at : ℕ) (ts : List ℕ) → gap_from at (latest ts) ≡ latest_gap (at ∷ ts)
gap_latest at [] = refl
gap_latest at (t ∷ ts) = refl

pub gap_reported : (least : ℕ) (h : Hit) (earlier : List Hit) (m : Marking) → m.last ≡ latest (event_states earlier) →
    (h.event && far_by least h.at m.last) ≡ quiet_for least h earlier
gap_reported least h earlier m kept = ap (λ o. h.event && far_by least h.at o) kept ∙ ap (λ b. h.event && b) (far_latest least h.at (event_states earlier))

pub gap_kept : (h : Hit) (earlier : List Hit) (m after : Marking) → m.last ≡ latest (event_states earlier) →
    after ≡ (if h.event then record m { last = Some h.at } else m) → after.last ≡ latest (event_states (h ∷ earlier))
gap_kept h earlier m after kept is = ap (λ a. a.last) is ∙ here h earlier m kept
  where
    here : (h : Hit) (earlier : List Hit) (m : Marking) → m.last ≡ latest (event_states earlier) →
        (if h.event then record m { last = Some h.at } else m).last ≡ latest (event_states (h ∷ earlier))
    here h earlier m kept = elim (cases_Bool h.event) [
      | inl does ↦ rw does refl
      | inr lacks ↦ rw lacks kept
    ]

pub share_reported : (share : Factor) (h : Hit) (earlier : List Hit) (m : Marking) → m.last ≡ latest (event_states earlier) →
    m.gap ≡ latest_gap (event_states earlier) → (h.event && farther_by share (gap_from h.at m.last) m.gap) ≡ quiet_share share h earlier
share_reported share h earlier m last gap =
    ap (λ o. h.event && farther_by share (gap_from h.at o) m.gap) last
    ∙ ap (λ o. h.event && farther_by share (gap_from h.at (latest (event_states earlier))) o) gap
    ∙ ap (λ b. h.event && b) (farther_latest share h.at (event_states earlier))

pub share_kept : (h : Hit) (earlier : List Hit) (m after : Marking) → m.last ≡ latest (event_states earlier) →
    m.gap ≡ latest_gap (event_states earlier) → after ≡ (if h.event then with_gap h.at m else m) →
    (after.last ≡ latest (event_states (h ∷ earlier))) × (after.gap ≡ latest_gap (event_states (h ∷ earlier)))
share_kept h earlier m after last gap is = (ap (λ a. a.last) is ∙ last_here h earlier m last, ap (λ a. a.gap) is ∙ gap_here h earlier m last gap)
  where
    last_here : (h : Hit) (earlier : List Hit) (m : Marking) → m.last ≡ latest (event_states earlier) →
        (if h.event then with_gap h.at m else m).last ≡ latest (event_states (h ∷ earlier))
    last_here h earlier m last = elim (cases_Bool h.event) [
      | inl does ↦ rw does refl
      | inr lacks ↦ rw lacks last
    ]

    gap_here : (h : Hit) (earlier : List Hit) (m : Marking) → m.last ≡ latest (event_states earlier) → m.gap ≡ latest_gap (event_states earlier) →
        (if h.event then with_gap h.at m else m).gap ≡ latest_gap (event_states (h ∷ earlier))
    gap_here h earlier m last gap = elim (cases_Bool h.event) [
      | inl does ↦ rw does (ap (λ o. gap_from h.at o) last ∙ gap_latest h.at (event_states earlier))
      | inr lacks ↦ rw lacks gap
    ]

-- ---- numbers

abbrev events_of : List Hit → List Hit
events_of hits = filter (λ g. g.event) hits

-- the remainder of the next number
mod_next : (n k : ℕ) → 0 < k → suc n % k ≡ up_to_number k (suc (n % k))
mod_next n k some = suc-mod n k ∙ elim (cases_eq (suc (n % k)) k) [
  | inl same ↦ ap (λ m. m % k) same ∙ mod_self k ∙ sym (rw (eq-eqb (suc (n % k)) k same) refl)
  | inr other ↦
      let below : n % k < k = mod-lt n some in
      let less : suc (n % k) < k = omega arith in
      mod-eq_of_lt less ∙ sym (rw (ne_eqb (suc (n % k)) k other) refl)
]

-- it is none where the number is reached
mod_none : (n k : ℕ) → 0 < k → eqb (suc n % k) 0 ≡ eqb (suc (n % k)) k
mod_none n k some = ap (λ m. eqb m 0) (mod_next n k some) ∙ elim (cases_eq (suc (n % k)) k) [
  | inl same ↦ rw (eq-eqb (suc (n % k)) k same) refl
  | inr other ↦ rw (ne_eqb (suc (n % k)) k other) (ne_eqb (suc (n % k)) 0 (λ e. omega arith))
]

one_more_small : (n k : ℕ) → n < k → k < 2 ^ 32 → one_more n ≡ suc n
one_more_small n k less small = omega arith

every_now : (k count n : ℕ) → k < 2 ^ 32 → (0 < k → count ≡ n % k) → (one_more count == k) ≡ (nat_lt 0 k && (suc n % k == 0))
every_now zero count n small kept = ne_eqb (one_more count) 0 (λ e. absurd (omega arith))
every_now (suc k) count n small kept =
    let here : count ≡ n % suc k = kept (omega arith) in
    let below : n % suc k < suc k = mod-lt n (omega arith) in
    let less : count < suc k = omega arith in
    ap (λ m. eqb m (suc k)) (one_more_small count (suc k) less small ∙ ap suc here) ∙ sym (mod_none n (suc k) (omega arith))
    ∙ ap (λ b. b && eqb (suc n % suc k) 0) (sym (lt-ltb 0 (suc k) (omega arith)))

pub every_reported : (k : ℕ) (h : Hit) (earlier : List Hit) (m : Marking) → k < 2 ^ 32 → (0 < k → or_zero m.count ≡ length (filter (λ g. g.event) earlier) % k) →
    (h.event && (one_more (or_zero m.count) == k)) ≡ every k h earlier
every_reported k h earlier m small kept = elim (cases_Bool h.event) [
  | inl does ↦ rw does (every_now k (or_zero m.count) (length (events_of earlier)) small kept)
  | inr lacks ↦ rw lacks refl
]

pub every_kept : (k : ℕ) (h : Hit) (earlier : List Hit) (m after : Marking) → k < 2 ^ 32 → (0 < k → or_zero m.count ≡ length (filter (λ g. g.event) earlier) % k) →
    after ≡ (if h.event then with_count k m else m) → 0 < k → or_zero after.count ≡ length (filter (λ g. g.event) (h ∷ earlier)) % k
every_kept k h earlier m after small kept is some = ap (λ a. or_zero a.count) is ∙ here k h earlier m small (kept some) some
  where
    here : (k : ℕ) (h : Hit) (earlier : List Hit) (m : Marking) → k < 2 ^ 32 → or_zero m.count ≡ length (filter (λ g. g.event) earlier) % k → 0 < k →
        or_zero (if h.event then with_count k m else m).count ≡ length (filter (λ g. g.event) (h ∷ earlier)) % k
    here k h earlier m small kept some = elim (cases_Bool h.event) [
      | inl does ↦
          let below : length (events_of earlier) % k < k = mod-lt (length (events_of earlier)) some in
          let less : or_zero m.count < k = omega arith in
          rw does (ap (up_to_number k) (one_more_small (or_zero m.count) k less small ∙ ap suc kept) ∙ sym (mod_next (length (events_of earlier)) k some))
      | inr lacks ↦ rw lacks kept
    ]

-- ---- numbers from the last beginning on

pub from_kept : (h : Hit) (earlier : List Hit) (count : Option ℕ) → count ≡ option_map stands (since earlier) →
    counted_by h.event (begun_by h.from count) ≡ option_map stands (since (h ∷ earlier))
unfolding since
from_kept h earlier count kept = ap (λ o. counted_by h.event (begun_by h.from o)) kept ∙ elim (cases_Bool h.from) [
  | inl does ↦ rw does (at_begin h.event)
  | inr lacks ↦ rw lacks (going h.event (since earlier))
]
  where
    at_begin : (event : Bool) → counted_by event (Some 0) ≡ option_map stands (Some (if event then 1 else 0))
    at_begin true = refl
    at_begin false = refl

    one_stands : (n : ℕ) → one_more (stands n) ≡ stands (n + 1)
    one_stands n = omega arith

    going : (event : Bool) (o : Option ℕ) → counted_by event (option_map stands o) ≡ option_map stands (option_map (λ n. if event then n + 1 else n) o)
    going true None = refl
    going true (Some n) = ap (λ m. Some m) (one_stands n)
    going false None = refl
    going false (Some n) = refl

number_stands : (k : ℕ) (o : Option ℕ) → k < 2 ^ 32 → is_number k (option_map stands o) ≡ is_number k o
number_stands k None small = refl
number_stands k (Some n) small = elim (cases_eq n k) [
  | inl same ↦ eq-eqb (stands n) k (omega arith) ∙ sym (eq-eqb n k same)
  | inr other ↦ ne_eqb (stands n) k (λ e. other (omega arith)) ∙ sym (ne_eqb n k other)
]

pub from_reported : (k : ℕ) (h : Hit) (earlier : List Hit) (count : Option ℕ) → k < 2 ^ 32 → count ≡ option_map stands (since earlier) →
    (h.event && is_number k (counted_by h.event (begun_by h.from count))) ≡ counted_from k h earlier
from_reported k h earlier count small kept =
    ap (λ o. h.event && is_number k o) (from_kept h earlier count kept) ∙ ap (λ b. h.event && b) (number_stands k (since (h ∷ earlier)) small)
