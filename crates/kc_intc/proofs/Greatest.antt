-- The greatest number that passes a test.
use Rattle.std.proofs.Common.{◌≡◌, ℕ, zero, suc, min, max, sym, ◌+◌, ◌<◌, ◌≤◌, ◌==◌, ◌&&◌, ◌||◌, not, Bool, true, false, Option, Some, None, if◌then◌else◌, MatchOption, ◌⊎◌, inl, inr, refl, ap, ◌∙◌, add-one, arith}
use Rattle.std.proofs.lemmas.Bool.{cases_lt}
use Rattle.std.specs.Prelude.{bit_and, bit_or}
use Rattle.std.specs.Int.{bit_at}
use Rattle.std.proofs.lemmas.Nat.Bits.{bit_at-zero, bit_at_and, bit_at_or, bit_at_above}
use Rattle.kc_base.specs.Bits.{bit}
use Rattle.kc_intc.specs.declared.requests.Requests.{Requests}
use Rattle.kc_intc.specs.declared.requests.Choice.TheVariants.{Transfer, Enter, Go}
use Rattle.kc_intc.specs.Choosing.{greatest, wants_cycle, wants_entry, or_else, choice_of}
use Rattle.kc_intc.specs.Laws.{IsGreatest}

pub greatest_more : (test : ℕ → Bool) (n : ℕ) → greatest test (n + 1) ≡ (if test n then Some n else greatest test n)
unfolding greatest
greatest_more test n = rw (add-one n) refl

fails_below : (test : ℕ → Bool) (n : ℕ) → test n ≡ false → ((k : ℕ) → k < n → test k ≡ false) → (k : ℕ) → k < suc n → test k ≡ false
fails_below test n here below k within = either (cases_lt k n)
  where
    either : (k < n) ⊎ (n ≤ k) → test k ≡ false
    either (inl less) = below k less
    either (inr more) = let same : k ≡ n = omega arith in ap test same ∙ here

highest_still : (test : ℕ → Bool) (n m : ℕ) → test n ≡ false → ((k : ℕ) → m < k → k < n → test k ≡ false) → (k : ℕ) → m < k → k < suc n → test k ≡ false
highest_still test n m here above k more within = either (cases_lt k n)
  where
    either : (k < n) ⊎ (n ≤ k) → test k ≡ false
    either (inl less) = above k more less
    either (inr far) = let same : k ≡ n = omega arith in ap test same ∙ here

one_more : (test : ℕ → Bool) (n : ℕ) (found : Option ℕ) → test n ≡ false → MatchOption found ((k : ℕ) → k < n → test k ≡ false) (IsGreatest test n) → MatchOption found ((k : ℕ) → k < suc n → test k ≡ false) (IsGreatest test (suc n))
one_more test n None here below = fails_below test n here below
one_more test n (Some m) here is = record { below = omega (arith, is.below); passes = is.passes; highest = highest_still test n m here is.highest }

pub greatest_is : (test : ℕ → Bool) (limit : ℕ) → MatchOption (greatest test limit) ((k : ℕ) → k < limit → test k ≡ false) (IsGreatest test limit)
unfolding greatest
greatest_is test zero = λ k within. absurd (omega arith)
greatest_is test (suc n) = by_test (test n) refl (greatest_is test n)
  where
    by_test : (b : Bool) → test n ≡ b → MatchOption (greatest test n) ((k : ℕ) → k < n → test k ≡ false) (IsGreatest test n) → MatchOption (if b then Some n else greatest test n) ((k : ℕ) → k < suc n → test k ≡ false) (IsGreatest test (suc n))
    by_test true e rest = record { below = omega arith; passes = e; highest = λ k more within. absurd (omega arith) }
    by_test false e rest = one_more test n (greatest test n) e rest

greatest_none : (test : ℕ → Bool) (n : ℕ) → ((k : ℕ) → test k ≡ false) → greatest test n ≡ None
unfolding greatest
greatest_none test zero fails = refl
greatest_none test (suc n) fails = rw (fails n) (greatest_none test n fails)

bit-zero : (set k : ℕ) → set ≡ 0 → bit set k ≡ false
bit-zero set k e = ap (λ s. bit s k) e ∙ ap (λ n. n == 1) (bit_at-zero k)

pub none_of_zero : (set : ℕ) → set ≡ 0 → greatest (bit set) 15 ≡ None
none_of_zero set e = greatest_none (bit set) 15 (λ k. bit-zero set k e)

-- where all from a number on fail, the greatest is below it
all_below : (test : ℕ → Bool) (low n : ℕ) → ((k : ℕ) → low ≤ k → test k ≡ false) → low ≤ n → greatest test n ≡ greatest test low
unfolding greatest
all_below test low zero fails within = let e : 0 ≡ low = omega (arith, within) in ap (greatest test) e
all_below test low (suc n) fails within = elim (cases_lt n low) [
  | inl less ↦ let e : suc n ≡ low = omega (arith, less, within) in ap (greatest test) e
  | inr more ↦ rw (fails n more) (all_below test low n fails more)
]

pub of_low_byte : (set : ℕ) → set < 256 → greatest (bit set) 15 ≡ greatest (bit set) 8
of_low_byte set low = all_below (bit set) 8 15 (λ k more. ap (λ v. v == 1) (bit_at_above set 8 k low more)) (omega arith)

both : (b : Bool) → (b && false) ≡ false
both true = refl
both false = refl

neither : (a b : Bool) → or_else Transfer (if a then None else None) (or_else Enter (if b then None else None) Go) ≡ Go
neither true true = refl
neither true false = refl
neither false true = refl
neither false false = refl

no_bit : (v : ℕ) → v ≡ 0 → (v == 1) ≡ false
no_bit v e = ap (λ n. n == 1) e

either_none : (p s m t : ℕ) → min (max p s) (max m t) ≡ 0 → ((p ≡ 0) × (s ≡ 0)) ⊎ (m ≡ 0)
either_none p s m t e = elim (cases_lt 0 m) [ inl some ↦ inl (omega arith, omega arith) | inr none ↦ inr (omega arith) ]

-- a bit of the requests, and of those that are masked in or among others
masked_bits : (r : Requests) (t k : ℕ) → bit_and (bit_or r.pending r.service) (bit_or r.mask t) ≡ 0 →
    min (max (bit_at r.pending k) (bit_at r.service k)) (max (bit_at r.mask k) (bit_at t k)) ≡ 0
masked_bits r t k e =
    let all : bit_at (bit_and (bit_or r.pending r.service) (bit_or r.mask t)) k ≡ 0 = ap (λ v. bit_at v k) e ∙ bit_at-zero k in
    let parts = bit_at_and (bit_or r.pending r.service) (bit_or r.mask t) k
    ∙ ap (λ v. min v (bit_at (bit_or r.mask t) k)) (bit_at_or r.pending r.service k)
    ∙ ap (λ v. min (max (bit_at r.pending k) (bit_at r.service k)) v) (bit_at_or r.mask t k) in
    sym parts ∙ all

cycle_fails : (r : Requests) (t k : ℕ) → bit_and (bit_or r.pending r.service) (bit_or r.mask t) ≡ 0 → wants_cycle r k ≡ false
cycle_fails r t k e = by (either_none (bit_at r.pending k) (bit_at r.service k) (bit_at r.mask k) (bit_at t k) (masked_bits r t k e))
  where
    by : ((bit_at r.pending k ≡ 0) × (bit_at r.service k ≡ 0)) ⊎ (bit_at r.mask k ≡ 0) → wants_cycle r k ≡ false
    by (inl none) = ap (λ b. b && (bit r.mask k && bit r.select k)) (no_bit (bit_at r.pending k) none.0)
    by (inr none) = ap (λ b. bit r.pending k && (b && bit r.select k)) (no_bit (bit_at r.mask k) none) ∙ both (bit r.pending k)

entry_fails : (r : Requests) (t k : ℕ) → bit_and (bit_or r.pending r.service) (bit_or r.mask t) ≡ 0 → wants_entry r k ≡ false
entry_fails r t k e = by (either_none (bit_at r.pending k) (bit_at r.service k) (bit_at r.mask k) (bit_at t k) (masked_bits r t k e))
  where
    by : ((bit_at r.pending k ≡ 0) × (bit_at r.service k ≡ 0)) ⊎ (bit_at r.mask k ≡ 0) → wants_entry r k ≡ false
    by (inl none) = ap (λ b. bit r.mask k && (b || (bit r.pending k && not (bit r.select k)))) (no_bit (bit_at r.service k) none.1)
        ∙ ap (λ b. bit r.mask k && (b && not (bit r.select k))) (no_bit (bit_at r.pending k) none.0)
        ∙ both (bit r.mask k)
    by (inr none) = ap (λ b. b && (bit r.service k || (bit r.pending k && not (bit r.select k)))) (no_bit (bit_at r.mask k) none)

-- none of the requests is masked in, and none is NMI
pub nothing_masked_in : (pse enabled : Bool) (r : Requests) → bit_and (bit_or r.pending r.service) (bit_or r.mask 0x8000) ≡ 0 → choice_of pse enabled r ≡ Go
nothing_masked_in pse enabled r e =
    let cycles : greatest (wants_cycle r) 15 ≡ None = greatest_none (wants_cycle r) 15 (λ k. cycle_fails r 0x8000 k e) in
    let entries : greatest (wants_entry r) 15 ≡ None = greatest_none (wants_entry r) 15 (λ k. entry_fails r 0x8000 k e) in
    let top : bit_at 0x8000 15 ≡ 1 = refl in
    let none : min (max (bit_at r.pending 15) (bit_at r.service 15)) (max (bit_at r.mask 15) (bit_at 0x8000 15)) ≡ 0 = masked_bits r 0x8000 15 e in
    let nmi : bit r.pending 15 ≡ false = no_bit (bit_at r.pending 15) (omega arith) in
    rw (nmi, cycles, entries) (neither pse enabled)
