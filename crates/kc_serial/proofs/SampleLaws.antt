-- A reception over a span in which RXD keeps its level.
use Rattle.std.proofs.Common.{◌≡◌, ℕ, zero, suc, ◌+◌, ◌-◌, ◌*◌, ◌/◌, ◌%◌, ◌^◌, ◌<◌, ◌≤◌, ◌==◌, Bool, true, false, not, ◌&&◌, refl, sym, ◌∙◌, ap, subst, arith, inl, inr, Option, Some, None, add-suc, add-one}
use Rattle.std.specs.Prelude.{nat_lt, nat_le, if◌then◌else◌}
use Rattle.std.proofs.lemmas.Nat.{le-div, shr_le}
use Rattle.std.proofs.lemmas.Bool.{cases_lt, cases_Bool, and_from, and_parts, not-true, eqb-false, ne_eqb, lt-ltb, le-ltb, le-leb, false_from_ne_true, ltb-true, leb-true, leb-false, false≢true}
use Rattle.std.proofs.Math.Nat.{mod-eq_of_lt, div-eq_of_lt}
use Rattle.kc_serial.specs.Frames.{bit_length}
use Rattle.kc_serial.specs.Samples.{half_bit, is_sample, is_complete, completes, sampled, shifted, reception_after, received_after}
use Rattle.kc_serial.specs.Spans.{bits_by, shifted_by, starts_within, older_reception, ReceptionFits}
use Rattle.kc_serial.specs.declared.receiving.Reception.{Reception}
use Rattle.kc_serial.proofs.Quotients.{quotient_later, taken_next, taken_below}

pub half_some : (rate : ℕ) → 0 < half_bit rate
half_some rate = omega arith

pub two_halves : (rate : ℕ) → bit_length rate ≡ half_bit rate + half_bit rate
two_halves rate = omega arith

-- one sample more, of those that make a byte
shifted_next_low : (n g : ℕ) → n < 8 → g / 2 ^ n / 2 ≡ g / 2 ^ suc n
shifted_next_low zero g lt = omega arith
shifted_next_low (suc zero) g lt = omega arith
shifted_next_low (suc (suc zero)) g lt = omega arith
shifted_next_low (suc (suc (suc zero))) g lt = omega arith
shifted_next_low (suc (suc (suc (suc zero)))) g lt = omega arith
shifted_next_low (suc (suc (suc (suc (suc zero))))) g lt = omega arith
shifted_next_low (suc (suc (suc (suc (suc (suc zero)))))) g lt = omega arith
shifted_next_low (suc (suc (suc (suc (suc (suc (suc zero))))))) g lt = omega arith
shifted_next_low (suc (suc (suc (suc (suc (suc (suc (suc n)))))))) g lt = absurd (omega arith)

-- the ones that come from above
ones_next : (n x : ℕ) → n < 8 → (x + (256 - 256 / 2 ^ n)) / 2 + 128 ≡ x / 2 + (256 - 256 / 2 ^ suc n)
ones_next zero x lt = omega arith
ones_next (suc zero) x lt = omega arith
ones_next (suc (suc zero)) x lt = omega arith
ones_next (suc (suc (suc zero))) x lt = omega arith
ones_next (suc (suc (suc (suc zero)))) x lt = omega arith
ones_next (suc (suc (suc (suc (suc zero))))) x lt = omega arith
ones_next (suc (suc (suc (suc (suc (suc zero)))))) x lt = omega arith
ones_next (suc (suc (suc (suc (suc (suc (suc zero))))))) x lt = omega arith
ones_next (suc (suc (suc (suc (suc (suc (suc (suc n)))))))) x lt = absurd (omega arith)

shifted_next : (high : Bool) (n g : ℕ) → n < 8 → shifted high (shifted_by high n g) ≡ shifted_by high (suc n) g
shifted_next true n g lt = ones_next n (g / 2 ^ n) lt ∙ ap (λ x. x + (256 - 256 / 2 ^ suc n)) (shifted_next_low n g lt)
shifted_next false n g lt = no_ones (g / 2 ^ n) (g / 2 ^ suc n) (shifted_next_low n g lt)
  where
    no_ones : (x y : ℕ) → x / 2 ≡ y → (x + 0) / 2 + 0 ≡ y + 0
    no_ones x y e = omega arith

pub shifted_none : (high : Bool) (g : ℕ) → shifted_by high 0 g ≡ g
shifted_none true g = omega arith
shifted_none false g = omega arith

pub shifted_low : (n g : ℕ) → g < 256 → g / 2 ^ n + 0 < 256
shifted_low n g lt = let le : g / 2 ^ n ≤ g = shr_le g n in omega arith

-- it fits a byte
pub shifted_fits : (n g : ℕ) → n ≤ 8 → g < 256 → g / 2 ^ n + (256 - 256 / 2 ^ n) < 256
shifted_fits zero g le lt = omega arith
shifted_fits (suc zero) g le lt = omega arith
shifted_fits (suc (suc zero)) g le lt = omega arith
shifted_fits (suc (suc (suc zero))) g le lt = omega arith
shifted_fits (suc (suc (suc (suc zero)))) g le lt = omega arith
shifted_fits (suc (suc (suc (suc (suc zero))))) g le lt = omega arith
shifted_fits (suc (suc (suc (suc (suc (suc zero)))))) g le lt = omega arith
shifted_fits (suc (suc (suc (suc (suc (suc (suc zero))))))) g le lt = omega arith
shifted_fits (suc (suc (suc (suc (suc (suc (suc (suc zero)))))))) g le lt = omega arith
shifted_fits (suc (suc (suc (suc (suc (suc (suc (suc (suc n))))))))) g le lt = absurd (omega arith)

bits_later : (rate a k : ℕ) → bits_by rate a ≤ bits_by rate (a + k)
bits_later rate a k =
    let some : 0 < bit_length rate = omega arith in
    let le : (a + half_bit rate) / bit_length rate ≤ (a + k + half_bit rate) / bit_length rate =
    quotient_later (bit_length rate) (a + half_bit rate) (a + k + half_bit rate) some (omega arith) in
    omega arith

-- the same test at equal numbers
pub is_equal : (m n : ℕ) → m ≡ n → (m == n) ≡ true
is_equal m n e = elim (cases_Bool (m == n)) [
  | inl on ↦ on
  | inr off ↦ absurd (eqb-false m n off e)
]

-- one sample more, from the number of those before
count_grows : (q q' c : ℕ) → q' ≡ suc q → 1 ≤ q → c ≤ q - 1 → q' - 1 - c ≡ suc (q - 1 - c)
count_grows q q' c is one le = omega arith

count_few : (q q' c : ℕ) → q' ≡ suc q → q' < 10 → q - 1 - c < 8
count_few q q' c is lt = omega arith

-- the start bit is not counted
count_start : (q q' c : ℕ) → q' ≡ suc q → q ≡ 0 → q' - 1 - c ≡ q - 1 - c
count_start q q' c is none = omega arith

module _ (rate a k g : ℕ) where
  abbrev b : ℕ
  b = bit_length rate

  abbrev h : ℕ
  h = half_bit rate

  -- the start bit is sampled in the n states after an age
  abbrev is_started : ℕ → Bool
  is_started n = nat_lt a h && nat_le h (a + n)

  abbrev count : ℕ → ℕ
  count n = bits_by rate (a + n) - bits_by rate a

  abbrev at : ℕ → ℕ → Reception
  at age register = record { rate = rate; age = age; register = register }

  not_before : is_started k ≡ false → a < h → a + k < h
  not_before off lt = elim (cases_lt (a + k) h) [
    | inl less ↦ less
    | inr ge ↦ absurd (false≢true (sym off ∙ and_from _ _ (lt-ltb a h lt) (le-leb h (a + k) ge)))
  ]

  not_started : (n : ℕ) → (a < h → a + n < h) → is_started n ≡ false
  not_started n before = false_from_ne_true _ (λ on.
      let parts = and_parts (nat_lt a h) (nat_le h (a + n)) on in
      let lt : a < h = ltb-true a h parts.0 in
      let ge : h ≤ a + n = leb-true h (a + n) parts.1 in
      let less : a + n < h = before lt in
      omega arith)

  past : (high : Bool) → (high && is_started k) ≡ false → b ≤ suc (a + k) → (high && is_started (suc k)) ≡ false
  past false off later = refl
  past true off later =
      let double : b ≡ h + h = two_halves rate in
      let pos : 0 < h = half_some rate in
      not_started (suc k) (λ lt. let less : a + k < h = not_before off lt in omega arith)

  still : (high : Bool) → (high && is_started k) ≡ false → (suc (a + k) % b ≡ h → ⊥) → (high && is_started (suc k)) ≡ false
  still false off other = refl
  still true off other =
      let double : b ≡ h + h = two_halves rate in
      let pos : 0 < h = half_some rate in
      not_started (suc k) (λ lt.
      let less : a + k < h = not_before off lt in
      elim (cases_lt (a + suc k) h) [
        | inl on ↦ on
        | inr ge ↦
            let place : suc (a + k) ≡ h = omega arith in
            let small : suc (a + k) < b = omega arith in
            absurd (other (mod-eq_of_lt small ∙ place))
      ])

  start_bit : (high : Bool) → suc (a + k) ≡ h → count (suc k) ≡ count k →
      (if high then None else Some (at (suc (a + k)) (shifted_by high (count k) g)))
      ≡ (if high && is_started (suc k) then None else Some (at (a + suc k) (shifted_by high (count (suc k)) g)))
  start_bit true place same =
      let lt : a < h = omega arith in
      let ge : h ≤ a + suc k = omega arith in
      rw (and_from (nat_lt a h) (nat_le h (a + suc k)) (lt-ltb a h lt) (le-leb h (a + suc k) ge)) refl
  start_bit false place same =
      ap (λ n. Some (at n (shifted_by false (count k) g))) (sym (add-suc a k))
      ∙ ap (λ m. Some (at (a + suc k) (shifted_by false m g))) (sym same)

  -- the Tick of the next state
  pub sampled_next : (high : Bool) → suc (a + k) < 9 * b + h → (high && is_started k) ≡ false →
      sampled high (at (suc (a + k)) (shifted_by high (count k) g))
      ≡ (if high && is_started (suc k) then None else Some (at (a + suc k) (shifted_by high (count (suc k)) g)))
  sampled_next high lt off =
      let some : 0 < b = omega arith in
      let onward : count (suc k) ≡ (suc (a + k) + h) / b - 1 - bits_by rate a = ap (λ n. (n + h) / b - 1 - bits_by rate a) (add-suc a k) in
      elim (taken_next b h (a + k) (half_some rate) (two_halves rate)) [
        | inl here ↦
            let test : is_sample rate (suc (a + k)) ≡ true = is_equal (suc (a + k) % b) h here.0 in
            elim (cases_lt (suc (a + k)) b) [
              | inl first ↦
                  let place : suc (a + k) ≡ h = sym (mod-eq_of_lt first) ∙ here.0 in
                  let none : (a + k + h) / b ≡ 0 = sym here.2 ∙ div-eq_of_lt first in
                  let within : nat_lt (suc (a + k)) b ≡ true = lt-ltb (suc (a + k)) b first in
                  let same : count (suc k) ≡ count k = onward ∙ count_start ((a + k + h) / b) ((suc (a + k) + h) / b) (bits_by rate a) here.1 none in
                  rw (test, within) (start_bit high place same)
              | inr later ↦
                  let within : nat_lt (suc (a + k)) b ≡ false = le-ltb (suc (a + k)) b later in
                  let most : (suc (a + k) + h) / b < 10 = taken_below b h (suc (a + k)) (half_some rate) (two_halves rate) lt in
                  let one : 1 ≤ (a + k + h) / b = subst (λ q. 1 ≤ q) here.2 (le-div 1 (suc (a + k)) b some (omega arith)) in
                  let few : count k < 8 = count_few ((a + k + h) / b) ((suc (a + k) + h) / b) (bits_by rate a) here.1 most in
                  let next : count (suc k) ≡ suc (count k) =
                  onward ∙ count_grows ((a + k + h) / b) ((suc (a + k) + h) / b) (bits_by rate a) here.1 one (bits_later rate a k) in
                  rw (test, within, past high off later)
                  (ap (λ n. Some (at n (shifted high (shifted_by high (count k) g)))) (sym (add-suc a k))
                  ∙ ap (λ r. Some (at (a + suc k) r)) (shifted_next high (count k) g few)
                  ∙ ap (λ m. Some (at (a + suc k) (shifted_by high m g))) (sym next))
            ]
        | inr other ↦
            let test : is_sample rate (suc (a + k)) ≡ false = ne_eqb (suc (a + k) % b) h other.0 in
            let next : count (suc k) ≡ count k = onward ∙ ap (λ n. n - 1 - bits_by rate a) other.1 in
            rw (test, still high off other.0)
            (ap (λ n. Some (at n (shifted_by high (count k) g))) (sym (add-suc a k))
            ∙ ap (λ m. Some (at (a + suc k) (shifted_by high m g))) (sym next))
      ]

  -- a reception that is dropped stays so
  dropped_later : (high : Bool) → (high && is_started k) ≡ true → (high && is_started (suc k)) ≡ true
  dropped_later high on =
      let parts = and_parts high (is_started k) on in
      let inner = and_parts (nat_lt a h) (nat_le h (a + k)) parts.1 in
      let ge : h ≤ a + k = leb-true h (a + k) inner.1 in
      and_from high (is_started (suc k)) parts.0 (and_from (nat_lt a h) (nat_le h (a + suc k)) inner.0 (le-leb h (a + suc k) (omega arith)))

  not_sooner : (high : Bool) → (high && is_started (suc k)) ≡ false → (high && is_started k) ≡ false
  not_sooner high off = false_from_ne_true _ (λ on. false≢true (sym off ∙ dropped_later high on))

-- the age before a sample that does not complete it
not_complete : (r : Reception) → is_complete r ≡ false → suc r.age < 9 * bit_length r.rate + half_bit r.rate
not_complete r off = let lt : r.age + 1 < 9 * bit_length r.rate + half_bit r.rate = leb-false _ _ off in omega arith

pub reception_next : (rate : ℕ) (high : Bool) (k : ℕ) (o : Option Reception) → completes (older_reception high k o) ≡ false →
    reception_after rate high false (older_reception high k o) ≡ older_reception high (suc k) o
reception_next rate high k None off = refl
reception_next rate high k (Some r) off = elim (cases_Bool (high && starts_within k r)) [
  | inl on ↦ rw (on, dropped_later r.rate r.age k r.register high on) refl
  | inr stays ↦
      let older : Reception = record { rate = r.rate; age = r.age + k; register = shifted_by high (bits_by r.rate (r.age + k) - bits_by r.rate r.age) r.register } in
      let whole : older_reception high k (Some r) ≡ Some older = ap (λ t. if t then None else Some older) stays in
      let incomplete : is_complete older ≡ false = ap completes (sym whole) ∙ off in
      ap (reception_after rate high false) whole
      ∙ ap (λ t. if t then None else sampled high (record older { age = r.age + k + 1 })) incomplete
      ∙ ap (λ n. sampled high (record older { age = n })) (add-one (r.age + k))
      ∙ sampled_next r.rate r.age k r.register high (not_complete older incomplete) stays
]

pub reception_start : (high : Bool) (o : Option Reception) → older_reception high 0 o ≡ o
reception_start high None = refl
reception_start high (Some r) =
    let none : (high && starts_within 0 r) ≡ false = no_start high in
    let same : r.age + 0 ≡ r.age = omega arith in
    let zero_more : bits_by r.rate r.age - bits_by r.rate r.age ≡ 0 = less_self (bits_by r.rate r.age) in
    ap (λ t. if t then None else Some (at r.rate r.age 0 r.register (r.age + 0) (shifted_by high (bits_by r.rate (r.age + 0) - bits_by r.rate r.age) r.register))) none
    ∙ ap (λ n. Some (at r.rate r.age 0 r.register n (shifted_by high (bits_by r.rate n - bits_by r.rate r.age) r.register))) same
    ∙ ap (λ m. Some (at r.rate r.age 0 r.register r.age (shifted_by high m r.register))) zero_more
    ∙ ap (λ g. Some (at r.rate r.age 0 r.register r.age g)) (shifted_none high r.register)
  where
    less_self : (n : ℕ) → n - n ≡ 0
    less_self n = omega arith

    no_start : (high : Bool) → (high && starts_within 0 r) ≡ false
    no_start false = refl
    no_start true = not_started r.rate r.age 0 r.register 0 (λ lt. omega arith)

pub received_stays : (received : ℕ) (o : Option Reception) → completes o ≡ false → received_after received o ≡ received
received_stays received None off = refl
received_stays received (Some r) off = rw off refl

pub reception_fits : (high : Bool) (n : ℕ) (o : Option Reception) → ((k : ℕ) → k < n → not (completes (older_reception high k o)) ≡ true) → ReceptionFits high n o
reception_fits high n None quiet = tt
reception_fits high zero (Some r) quiet = λ off.
    let same : r.age + 0 ≡ r.age = omega arith in
    (omega arith, subst (λ m. bits_by r.rate m - bits_by r.rate r.age ≤ 8) (sym same) (none_more (bits_by r.rate r.age)))
  where
    none_more : (n : ℕ) → n - n ≤ 8
    none_more n = omega arith
reception_fits high (suc n) (Some r) quiet = λ off.
    let stays : (high && starts_within n r) ≡ false = not_sooner r.rate r.age n r.register high off in
    let older : Reception = record { rate = r.rate; age = r.age + n; register = shifted_by high (bits_by r.rate (r.age + n) - bits_by r.rate r.age) r.register } in
    let whole : older_reception high n (Some r) ≡ Some older = ap (λ t. if t then None else Some older) stays in
    let incomplete : is_complete older ≡ false = ap completes (sym whole) ∙ not-true _ (quiet n (omega arith)) in
    let lt : suc (r.age + n) < 9 * bit_length r.rate + half_bit r.rate = not_complete older incomplete in
    let double : bit_length r.rate ≡ half_bit r.rate + half_bit r.rate = two_halves r.rate in
    let most : (r.age + suc n + half_bit r.rate) / bit_length r.rate < 10 =
    taken_below (bit_length r.rate) (half_bit r.rate) (r.age + suc n) (half_some r.rate) double (omega arith) in
    (omega arith, few ((r.age + suc n + half_bit r.rate) / bit_length r.rate) (bits_by r.rate r.age) most)
  where
    few : (q c : ℕ) → q < 10 → q - 1 - c ≤ 8
    few q c lt = omega arith
