-- Normalizing, place by place.
use Rattle.std.proofs.Common.{◌≡◌, ℕ, zero, suc, ◌+◌, ◌*◌, ◌%◌, ◌^◌, ◌<◌, ◌≤◌, ◌⊎◌, Bool, true, false, inl, inr, refl, sym, ◌∙◌, ap, arith, subst}
use Rattle.std.specs.Prelude.{min}
use Rattle.std.specs.Int.{w32, leading_zeros}
use lib.Count.{count_leading_zeros}
use Rattle.std.proofs.lemmas.Bool.{le-leb, lt-leb, cases_lt}
use Rattle.std.proofs.lemmas.Nat.{leading_top, shl_below, pow-add}
use Rattle.std.proofs.Math.Nat.{pow-le-pow_right, mul-le-mul_right}
use Rattle.kc_alu.specs.declared.flags.Shift.TheVariants.{Left}
use Rattle.kc_alu.specs.Width.{half_of}
use Rattle.kc_alu.specs.Shifts.{normal_shifts, normal_result}
use Rattle.kc_alu.specs.Places.{top_bit, by_places}
use Rattle.kc_alu.specs.Laws.{to_the_left_by, AreNormal, NormalizingGoesByPlaces, NormalizingIsOne}
use Rattle.kc_alu.proofs.Places.{IsLeft, left_by_places}

long_half : half_of 32 ≡ 0x80000000
unfolding half_of
long_half = refl

moved : (value n : ℕ) → value < 2 * half_of 32 → to_the_left_by value n ≡ value * 2 ^ n % 0x100000000
moved value n lt =
    let pos : 0 < half_of 32 = rw long_half (omega arith) in
    let is : IsLeft (half_of 32) value (2 ^ n) (by_places Left (half_of 32) value n) = left_by_places (half_of 32) value pos lt n in
    is.value ∙ ap (λ h. value * 2 ^ n % (2 * h)) long_half

-- before the top bit is 1, the value has not gone past the width
record IsTop (value count : ℕ) : Type 0 where
  pub before : (k : ℕ) → k < count → value * 2 ^ k < 0x80000000
  pub after : (0x80000000 ≤ value * 2 ^ count) × (value * 2 ^ count < 0x100000000)

shifts_top : (value : ℕ) → 0 < value → value < 0x100000000 → (leading_zeros w32 value ≤ 31) × IsTop value (leading_zeros w32 value)
shifts_top value pos lt =
    let t : (j : ℕ) × (leading_zeros w32 value + suc j ≡ 32) × (2 ^ j ≤ value) × (value < 2 ^ suc j) = leading_top 32 value pos lt in (
      omega (arith, t.1),
      record {
        before = λ k less.
            let all : suc t.0 + k ≤ 31 = omega (arith, t.1) in
            let most : 2 ^ (suc t.0 + k) ≤ 2 ^ 31 = pow-le-pow_right {n = 2} (omega arith) all in
            omega (arith, shl_below value (suc t.0) k t.3);
        after = (
          let all : t.0 + leading_zeros w32 value ≡ 31 = omega (arith, t.1) in
              subst (λ m. 2 ^ m ≤ value * 2 ^ leading_zeros w32 value) all (rw (pow-add 2 t.0 (leading_zeros w32 value)) (mul-le-mul_right _ t.2)),
          (let all : suc t.0 + leading_zeros w32 value ≡ 32 = omega (arith, t.1) in
              subst (λ m. value * 2 ^ leading_zeros w32 value < 2 ^ m) all (shl_below value (suc t.0) (leading_zeros w32 value) t.3)),
        );
      },
    )

-- the top bit of a value that has not gone past the width
low_yet : (value k : ℕ) → value < 2 * half_of 32 → value * 2 ^ k < 0x80000000 → top_bit (half_of 32) (to_the_left_by value k) ≡ false
low_yet value k lt less =
    let low : value * 2 ^ k % 0x100000000 < 0x80000000 = omega arith in
    rw (moved value k lt, long_half) (lt-leb 0x80000000 (value * 2 ^ k % 0x100000000) low)

high_now : (value k : ℕ) → value < 2 * half_of 32 → 0x80000000 ≤ value * 2 ^ k → value * 2 ^ k < 0x100000000 →
    top_bit (half_of 32) (to_the_left_by value k) ≡ true
high_now value k lt le less =
    let high : 0x80000000 ≤ value * 2 ^ k % 0x100000000 = omega arith in
    rw (moved value k lt, long_half) (le-leb 0x80000000 (value * 2 ^ k % 0x100000000) high)

none_at_zero : normal_shifts 0 ≡ 31
unfolding count_leading_zeros
none_at_zero = refl

normal_of : (value : ℕ) → value < 2 * half_of 32 → AreNormal value (normal_shifts value)
normal_of zero lt = record {
  few = omega arith;
  before = λ k less. low_yet 0 k lt (omega arith);
  after = inr none_at_zero;
}
normal_of (suc v) lt =
    let top : (leading_zeros w32 (suc v) ≤ 31) × IsTop (suc v) (leading_zeros w32 (suc v)) =
    shifts_top (suc v) (omega arith) (subst (λ h. suc v < 2 * h) long_half lt) in
    let all : min (leading_zeros w32 (suc v)) 31 ≡ leading_zeros w32 (suc v) = omega (arith, top.0) in
    subst (AreNormal (suc v)) (sym all) (record {
      few = top.0;
      before = λ k less. low_yet (suc v) k lt (top.1.before k less);
      after = inl (high_now (suc v) (leading_zeros w32 (suc v)) lt top.1.after.0 top.1.after.1);
    })

one_normal : (value a b : ℕ) → AreNormal value a → AreNormal value b → a ≤ b
one_normal value a b is other = elim (cases_lt b a) [
  | inr le ↦ le
  | inl less ↦ past (is.before b less) other.after is.few
]
  where
    past : {t : Bool} → t ≡ false → (t ≡ true) ⊎ (b ≡ 31) → a ≤ 31 → a ≤ b
    past e (inl f) few = absurd (cc)
    past e (inr f) few = omega arith

pub normalizing_is_one : NormalizingIsOne
normalizing_is_one value count lt is =
    let a : count ≤ normal_shifts value = one_normal value count (normal_shifts value) is (normal_of value lt) in
    let b : normal_shifts value ≤ count = one_normal value (normal_shifts value) count (normal_of value lt) is in
    omega arith

pub normalizing_goes_by_places : NormalizingGoesByPlaces
normalizing_goes_by_places value flags lt =
    let is : AreNormal value (normal_shifts value) = normal_of value lt in
    let at : to_the_left_by value (normal_shifts value) ≡ normal_result value = moved value (normal_shifts value) lt in
    (is, sym at, rw (at, long_half) refl)
