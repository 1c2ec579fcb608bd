-- The set of the slots in which an entry stands, bit by bit.
use Rattle.std.proofs.Common.{◌≡◌, ℕ, zero, suc, min, ◌+◌, ◌-◌, ◌*◌, ◌/◌, ◌%◌, ◌^◌, ◌<◌, ◌≢◌, ◌==◌, Bool, true, false, cond, List, [], ◌∷◌, get_or, refl, sym, ap, ◌∙◌, inl, inr, arith}
use Rattle.std.specs.Prelude.{bit_and}
use Rattle.std.specs.Int.{bit_at}
use Rattle.std.specs.Simd.Lanes.{mask_l}
use Rattle.std.proofs.lemmas.Simd.{bit_mask_l}
use Rattle.std.proofs.lemmas.Bool.{cases_lt}
use Rattle.std.proofs.lemmas.Nat.Bits.{bit_at_and, bit_at-zero, bit_at_cat_low, bit_at_cat_high}
use Rattle.std.proofs.lemmas.Nat.{pow_pos}
use Rattle.std.proofs.Math.Nat.{div-add-mod, mod-lt}
use Rattle.kc_base.specs.Bits.{bit, weight}

whole : (n m : ℕ) → n ≡ n / m * m + n % m
whole n m = omega (arith, div-add-mod n m)

-- a number with a bit is no multiple of twice that bit's weight
low_part : (n k : ℕ) → bit_at n k ≡ 1 → 0 < n % 2 ^ suc k
low_part n k set = elim (cases_lt 0 (n % 2 ^ suc k)) [
  | inl some ↦ some
  | inr none ↦
      let even : n ≡ n / 2 ^ suc k * 2 ^ suc k + 0 = omega (arith, whole n (2 ^ suc k), none) in
      let clear = ap (λ v. bit_at v k) even ∙ bit_at_cat_low (n / 2 ^ suc k) (suc k) 0 k (omega arith) ∙ bit_at-zero k in
      absurd (omega (arith, set, clear))
]

-- above a bit of a number, the number below it has the same bits
same_high : (n k i : ℕ) → bit_at n k ≡ 1 → k < i → bit_at (n - 1) i ≡ bit_at n i
same_high n k i set above =
    let some = low_part n k set in
    let small : n % 2 ^ suc k < 2 ^ suc k = mod-lt n (pow_pos (suc k)) in
    let less : n - 1 ≡ n / 2 ^ suc k * 2 ^ suc k + (n % 2 ^ suc k - 1) = omega (arith, whole n (2 ^ suc k), some) in
    ap (λ v. bit_at v i) less
    ∙ bit_at_cat_high (n / 2 ^ suc k) (suc k) (n % 2 ^ suc k - 1) i (omega (arith, small)) (omega (arith, above))
    ∙ sym (bit_at_cat_high (n / 2 ^ suc k) (suc k) (n % 2 ^ suc k) i small (omega (arith, above)))
    ∙ ap (λ v. bit_at v i) (sym (whole n (2 ^ suc k)))

-- the lowest bit goes where a number meets the one below it, and no other
pub other_bits : (n k i : ℕ) → bit_at n k ≡ 1 → ((j : ℕ) → j < k → bit_at n j ≡ 0) → i ≢ k → bit (bit_and n (n - 1)) i ≡ bit n i
other_bits n k i set low other = ap (λ v. v == 1) (bit_at_and n (n - 1) i ∙ by)
  where
    by : min (bit_at n i) (bit_at (n - 1) i) ≡ bit_at n i
    by = elim (cases_lt i k) [
      | inl below ↦ let none = low i below in omega (arith, none)
      | inr more ↦ let same = same_high n k i set (omega (arith, other, more)) in omega (arith, same)
    ]

weight_times : (b : Bool) (n : ℕ) → weight b n ≡ n * weight b 1
weight_times true n = omega arith
weight_times false n = omega arith

-- eight tests as a list
abbrev tests_of : (ℕ → Bool) → List Bool
tests_of f = f 0 ∷ f 1 ∷ f 2 ∷ f 3 ∷ f 4 ∷ f 5 ∷ f 6 ∷ f 7 ∷ []

test_at : (f : ℕ → Bool) (i : ℕ) → i < 8 → get_or (tests_of f) i false ≡ f i
test_at f zero lt = refl
test_at f (suc zero) lt = refl
test_at f (suc (suc zero)) lt = refl
test_at f (suc (suc (suc zero))) lt = refl
test_at f (suc (suc (suc (suc zero)))) lt = refl
test_at f (suc (suc (suc (suc (suc zero))))) lt = refl
test_at f (suc (suc (suc (suc (suc (suc zero)))))) lt = refl
test_at f (suc (suc (suc (suc (suc (suc (suc zero))))))) lt = refl
test_at f (suc (suc (suc (suc (suc (suc (suc (suc i)))))))) lt = absurd (omega arith)

test_of : (b : Bool) → (cond b 1 0 == 1) ≡ b
test_of true = refl
test_of false = refl

-- the bits of a sum of eight weights
pub weights_bit : (f : ℕ → Bool) (i : ℕ) → i < 8 →
    bit (weight (f 0) 1 + weight (f 1) 2 + weight (f 2) 4 + weight (f 3) 8 + weight (f 4) 16 + weight (f 5) 32 + weight (f 6) 64 + weight (f 7) 128) i ≡ f i
weights_bit f i lt =
    ap (λ n. bit n i) sum ∙ ap (λ v. v == 1) (bit_mask_l (tests_of f) i) ∙ test_of (get_or (tests_of f) i false) ∙ test_at f i lt
  where
    sum : weight (f 0) 1 + weight (f 1) 2 + weight (f 2) 4 + weight (f 3) 8 + weight (f 4) 16 + weight (f 5) 32 + weight (f 6) 64 + weight (f 7) 128 ≡ mask_l (tests_of f)
    sum = omega (arith, weight_times (f 1) 2, weight_times (f 2) 4, weight_times (f 3) 8, weight_times (f 4) 16, weight_times (f 5) 32, weight_times (f 6) 64, weight_times (f 7) 128)
