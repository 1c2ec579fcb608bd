-- The bits of the masks of pins.
use Rattle.std.proofs.Common.{◌≡◌, ◌≢◌, ℕ, zero, suc, ◌^◌, ◌<◌, ◌≤◌, Bool, true, false, refl, arith, bit_or, max, inl, inr}
use Rattle.std.specs.Int.{bit_at}
use Rattle.std.proofs.lemmas.Nat.Bits.{bit_at-zero, bit_at_or, bit_at-pow_same, bit_at-pow_other}
use Rattle.std.proofs.lemmas.Bool.{cases_eq}
use Rattle.kc_base.specs.Bits.{weight}
use Rattle.kc_block_spec.specs.Levels.{mask_of}

weight_here : (b : Bool) (n : ℕ) → bit_at (weight b (2 ^ n)) n ≡ weight b 1
weight_here true n = bit_at-pow_same n
weight_here false n = bit_at-zero n

weight_there : (b : Bool) (n k : ℕ) → k ≢ n → bit_at (weight b (2 ^ n)) k ≡ 0
weight_there true n k other = bit_at-pow_other n k other
weight_there false n k other = bit_at-zero k

-- no bit from the number on
pub mask_above : (test : ℕ → Bool) (n k : ℕ) → n ≤ k → bit_at (mask_of test n) k ≡ 0
unfolding mask_of
mask_above test zero k le = bit_at-zero k
mask_above test (suc n) k le =
    let low : bit_at (mask_of test n) k ≡ 0 = mask_above test n k (omega arith) in
    let top : bit_at (weight (test n) (2 ^ n)) k ≡ 0 = weight_there (test n) n k (λ e. omega arith) in
    let most : bit_at (bit_or (mask_of test n) (weight (test n) (2 ^ n))) k ≡ max (bit_at (mask_of test n) k) (bit_at (weight (test n) (2 ^ n)) k) =
    bit_at_or (mask_of test n) (weight (test n) (2 ^ n)) k in
    omega arith

-- bit n of the mask of a test is the test at n
pub mask_bit : (test : ℕ → Bool) (n k : ℕ) → k < n → bit_at (mask_of test n) k ≡ weight (test k) 1
unfolding mask_of
mask_bit test zero k lt = absurd (omega arith)
mask_bit test (suc n) k lt =
    let most : bit_at (bit_or (mask_of test n) (weight (test n) (2 ^ n))) k ≡ max (bit_at (mask_of test n) k) (bit_at (weight (test n) (2 ^ n)) k) =
    bit_at_or (mask_of test n) (weight (test n) (2 ^ n)) k in
    elim (cases_eq k n) [
      | inl same ↦
          let low : bit_at (mask_of test n) k ≡ 0 = mask_above test n k (omega arith) in
          let top : bit_at (weight (test n) (2 ^ n)) k ≡ weight (test k) 1 = rw same (weight_here (test n) n) in
          omega arith
      | inr other ↦
          let low : bit_at (mask_of test n) k ≡ weight (test k) 1 = mask_bit test n k (omega (arith, other)) in
          let top : bit_at (weight (test n) (2 ^ n)) k ≡ 0 = weight_there (test n) n k other in
          omega arith
    ]

-- masks of tests that agree below a number
pub mask_same : (p q : ℕ → Bool) (n : ℕ) → ((k : ℕ) → k < n → p k ≡ q k) → mask_of p n ≡ mask_of q n
unfolding mask_of
mask_same p q zero same = refl
mask_same p q (suc n) same = rw (mask_same p q n (λ k lt. same k (omega arith)), same n (omega arith)) refl
