-- One bit of a set that has lost a request, or got one.
use Rattle.std.proofs.Common.{◌≡◌, ℕ, ◌-◌, ◌<◌, ◌^◌, ◌==◌, min, max, true, false, ap, ◌∙◌, arith}
use Rattle.std.specs.Int.{w16, bit_at, bit_not}
use Rattle.std.proofs.lemmas.Nat.Bits.{bit_at_and, bit_at_or, bit_at_not, bit_at-pow_same, bit_at-pow_other, bit_at-lt}
use Rattle.std.proofs.Math.Pow.{pow-lt}
use Rattle.kc_intc.specs.Sets.{without, with_request}
use Rattle.kc_intc.specs.Laws.{ChangesBit}

fits : (n : ℕ) → n < 16 → 2 ^ n < 2 ^ 16
fits n within = pow-lt within

cleared : (n set k : ℕ) → n < 16 → k < 16 → bit_at (without n set) k ≡ min (bit_at set k) (1 - bit_at (2 ^ n) k)
cleared n set k within k_within = bit_at_and set (bit_not w16 (2 ^ n)) k ∙ ap (min (bit_at set k)) (bit_at_not w16 (2 ^ n) k (fits n within) k_within)

pub lost : (n set : ℕ) → n < 16 → ChangesBit n set (without n set) false
lost n set within = record {
  here = ap (λ v. v == 1) (cleared n set n within within ∙ ap (λ v. min (bit_at set n) (1 - v)) (bit_at-pow_same n) ∙ (let e : min (bit_at set n) 0 ≡ 0 = omega arith in e));
  others = λ k k_within other. ap (λ v. v == 1) (cleared n set k within k_within ∙ ap (λ v. min (bit_at set k) (1 - v)) (bit_at-pow_other n k other) ∙ (let e : min (bit_at set k) 1 ≡ bit_at set k = omega (arith, bit_at-lt set k) in e));
}

pub got : (n set : ℕ) → n < 16 → ChangesBit n set (with_request n set) true
got n set within = record {
  here = ap (λ v. v == 1) (bit_at_or set (2 ^ n) n ∙ ap (max (bit_at set n)) (bit_at-pow_same n) ∙ (let e : max (bit_at set n) 1 ≡ 1 = omega (arith, bit_at-lt set n) in e));
  others = λ k k_within other. ap (λ v. v == 1) (bit_at_or set (2 ^ n) k ∙ ap (max (bit_at set k)) (bit_at-pow_other n k other) ∙ (let e : max (bit_at set k) 0 ≡ bit_at set k = omega arith in e));
}
