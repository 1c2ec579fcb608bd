-- The bits of a conjunction, of a disjunction and of a complement.
use Rattle.std.proofs.Common.{◌≡◌, ℕ, min, max, ◌-◌, ◌<◌, ◌^◌, ◌==◌, ◌&&◌, ◌||◌, not, ◌⊎◌, inl, inr, refl, ap, ◌∙◌, arith}
use Rattle.std.specs.Prelude.{bit_and, bit_or}
use Rattle.std.specs.Int.{w16, bit_at, bit_not}
use Rattle.std.proofs.lemmas.Nat.Bits.{bit_at_and, bit_at_or, bit_at_not, bit_at-lt}
use Rattle.std.proofs.lemmas.Bool.{cases_lt}
use Rattle.kc_base.specs.Bits.{bit}

-- a digit is 0 or 1
either_digit : (v : ℕ) → v < 2 → (v ≡ 0) ⊎ (v ≡ 1)
either_digit v small = elim (cases_lt v 1) [ inl less ↦ inl (omega (arith, less)) | inr more ↦ inr (omega (arith, more, small)) ]

both_digits : (a b : ℕ) → a < 2 → b < 2 → (min a b == 1) ≡ ((a == 1) && (b == 1))
both_digits a b a_small b_small = by (either_digit a a_small) (either_digit b b_small)
  where
    by : (a ≡ 0) ⊎ (a ≡ 1) → (b ≡ 0) ⊎ (b ≡ 1) → (min a b == 1) ≡ ((a == 1) && (b == 1))
    by (inl x) (inl y) = rw (x, y) refl
    by (inl x) (inr y) = rw (x, y) refl
    by (inr x) (inl y) = rw (x, y) refl
    by (inr x) (inr y) = rw (x, y) refl

one_digit : (a b : ℕ) → a < 2 → b < 2 → (max a b == 1) ≡ ((a == 1) || (b == 1))
one_digit a b a_small b_small = by (either_digit a a_small) (either_digit b b_small)
  where
    by : (a ≡ 0) ⊎ (a ≡ 1) → (b ≡ 0) ⊎ (b ≡ 1) → (max a b == 1) ≡ ((a == 1) || (b == 1))
    by (inl x) (inl y) = rw (x, y) refl
    by (inl x) (inr y) = rw (x, y) refl
    by (inr x) (inl y) = rw (x, y) refl
    by (inr x) (inr y) = rw (x, y) refl

no_digit : (a : ℕ) → a < 2 → ((1 - a) == 1) ≡ not (a == 1)
no_digit a small = by (either_digit a small)
  where
    by : (a ≡ 0) ⊎ (a ≡ 1) → ((1 - a) == 1) ≡ not (a == 1)
    by (inl x) = rw x refl
    by (inr x) = rw x refl

-- a bit of what two numbers share, of what one of them has, and of what a register lacks
pub bit_both : (a b k : ℕ) → bit (bit_and a b) k ≡ (bit a k && bit b k)
bit_both a b k = ap (λ v. v == 1) (bit_at_and a b k) ∙ both_digits (bit_at a k) (bit_at b k) (bit_at-lt a k) (bit_at-lt b k)

pub bit_either : (a b k : ℕ) → bit (bit_or a b) k ≡ (bit a k || bit b k)
bit_either a b k = ap (λ v. v == 1) (bit_at_or a b k) ∙ one_digit (bit_at a k) (bit_at b k) (bit_at-lt a k) (bit_at-lt b k)

pub bit_missing : (a k : ℕ) → a < 2 ^ 16 → k < 16 → bit (bit_not w16 a) k ≡ not (bit a k)
bit_missing a k small within = ap (λ v. v == 1) (bit_at_not w16 a k small within) ∙ no_digit (bit_at a k) (bit_at-lt a k)
