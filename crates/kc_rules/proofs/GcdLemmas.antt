-- Euclid's steps.
use Rattle.std.proofs.Common.{◌≡◌, ℕ, zero, suc, ◌%◌, ◌<◌, ◌≤◌, ◌⊎◌, inl, inr, refl, arith}
use Rattle.kc_rules.specs.Amounts.{gcd_within, gcd}

below : (a b : ℕ) → a % suc b ≤ b
below a b = omega arith

-- more steps than the second number change nothing
pub gcd-steps : (n m a b : ℕ) → b ≤ n → b ≤ m → gcd_within n a b ≡ gcd_within m a b
unfolding gcd_within
gcd-steps zero zero a b p q = refl
gcd-steps zero (suc m) a zero p q = refl
gcd-steps zero (suc m) a (suc b) p q = absurd (omega arith)
gcd-steps (suc n) zero a zero p q = refl
gcd-steps (suc n) zero a (suc b) p q = absurd (omega arith)
gcd-steps (suc n) (suc m) a zero p q = refl
gcd-steps (suc n) (suc m) a (suc b) p q =
    let less : a % suc b ≤ b = below a b in
    gcd-steps n m (suc b) (a % suc b) (omega arith) (omega arith)

pub gcd-zero : (a b : ℕ) → b ≡ 0 → gcd a b ≡ a
unfolding gcd_within
gcd-zero a zero none = refl
gcd-zero a (suc b) none = absurd (omega arith)

-- one step
pub gcd-step : (a b : ℕ) → 0 < b → gcd a b ≡ gcd b (a % b)
unfolding gcd_within
gcd-step a zero some = absurd (omega arith)
gcd-step a (suc b) some = gcd-steps b (a % suc b) (suc b) (a % suc b) (below a b) (omega arith)

some_within : (n a b : ℕ) → b ≤ n → (0 < a) ⊎ (0 < b) → 0 < gcd_within n a b
unfolding gcd_within
some_within zero a b p (inl some) = some
some_within zero a b p (inr some) = absurd (omega arith)
some_within (suc n) a zero p (inl some) = some
some_within (suc n) a zero p (inr some) = absurd (omega arith)
some_within (suc n) a (suc b) p some =
    let less : a % suc b ≤ b = below a b in
    some_within n (suc b) (a % suc b) (omega arith) (inl (omega arith))

pub gcd-some : (a b : ℕ) → 0 < b → 0 < gcd a b
gcd-some a b some = some_within b a b (omega arith) (inr some)
