-- Doubling and halving under quotients and remainders.
use Rattle.std.proofs.Common.{◌≡◌, ℕ, ◌+◌, ◌-◌, ◌*◌, ◌/◌, ◌%◌, ◌<◌, ◌≤◌, ◌⊎◌, inl, inr, sym, ◌∙◌, ap, arith}
use Rattle.std.proofs.lemmas.Nat.{div-mul-add, mod-mul-add, div-add-mod', mod_below}
use Rattle.std.proofs.lemmas.Bool.{cases_lt}

-- a quotient and a remainder by what they make together
pub parts : (x q m r : ℕ) → x ≡ q * m + r → r < m → (x / m ≡ q) × (x % m ≡ r)
parts x q m r e lt = (ap (λ y. y / m) e ∙ div-mul-add q m r lt, ap (λ y. y % m) e ∙ mod-mul-add q m r lt)

-- a number over half h: its top bit within the width is 0
pub record IsLow (h x : ℕ) : Type 0 where
  pub below : x % (2 * h) < h
  pub quotient : x / h ≡ 2 * (x / (2 * h))
  pub next_out : 2 * x / (2 * h) ≡ x / h
  pub next_value : 2 * x % (2 * h) ≡ 2 * (x % (2 * h))

-- or 1
pub record IsHigh (h x : ℕ) : Type 0 where
  pub above : h ≤ x % (2 * h)
  pub quotient : x / h ≡ 2 * (x / (2 * h)) + 1
  pub next_out : 2 * x / (2 * h) ≡ x / h
  pub next_value : 2 * x % (2 * h) ≡ 2 * (x % (2 * h) - h)

low : (h x q r : ℕ) → 0 < h → x ≡ q * (2 * h) + r → r < h → IsLow h x
low h x q r pos e lt =
    let width : (x / (2 * h) ≡ q) × (x % (2 * h) ≡ r) = parts x q (2 * h) r e (omega arith) in
    let half : (x / h ≡ 2 * q) × (x % h ≡ r) = parts x (2 * q) h r (grind arith) lt in
    let double : (2 * x / (2 * h) ≡ 2 * q) × (2 * x % (2 * h) ≡ 2 * r) = parts (2 * x) (2 * q) (2 * h) (2 * r) (grind arith) (omega arith) in
    record { below = omega arith; quotient = omega arith; next_out = omega arith; next_value = omega arith }

high : (h x q r : ℕ) → 0 < h → x ≡ q * (2 * h) + r → r < 2 * h → h ≤ r → IsHigh h x
high h x q r pos e lt le =
    let width : (x / (2 * h) ≡ q) × (x % (2 * h) ≡ r) = parts x q (2 * h) r e lt in
    let half : (x / h ≡ 2 * q + 1) × (x % h ≡ r - h) = parts x (2 * q + 1) h (r - h) (grind arith) (omega arith) in
    let double : (2 * x / (2 * h) ≡ 2 * q + 1) × (2 * x % (2 * h) ≡ 2 * (r - h)) =
    parts (2 * x) (2 * q + 1) (2 * h) (2 * (r - h)) (grind arith) (omega arith) in
    record { above = omega arith; quotient = omega arith; next_out = omega arith; next_value = omega arith }

pub low_or_high : (h x : ℕ) → 0 < h → IsLow h x ⊎ IsHigh h x
low_or_high h x pos =
    let e : x ≡ x / (2 * h) * (2 * h) + x % (2 * h) = sym (div-add-mod' x (2 * h)) in
    elim (cases_lt (x % (2 * h)) h) [
      | inl lt ↦ inl (low h x (x / (2 * h)) (x % (2 * h)) pos e lt)
      | inr le ↦ inr (high h x (x / (2 * h)) (x % (2 * h)) pos e (mod_below x (2 * h) (omega arith)) le)
    ]
