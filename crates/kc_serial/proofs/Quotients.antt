-- Quotients by the length of a bit, one state after the other.
use Rattle.std.proofs.Common.{◌≡◌, ℕ, suc, ◌+◌, ◌-◌, ◌*◌, ◌/◌, ◌%◌, ◌<◌, ◌≤◌, ◌⊎◌, sym, ◌∙◌, ap, arith, inl, inr}
use Rattle.std.proofs.lemmas.Bool.{cases_lt}
use Rattle.std.proofs.lemmas.Nat.{div-add-mod', div-mul-add, mod-mul-add, le-div, mod_below, div_below}
use Rattle.std.proofs.Math.Nat.{suc-mul, div-mul-le_self}

-- a quotient grows where nothing remains, and else stays
pub quotient_next : (b x : ℕ) → 0 < b → ((suc x / b ≡ suc (x / b)) × (suc x % b ≡ 0)) ⊎ ((suc x / b ≡ x / b) × (suc x % b ≡ suc (x % b)))
quotient_next b x pos =
    let whole : x / b * b + x % b ≡ x = div-add-mod' x b in
    let small : x % b < b = mod_below x b pos in
    elim (cases_lt (suc (x % b)) b) [
      | inl lt ↦
          let e : x / b * b + suc (x % b) ≡ suc x = omega arith in
          inr (ap (λ n. n / b) (sym e) ∙ div-mul-add (x / b) b (suc (x % b)) lt, ap (λ n. n % b) (sym e) ∙ mod-mul-add (x / b) b (suc (x % b)) lt)
      | inr ge ↦
          let more : suc (x / b) * b ≡ x / b * b + b = suc-mul (x / b) b in
          let e : suc (x / b) * b + 0 ≡ suc x = rw more (omega arith) in
          inl (ap (λ n. n / b) (sym e) ∙ div-mul-add (suc (x / b)) b 0 pos, ap (λ n. n % b) (sym e) ∙ mod-mul-add (suc (x / b)) b 0 pos)
    ]

pub quotient_later : (b x y : ℕ) → 0 < b → x ≤ y → x / b ≤ y / b
quotient_later b x y pos le =
    let below : x / b * b ≤ x = div-mul-le_self x b in
    le-div (x / b) y b pos (omega arith)

-- the state before a multiple
pub quotient_before : (b q x : ℕ) → 0 < b → suc x ≡ suc q * b → x / b ≡ q
quotient_before b q x pos is =
    let more : suc q * b ≡ q * b + b = suc-mul q b in
    let e : q * b + (b - 1) ≡ x = omega arith in
    ap (λ n. n / b) (sym e) ∙ div-mul-add q b (b - 1) (omega arith)

pub quotient_at : (b q x : ℕ) → 0 < b → x ≡ q * b → x / b ≡ q
quotient_at b q x pos is =
    let e : q * b + 0 ≡ x = omega arith in
    ap (λ n. n / b) (sym e) ∙ div-mul-add q b 0 pos

-- the number of samples grows where half a bit remains
pub taken_next : (b h x : ℕ) → 0 < h → b ≡ h + h →
    ((suc x % b ≡ h) × ((suc x + h) / b ≡ suc ((x + h) / b)) × (suc x / b ≡ (x + h) / b)) ⊎ ((suc x % b ≡ h → ⊥) × ((suc x + h) / b ≡ (x + h) / b))
taken_next b h x pos double =
    let some : 0 < b = omega arith in
    let shift : suc x + h ≡ suc (x + h) = omega arith in
    elim (quotient_next b (x + h) some) [
      | inl grows ↦
          let whole : suc (x + h) / b * b + suc (x + h) % b ≡ suc (x + h) = div-add-mod' (suc (x + h)) b in
          let part : suc (x + h) / b * b ≡ (x + h) / b * b + b = ap (λ q. q * b) grows.0 ∙ suc-mul ((x + h) / b) b in
          let none : suc (x + h) % b ≡ 0 = grows.1 in
          let e : (x + h) / b * b + h ≡ suc x = omega arith in
          let less : h < b = omega arith in
          inl (ap (λ n. n % b) (sym e) ∙ mod-mul-add ((x + h) / b) b h less, ap (λ n. n / b) shift ∙ grows.0, ap (λ n. n / b) (sym e) ∙ div-mul-add ((x + h) / b) b h less)
      | inr stays ↦ inr (
        λ is.
            let whole : suc x / b * b + suc x % b ≡ suc x = div-add-mod' (suc x) b in
            let more : suc (suc x / b) * b ≡ suc x / b * b + b = suc-mul (suc x / b) b in
            let e : suc (suc x / b) * b + 0 ≡ suc (x + h) = rw more (omega arith) in
            let none : suc (x + h) % b ≡ 0 = ap (λ n. n % b) (sym e) ∙ mod-mul-add (suc (suc x / b)) b 0 some in
            let some' : suc (x + h) % b ≡ suc ((x + h) % b) = stays.1 in
            omega arith,
        ap (λ n. n / b) shift ∙ stays.0,
      )
    ]

pub taken_below : (b h x : ℕ) → 0 < h → b ≡ h + h → x < 9 * b + h → (x + h) / b < 10
taken_below b h x pos double lt = div_below (x + h) b 10 (omega arith) (omega arith)
