-- What the begins of a pass cost and pay.
use Rattle.std.proofs.Common.{◌≡◌, ℕ, zero, suc, Bool, true, false, ◌+◌, ◌-◌, ◌*◌, ◌<◌, ◌≤◌, ◌==◌, if◌then◌else◌, Some, List, [], ◌∷◌, length, refl, sym, ap, subst, arith}
use Rattle.std.proofs.lemmas.Grind.{common_steps}
use Rattle.std.proofs.Math.Nat.{mul-le-mul_left}
use Rattle.std.specs.Prelude.{Contains, slice_index_or}
use Rattle.kc_bound.specs.declared.notes.Loop.{Loop}
use Rattle.kc_bound.specs.Notes.{is_among, turns_at, turns_at_first}
use Rattle.kc_bound.specs.Certified.{priced, begins_at}
use Rattle.kc_bound.specs.Premises.{turns_after}

-- a fact of each of some loops
abbrev pub OfEach : (Loop → Type 0) → List Loop → Type 0
OfEach P [] = Unit {0}
OfEach P (l ∷ loops) = P l × OfEach P loops

-- a fact of each that they contain
pub of_each : (P : Loop → Type 0) (loops : List Loop) → ((l : Loop) → Contains loops l → P l) → OfEach P loops
of_each P [] all = tt
of_each P (l ∷ loops) all = (
  all l (0, omega arith, refl),
  of_each P loops (λ k there. all k (suc there.0, (let inside : there.0 < length loops = there.1 in omega arith), there.2)),
)

-- prices, counted oftener, are more
pub priced-more : (u v s t : Loop → ℕ) (loops : List Loop) (prices : List ℕ) → OfEach (λ l. u l + s l ≤ v l + t l) loops → priced u loops prices + priced s loops prices ≤ priced v loops prices + priced t loops prices
priced-more u v s t [] prices h = omega arith
priced-more u v s t (l ∷ loops) [] h = omega arith
priced-more u v s t (l ∷ loops) (p ∷ prices) h =
    let here : p * (u l + s l) ≤ p * (v l + t l) = mul-le-mul_left p h.0 in
    let rest : priced u loops prices + priced s loops prices ≤ priced v loops prices + priced t loops prices = priced-more u v s t loops prices h.1 in
    sum_of p (u l) (v l) (s l) (t l) (priced u loops prices) (priced v loops prices) (priced s loops prices) (priced t loops prices) here rest
  where
    sum_of : (p u v s t a b c d : ℕ) → p * (u + s) ≤ p * (v + t) → a + c ≤ b + d → (u * p + a) + (s * p + c) ≤ (v * p + b) + (t * p + d)
    sum_of p u v s t a b c d here rest = omega arith

-- what a begin takes from a loop, with what it gives back to its count
turn-cases : (among same : Bool) (most turns : ℕ) → (same ≡ true → 0 < turns) → (if among then most else if same then turns - 1 else turns) + (if same then 1 else 0) ≤ turns + (if among then most else 0)
turn-cases true true most turns some = let one : 0 < turns = some refl in omega arith
turn-cases true false most turns some = omega arith
turn-cases false true most turns some = let one : 0 < turns = some refl in omega arith
turn-cases false false most turns some = omega arith

same-head : (a b : ℕ) → (a == b) ≡ true → a ≡ b
same-head a b h = grind (arith, common_steps)

pub turn : (l : Loop) (a turns : ℕ) → (l.head ≡ a → 0 < turns) → turns_after l (Some a) turns + begins_at a l ≤ turns + turns_at a l
turn l a turns some = turn-cases (is_among l.per.items a) (l.head == a) l.most turns (λ h. some (same-head l.head a h))
