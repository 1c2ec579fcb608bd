-- What prices come to.
use Rattle.std.proofs.Common.{◌≡◌, ℕ, ◌+◌, ◌*◌, ◌^◌, ◌<◌, ◌≤◌, Bool, true, false, Option, Some, None, List, [], ◌∷◌, length, refl, inl, inr, arith}
use Rattle.std.specs.Prelude.{◌==◌, if◌then◌else◌, SomeIff}
use Rattle.std.specs.List.{All}
use Rattle.std.proofs.lemmas.List.Elements.{All-head, All-tail}
use Rattle.std.proofs.lemmas.Bool.{cases_lt}
use Rattle.kc_bound.specs.declared.notes.Loop.{Loop}
use Rattle.kc_bound.specs.Certified.{priced, begins_at}

once : (b : Bool) (p : ℕ) → (if b then 1 else 0) * p ≤ p
once true p = omega arith
once false p = omega arith

-- what begins at an address has at most each price once
pub begins_within : (a : ℕ) (loops : List Loop) (prices : List ℕ) → All (λ p. p < 2 ^ 64) prices → priced (begins_at a) loops prices ≤ 2 ^ 64 * length prices
begins_within a [] prices h = omega arith
begins_within a (l ∷ loops) [] h = omega arith
begins_within a (l ∷ loops) (p ∷ prices) h =
    let rest = begins_within a loops prices (All-tail (λ q. q < 2 ^ 64) p prices h) in
    let here : p < 2 ^ 64 = All-head (λ q. q < 2 ^ 64) p prices h in
    omega (arith, once (l.head == a) p)

-- where the loops or the prices are at an end, nothing is left to add
pub none_left : (times : Loop → ℕ) (loops : List Loop) (prices : List ℕ) → length loops < 1 → priced times loops prices ≡ 0
none_left times [] prices h = refl
none_left times (l ∷ loops) prices h = absurd (omega arith)

pub no_prices : (times : Loop → ℕ) (loops : List Loop) (prices : List ℕ) → length prices < 1 → priced times loops prices ≡ 0
no_prices times [] prices h = refl
no_prices times (l ∷ loops) [] h = refl
no_prices times (l ∷ loops) (price ∷ prices) h = absurd (omega arith)

pub ended : (sum rest total : ℕ) → sum < 2 ^ 128 → sum + rest ≡ total → rest ≡ 0 → (total < 2 ^ 128) × (sum ≡ total)
ended sum rest total low h e = (omega arith, omega arith)

-- a sum that is not given has more than 128 bits
pub is_over : (found : Option ℕ) (sum : ℕ) → SomeIff found (sum < 2 ^ 128) sum → ((x : ℕ) → found ≡ Some x → ⊥) → 2 ^ 128 ≤ sum
is_over None sum s n = elim (cases_lt sum (2 ^ 128)) [ inl under ↦ absurd (s under) | inr over ↦ over ]
is_over (Some x) sum s n = absurd (n x refl)
