-- What a search finds among items in their order.
use Rattle.std.proofs.Common.{◌≡◌, ℕ, zero, suc, ◌-◌, ◌<◌, ◌≤◌, true, false, leb, List, [], ◌∷◌, length, take, get_or, refl, ◌∙◌, ap, arith}
use Rattle.std.specs.List.Sorted.{IsPartitionPoint}
use Rattle.kc_base.specs.Series.{up_to, last_of}

-- the first n of a list are those up to a state, where a search ended
up_to-take : {X : Type 0} (time : X → ℕ) (xs : List X) (n t : ℕ) → ((k : ℕ) (d : X) → k < n → k < length xs → leb (time (get_or xs k d)) t ≡ true) →
    ((k : ℕ) (d : X) → n ≤ k → k < length xs → leb (time (get_or xs k d)) t ≡ false) → up_to time t xs ≡ take n xs
up_to-take time [] zero t low high = refl
up_to-take time [] (suc n) t low high = refl
up_to-take time (x ∷ xs) zero t low high =
    let off : leb (time x) t ≡ false = high 0 x (omega arith) (omega arith) in
    rw off (up_to-take time xs zero t (λ k d lt within. absurd (omega arith)) (λ k d le within. high (suc k) d (omega arith) (omega arith)))
up_to-take time (x ∷ xs) (suc n) t low high =
    let on : leb (time x) t ≡ true = low 0 x (omega arith) (omega arith) in
    rw on (ap (λ ys. x ∷ ys) (up_to-take time xs n t (λ k d lt within. low (suc k) d (omega arith) (omega arith)) (λ k d le within. high (suc k) d (omega arith) (omega arith))))

pub last_of-take : {X V : Type 0} (value : X → V) (xs : List X) (n : ℕ) (d : X) (before : V) → n < length xs → last_of value (take (suc n) xs) before ≡ value (get_or xs n d)
last_of-take value [] n d before lt = absurd (omega arith)
last_of-take value (x ∷ xs) zero d before lt = refl
last_of-take value (x ∷ xs) (suc n) d before lt = last_of-take value xs n d (value x) (omega arith)

-- where a search for the end of the items up to a state ended
abbrev pub EndsAt : {X : Type 0} → (X → ℕ) → List X → ℕ → ℕ → Type 0
EndsAt time xs t n = IsPartitionPoint (λ x. leb (time x) t ≡ true) (λ x. leb (time x) t ≡ false) xs n

pub found_prefix : {X : Type 0} (time : X → ℕ) (xs : List X) (n t : ℕ) → EndsAt time xs t n → up_to time t xs ≡ take n xs
found_prefix time xs n t point = up_to-take time xs n t (λ k d lt within. point.0 k d (omega arith) lt) (λ k d le within. point.1 k d le within)

-- it ended at once: nothing was left before
pub found_none : {X V : Type 0} (time : X → ℕ) (value : X → V) (xs : List X) (n t : ℕ) (before : V) → EndsAt time xs t n → n ≡ 0 → last_of value (up_to time t xs) before ≡ before
found_none time value xs n t before point none = ap (λ ys. last_of value ys before) (found_prefix time xs n t point ∙ ap (λ k. take k xs) none)

-- the item before its end brings the value that stands
pub found_last : {X V : Type 0} (time : X → ℕ) (value : X → V) (xs : List X) (n t : ℕ) (d : X) (before : V) → EndsAt time xs t n → 0 < n → n ≤ length xs →
    last_of value (up_to time t xs) before ≡ value (get_or xs (n - 1) d)
found_last time value xs n t d before point some within =
    let more : n ≡ suc (n - 1) = omega arith in
    ap (λ ys. last_of value ys before) (found_prefix time xs n t point ∙ ap (λ k. take k xs) more) ∙ last_of-take value xs (n - 1) d before (omega arith)
