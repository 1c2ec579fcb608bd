-- Names, by their texts.
use Rattle.std.proofs.Common.{◌≡◌, ℕ, ◌+◌, Bool, ◌||◌, List, [], ◌∷◌, Some, cond, map, refl, ap}
use Rattle.std.specs.List.{position_from, list_any}

pub position-map : {A B : Type 0} (f : A → B) (p : B → Bool) (n : ℕ) (xs : List A) → position_from p n (map f xs) ≡ position_from (λ x. p (f x)) n xs
position-map f p n [] = refl
position-map f p n (x ∷ xs) = ap (λ r. cond (p (f x)) (Some n) r) (position-map f p (n + 1) xs)

pub list_any-by : {A B : Type 0} (f : A → B) (p : B → Bool) (xs : List A) → list_any p (map f xs) ≡ list_any (λ x. p (f x)) xs
list_any-by f p [] = refl
list_any-by f p (x ∷ xs) = ap (λ r. p (f x) || r) (list_any-by f p xs)
