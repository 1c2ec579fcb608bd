-- Help on the commands: the lines of rows of strings, and those of some of them.
use Rattle.std.proofs.Common.{◌≡◌, ℕ, Bool, true, false, List, [], ◌∷◌, cond, Result, Ok, Err, map, refl, sym, ◌∙◌, ap}
use Rattle.std.specs.Prelude.{IfOk, flat_map}
use Rattle.std.specs.List.{filter}
use Rattle.std.proofs.lemmas.List.Folds.{flat_map-map}

filter-one : {A B : Type 0} (b : Bool) (f : A → B) (row : A) (kept : List A) (all : List B) → map f kept ≡ all → map f (cond b (row ∷ kept) kept) ≡ cond b (f row ∷ all) all
filter-one {A} {B} true f row kept all e = ap (λ (l : List B). f row ∷ l) e
filter-one false f row kept all e = e

filter-map : {A B : Type 0} (p : B → Bool) (f : A → B) (rows : List A) → map f (filter (λ row. p (f row)) rows) ≡ filter p (map f rows)
filter-map p f [] = refl
filter-map {A} {B} p f (row ∷ rows) = filter-one (p (f row)) f row (filter (λ (r : A). p (f r)) rows) (filter p (map f rows)) (filter-map p f rows)

-- the same text, where there is one
pub ok-same : {A E : Type 0} (items : A → List ℕ) (r : Result A E) (a b : List ℕ) → a ≡ b → IfOk r (λ t. items t ≡ a) → IfOk r (λ t. items t ≡ b)
ok-same items (Ok t) a b e h = h ∙ e
ok-same items (Err w) a b e h = h

pub lines-of-all : {A : Type 0} (f : A → List ℕ × List ℕ) (rows : List A) (all : List (List ℕ × List ℕ)) → map f rows ≡ all → flat_map (λ row. (f row).1) rows ≡ flat_map (λ row. row.1) all
lines-of-all f rows all e = sym (flat_map-map (λ (row : List ℕ × List ℕ). row.1) f rows) ∙ ap (flat_map (λ (row : List ℕ × List ℕ). row.1)) e

pub lines-of-some : {A : Type 0} (p : List ℕ × List ℕ → Bool) (f : A → List ℕ × List ℕ) (rows : List A) (all : List (List ℕ × List ℕ)) → map f rows ≡ all →
    flat_map (λ row. (f row).1) (filter (λ row. p (f row)) rows) ≡ flat_map (λ row. row.1) (filter p all)
lines-of-some p f rows all e = lines-of-all f (filter (λ row. p (f row)) rows) (filter p all) (filter-map p f rows ∙ ap (filter p) e)
