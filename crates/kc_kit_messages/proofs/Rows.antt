-- The row of a code among rows.
use Rattle.std.proofs.Common.{◌≡◌, ℕ, Bool, true, false, cond, ◌||◌, Option, Some, None, List, [], ◌∷◌, ◌++◌, map, refl, sym, ap, subst, ◌∙◌}
use Rattle.std.specs.Prelude.{find}
use Rattle.std.specs.Option.{option_map, option_or}
use Rattle.std.proofs.lemmas.List.Folds.{find-append}
use Rattle.std.proofs.lemmas.Slice.Eq.{bytes_eq-Decides}
use Rattle.kc_kit_messages.specs.Meanings.{Said, code_of, has_code, said_of, is_among, IsAnswer}

behind : (x : Said) (names : List (List ℕ)) (code : List ℕ) (o : Option Said) → has_code code x ≡ false → IsAnswer names code o → IsAnswer (code_of x ∷ names) code o
behind x names code (Some row) other h = (h.0, ap (λ b. b || is_among code names) other ∙ h.1)
behind x names code None other h = ap (λ b. b || is_among code names) other ∙ h

found_in : (code : List ℕ) (rows : List Said) → IsAnswer (map code_of rows) code (find (has_code code) rows)
found_in code [] = refl
found_in code (x ∷ rows) = by_test (found_in code rows) (has_code code x) refl
  where
    by_test : IsAnswer (map code_of rows) code (find (has_code code) rows) → (b : Bool) → has_code code x ≡ b → IsAnswer (code_of x ∷ map code_of rows) code (cond b (Some x) (find (has_code code) rows))
    by_test rest true is = ((bytes_eq-Decides (code_of x) code).0 is, ap (λ b. b || is_among code (map code_of rows)) is)
    by_test rest false is = behind x (map code_of rows) code (find (has_code code) rows) is rest

-- what is found among rows with these codes
pub answer : (names : List (List ℕ)) (rows : List Said) (o : Option Said) (code : List ℕ) → map code_of rows ≡ names → o ≡ find (has_code code) rows → IsAnswer names code o
answer names rows o code are is = subst (λ ns. IsAnswer ns code o) are (subst (IsAnswer (map code_of rows) code) (sym is) (found_in code rows))

-- the first of mapped elements is the mapped first
pub find-mapped : {X Y : Type 0} (f : X → Y) (p : Y → Bool) (xs : List X) → find p (map f xs) ≡ option_map f (find (λ x. p (f x)) xs)
find-mapped f p [] = refl
find-mapped f p (x ∷ xs) = by_test (find-mapped f p xs) (p (f x))
  where
    by_test : find p (map f xs) ≡ option_map f (find (λ x. p (f x)) xs) → (b : Bool) → cond b (Some (f x)) (find p (map f xs)) ≡ option_map f (cond b (Some x) (find (λ x. p (f x)) xs))
    by_test rest true = refl
    by_test rest false = rest

-- what is found among elements that say some rows
pub part : {X : Type 0} (f : X → Said) (code : List ℕ) (xs : List X) (o : Option X) (rows : List Said) → map f xs ≡ rows → o ≡ find (λ x. has_code code (f x)) xs → option_map f o ≡ find (has_code code) rows
part f code xs o rows all e = ap (option_map f) e ∙ sym (find-mapped f (has_code code) xs) ∙ ap (find (has_code code)) all

or-mapped : {X : Type 0} (f : X → Said) (o p : Option X) → option_map f (option_or o p) ≡ option_or (option_map f o) (option_map f p)
or-mapped f None p = refl
or-mapped f (Some x) p = refl

-- what is found in a part, else in the others
pub join : {X : Type 0} (f : X → Said) (code : List ℕ) (xs : List X) (a b o : Option X) (rows rest : List Said)
    → map f xs ≡ rows → a ≡ find (λ x. has_code code (f x)) xs → option_map f b ≡ find (has_code code) rest → o ≡ option_or a b → option_map f o ≡ find (has_code code) (rows ++ rest)
join f code xs a b o rows rest all here there is =
    ap (option_map f) is ∙ or-mapped f a b ∙ (λ k. option_or (part f code xs a rows all here k) (there k)) ∙ sym (find-append (has_code code) rows rest)
