-- The least of some codes.
use Rattle.std.proofs.Common.{◌≡◌, arith, ℕ, suc, ◌+◌, ◌<◌, ◌≤◌, List, [], ◌∷◌, ◌++◌, length, map, drop, get_or, refl, sym, ap, ◌∙◌}
use Rattle.std.specs.Prelude.{min, Option, Some, None}
use Rattle.std.specs.Option.{option_to_list}
use Rattle.std.proofs.Math.Seq.{drop-cons}
use Rattle.std.proofs.lemmas.List.{drop_all}
use Rattle.std.specs.List.{flat_map}
use Rattle.kc_lex.specs.Codes.{lesser_number}
use Rattle.kc_asm_emit.specs.Faults.{least}

min_assoc : (a b c : ℕ) → min (min a b) c ≡ min a (min b c)
min_assoc a b c = grind arith

pub lesser_assoc : (a b c : Option ℕ) → lesser_number (lesser_number a b) c ≡ lesser_number a (lesser_number b c)
lesser_assoc None b c = refl
lesser_assoc (Some m) None c = refl
lesser_assoc (Some m) (Some n) None = refl
lesser_assoc (Some m) (Some n) (Some k) = ap Some (min_assoc m n k)

pub lesser_none : (a : Option ℕ) → lesser_number a None ≡ a
lesser_none None = refl
lesser_none (Some m) = refl

pub least_append : (xs ys : List ℕ) → least (xs ++ ys) ≡ lesser_number (least xs) (least ys)
unfolding least
least_append [] ys = refl
least_append (x ∷ xs) ys = ap (lesser_number (Some x)) (least_append xs ys) ∙ sym (lesser_assoc (Some x) (least xs) (least ys))

pub least_option : (a : Option ℕ) → least (option_to_list a) ≡ a
unfolding least
least_option None = refl
least_option (Some m) = refl

pub least_none : least [] ≡ None
unfolding least
least_none = refl

-- the codes so far, with those of the next part
goes_on : {X : Type 0} (f : X → List ℕ) (x : X) (xs : List X) (code : Option ℕ)
    → lesser_number (lesser_number code (least (f x))) (least (flat_map f xs)) ≡ lesser_number code (least (flat_map f (x ∷ xs)))
goes_on f x xs code = lesser_assoc code (least (f x)) (least (flat_map f xs)) ∙ sym (ap (lesser_number code) (least_append (f x) (flat_map f xs)))

prefix_of : {X : Type 0} (xs : List X) (i : ℕ) (x : X) → i < length xs → x ≡ get_or xs i x → drop i xs ≡ x ∷ drop (i + 1) xs
prefix_of xs i x small e =
    let next : suc i ≡ i + 1 = omega arith in
    drop-cons xs i x small ∙ ap (λ d. d ∷ drop (suc i) xs) (sym e) ∙ ap (λ n. x ∷ drop n xs) next

-- the least code of the parts before the i-th, and then that of the i-th too
pub advances : {X Y : Type 0} (f : Y → List ℕ) (t : X → Y) (xs : List X) (i : ℕ) (x : X) (code next whole : Option ℕ)
    → i < length xs → x ≡ get_or xs i x → next ≡ lesser_number code (least (f (t x)))
    → lesser_number code (least (flat_map f (map t (drop i xs)))) ≡ whole → lesser_number next (least (flat_map f (map t (drop (i + 1) xs)))) ≡ whole
advances f t xs i x code next whole small is e so_far =
    ap (λ n. lesser_number n (least (flat_map f (map t (drop (i + 1) xs))))) e
    ∙ goes_on f (t x) (map t (drop (i + 1) xs)) code
    ∙ sym (ap (λ ys. lesser_number code (least (flat_map f (map t ys)))) (prefix_of xs i x small is))
    ∙ so_far

pub ends : {X Y : Type 0} (f : Y → List ℕ) (t : X → Y) (xs : List X) (i : ℕ) (code whole : Option ℕ)
    → length xs ≤ i → lesser_number code (least (flat_map f (map t (drop i xs)))) ≡ whole → code ≡ whole
ends f t xs i code whole past so_far =
    sym (lesser_none code) ∙ sym (ap (lesser_number code) least_none)
    ∙ sym (ap (λ ys. lesser_number code (least (flat_map f (map t ys)))) (drop_all i xs past))
    ∙ so_far
