-- The least code of the names of a list, one name at a time.
use Rattle.std.proofs.Common.{◌≡◌, arith, ℕ, suc, ◌+◌, ◌<◌, ◌≤◌, List, [], ◌∷◌, length, drop, get_or, sym, ap, ◌∙◌}
use Rattle.std.specs.Prelude.{Option}
use Rattle.std.proofs.Math.Seq.{drop-cons}
use Rattle.std.proofs.lemmas.List.{drop_all}
use Rattle.std.specs.List.{flat_map}
use Rattle.kc_lex.specs.Codes.{lesser_number}
use Rattle.kc_asm_emit.specs.Faults.{least}
use Rattle.kc_asm_emit.proofs.FaultLemmas.{lesser_assoc, lesser_none, least_append}

one_more : {X : Type 0} (f : X → List ℕ) (x : X) (xs : List X) (code : Option ℕ)
    → lesser_number (lesser_number code (least (f x))) (least (flat_map f xs)) ≡ lesser_number code (least (flat_map f (x ∷ xs)))
one_more f x xs code = lesser_assoc code (least (f x)) (least (flat_map f xs)) ∙ sym (ap (lesser_number code) (least_append (f x) (flat_map f xs)))

pub prefix_of : {X : Type 0} (xs : List X) (i : ℕ) (none x : X) → i < length xs → x ≡ get_or xs i none → drop i xs ≡ x ∷ drop (i + 1) xs
prefix_of xs i none x small e =
    let next : suc i ≡ i + 1 = omega arith in
    drop-cons xs i none small ∙ ap (λ d. d ∷ drop (suc i) xs) (sym e) ∙ ap (λ n. x ∷ drop n xs) next

none_left : (code : Option ℕ) → lesser_number code (least []) ≡ code
unfolding least
none_left code = lesser_none code

-- the least code of those before the i-th, and then that of the i-th too
pub advances : {X : Type 0} (f : X → List ℕ) (xs : List X) (i : ℕ) (x : X) (code next whole : Option ℕ)
    → i < length xs → x ≡ get_or xs i x → next ≡ lesser_number code (least (f x))
    → lesser_number code (least (flat_map f (drop i xs))) ≡ whole → lesser_number next (least (flat_map f (drop (i + 1) xs))) ≡ whole
advances f xs i x code next whole small is e so_far =
    ap (λ n. lesser_number n (least (flat_map f (drop (i + 1) xs)))) e
    ∙ one_more f x (drop (i + 1) xs) code
    ∙ sym (ap (λ ys. lesser_number code (least (flat_map f ys))) (prefix_of xs i x x small is))
    ∙ so_far

pub ends : {X : Type 0} (f : X → List ℕ) (xs : List X) (i : ℕ) (code whole : Option ℕ)
    → length xs ≤ i → lesser_number code (least (flat_map f (drop i xs))) ≡ whole → code ≡ whole
ends f xs i code whole past so_far =
    sym (none_left code)
    ∙ sym (ap (λ ys. lesser_number code (least (flat_map f ys))) (drop_all i xs past))
    ∙ so_far
