-- Lists with commas between, read from the left.
use Rattle.std.proofs.Common.{◌≡◌, ℕ, zero, suc, ◌+◌, ◌<◌, Bool, true, false, cond, not, List, [], ◌∷◌, ◌++◌, length, take, drop, Option, Some, None, refl, sym, ap, ◌∙◌, append_assoc, add-one, arith}
use Rattle.std.specs.Option.{option_map}
use Rattle.std.specs.List.{take_while}
use Rattle.std.proofs.lemmas.List.Sums.{take_while-cons}
use Rattle.std.proofs.Math.ListN.{drop_of_length-le}
use Rattle.kc_lex.specs.declared.token.Token.{Token}
use Rattle.kc_lex.specs.Kinds.{is_sign}
use Rattle.kc_lex.specs.Lists.{in_first}
use Rattle.kc_source_statement.specs.Operands.{parts, and_some, all_some}

abbrev pub no_comma : Token → Bool
no_comma t = not (is_sign 44 t)

-- the tokens before the first comma
abbrev prefix_of : List Token → List Token
prefix_of [] = []
prefix_of (t ∷ ts) = cond (is_sign 44 t) [] (t ∷ prefix_of ts)

prefix_is : (ts : List Token) → take_while no_comma ts ≡ prefix_of ts
prefix_is [] = refl
prefix_is (t ∷ ts) = take_while-cons no_comma t ts ∙ elim (is_sign 44 t) as (λ b. cond (not b) (t ∷ take_while no_comma ts) [] ≡ cond b [] (t ∷ prefix_of ts)) [ true ↦ refl | false ↦ ap (λ (w : List Token). t ∷ w) (prefix_is ts) ]

-- the parts behind the first, with what the text behind it begins
abbrev pub parts_behind : List Token → List (List Token)
parts_behind [] = []
parts_behind (t ∷ ts) = parts ts

prefix_part : (ts : List Token) → parts ts ≡ take (length (prefix_of ts)) ts ∷ parts_behind (drop (length (prefix_of ts)) ts)
unfolding parts
prefix_part [] = refl
prefix_part (t ∷ ts) =
    elim (is_sign 44 t) as (λ b. cond b ([] ∷ parts ts) (in_first t (parts ts)) ≡ take (length (cond b [] (t ∷ prefix_of ts))) (t ∷ ts) ∷ parts_behind (drop (length (cond b [] (t ∷ prefix_of ts))) (t ∷ ts))) [
      | true ↦ refl
      | false ↦ ap (in_first t) (prefix_part ts)
    ]

first_part : (ts : List Token) (n : ℕ) → n ≡ length (take_while no_comma ts) → parts ts ≡ take n ts ∷ parts_behind (drop n ts)
first_part ts n is = rw (is ∙ ap length (prefix_is ts)) (prefix_part ts)

rest_of : (ts : List Token) (n : ℕ) → n < length ts → parts_behind (drop n ts) ≡ parts (drop (suc n) ts)
rest_of [] n h = absurd (omega arith)
rest_of (t ∷ ts) zero h = refl
rest_of (t ∷ ts) (suc n) h = rest_of ts n (omega arith)

-- what is read, and what the rest says
abbrev pub after_some : {A : Type 0} → List A → Option (List A) → Option (List A)
after_some prefix o = option_map (λ xs. prefix ++ xs) o

pub after_nothing : {A : Type 0} (o : Option (List A)) → after_some [] o ≡ o
after_nothing None = refl
after_nothing (Some xs) = refl

regroup : {A : Type 0} (prefix : List A) (x : A) (o : Option (List A)) → after_some prefix (and_some (Some x) o) ≡ after_some (prefix ++ x ∷ []) o
regroup {A = A} prefix x None = refl
regroup {A = A} prefix x (Some xs) = ap (λ (v : List A). Some v) (sym (append_assoc prefix (x ∷ []) xs))

one_part : {A : Type 0} (read : List Token → Option A) (ts : List Token) (n : ℕ) (o : Option A) → n ≡ length (take_while no_comma ts) → read (take n ts) ≡ o → all_some read (parts ts) ≡ and_some o (all_some read (parts_behind (drop n ts)))
unfolding all_some
one_part read ts n o is says = rw (first_part ts n is, says) refl

nothing_said : {A : Type 0} (prefix : List A) (o : Option (List A)) → after_some prefix (and_some None o) ≡ None
nothing_said prefix o = refl

pub part_fails : {A : Type 0} (read : List Token → Option A) (prefix : List A) (ts : List Token) (n : ℕ) (all : Option (List A)) → n ≡ length (take_while no_comma ts) → read (take n ts) ≡ None → after_some prefix (all_some read (parts ts)) ≡ all → all ≡ None
part_fails read prefix ts n all is says so_far = sym so_far ∙ ap (after_some prefix) (one_part read ts n None is says)

pub last_part : {A : Type 0} (read : List Token → Option A) (prefix : List A) (x : A) (ts : List Token) (n : ℕ) (all : Option (List A)) → n ≡ length (take_while no_comma ts) → n ≡ length ts → read (take n ts) ≡ Some x → after_some prefix (all_some read (parts ts)) ≡ all → all ≡ Some (prefix ++ x ∷ [])
unfolding all_some
last_part read prefix x ts n all is ends says so_far =
    let none : parts_behind (drop n ts) ≡ [] = ap parts_behind (drop_of_length-le ts (omega arith)) in
    sym so_far ∙ ap (after_some prefix) (one_part read ts n (Some x) is says ∙ ap (λ ps. and_some (Some x) (all_some read ps)) none)

pub part_read : {A : Type 0} (read : List Token → Option A) (prefix : List A) (x : A) (ts : List Token) (n : ℕ) (all : Option (List A)) → n ≡ length (take_while no_comma ts) → n < length ts → read (take n ts) ≡ Some x → after_some prefix (all_some read (parts ts)) ≡ all → after_some (prefix ++ x ∷ []) (all_some read (parts (drop (n + 1) ts))) ≡ all
part_read read prefix x ts n all is more says so_far =
    let rest : parts_behind (drop n ts) ≡ parts (drop (n + 1) ts) = rw add-one (rest_of ts n more) in
    sym (regroup prefix x (all_some read (parts (drop (n + 1) ts)))) ∙ ap (λ ps. after_some prefix (and_some (Some x) (all_some read ps))) (sym rest) ∙ sym (ap (after_some prefix) (one_part read ts n (Some x) is says)) ∙ so_far
