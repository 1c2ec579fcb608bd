-- Arguments and lists of names, as loops find them.
use Rattle.std.proofs.Common.{Bool, ◌≡◌, ℕ, suc, true, false, cond, ◌&&◌, ◌==◌, List, [], ◌∷◌, ◌++◌, map, Option, Some, None, refl, sym, ap, ◌∙◌, append_assoc, drop, ◌<◌, length, get_or, drop-cons, add-one, ◌+◌, arith}
use Rattle.std.proofs.lemmas.List.{append-nil}
use Rattle.kc_lex.specs.declared.token.Token.{Token}
use Rattle.kc_lex.specs.Kinds.{is_sign, is_free_name}
use Rattle.kc_lex.specs.Lists.{in_first}
use Rattle.kc_macro_body.specs.Arguments.{group_depth, split_at_commas, ungrouped, closes, is_nothing, arguments, names_at, in_front}

-- ---- arguments

-- some tokens in front of the first argument
abbrev pub with_last : List Token → List (List Token) → List (List Token)
with_last ts [] = ts ∷ []
with_last ts (a ∷ rest) = (ts ++ a) ∷ rest

regroup : (last : List Token) (t : Token) (xs : List (List Token)) → with_last last (in_first t xs) ≡ with_last (last ++ t ∷ []) xs
regroup last t [] = refl
regroup last t (a ∷ rest) = ap (λ (ts : List Token). ts ∷ rest) (sym (append_assoc last (t ∷ []) a))

none_last : (t : Token) (xs : List (List Token)) → with_last [] (in_first t xs) ≡ in_first t xs
none_last t [] = refl
none_last t (a ∷ rest) = refl

pub split_start : (d : ℕ) (ts : List Token) → with_last [] (split_at_commas d ts) ≡ split_at_commas d ts
unfolding split_at_commas
split_start d [] = refl
split_start d (t ∷ ts) =
    elim (is_sign 44 t && (d == 0)) as (λ b. with_last [] (cond b ([] ∷ split_at_commas d ts) (in_first t (split_at_commas (group_depth t d) ts))) ≡ cond b ([] ∷ split_at_commas d ts) (in_first t (split_at_commas (group_depth t d) ts))) [
      | true ↦ refl
      | false ↦ none_last t (split_at_commas (group_depth t d) ts)
    ]

pub split_comma : (d : ℕ) (t : Token) (ts rest last : List Token) (texts all : List (List Token)) → rest ≡ t ∷ ts → (is_sign 44 t && (d == 0)) ≡ true → texts ++ map ungrouped (with_last last (split_at_commas d rest)) ≡ all
    → (texts ++ ungrouped last ∷ []) ++ map ungrouped (with_last [] (split_at_commas d ts)) ≡ all
unfolding split_at_commas
split_comma d t ts rest last texts all e h so_far =
    let one : split_at_commas d rest ≡ [] ∷ split_at_commas d ts = ap (split_at_commas d) e ∙ rw h refl in
    append_assoc texts (ungrouped last ∷ []) (map ungrouped (with_last [] (split_at_commas d ts))) ∙ ap (λ (xs : List (List Token)). texts ++ ungrouped last ∷ map ungrouped xs) (split_start d ts)
    ∙ ap (λ (l : List Token). texts ++ ungrouped l ∷ map ungrouped (split_at_commas d ts)) (sym (append-nil last)) ∙ ap (λ xs. texts ++ map ungrouped (with_last last xs)) (sym one) ∙ so_far

pub split_more : (d : ℕ) (t : Token) (ts rest last : List Token) (texts all : List (List Token)) → rest ≡ t ∷ ts → (is_sign 44 t && (d == 0)) ≡ false → texts ++ map ungrouped (with_last last (split_at_commas d rest)) ≡ all
    → texts ++ map ungrouped (with_last (last ++ t ∷ []) (split_at_commas (group_depth t d) ts)) ≡ all
unfolding split_at_commas
split_more d t ts rest last texts all e h so_far =
    let one : split_at_commas d rest ≡ in_first t (split_at_commas (group_depth t d) ts) = ap (split_at_commas d) e ∙ rw h refl in
    ap (λ xs. texts ++ map ungrouped xs) (sym (regroup last t (split_at_commas (group_depth t d) ts))) ∙ ap (λ xs. texts ++ map ungrouped (with_last last xs)) (sym one) ∙ so_far

pub split_end : (d : ℕ) (last : List Token) (texts all : List (List Token)) → texts ++ map ungrouped (with_last last (split_at_commas d [])) ≡ all → texts ++ ungrouped last ∷ [] ≡ all
unfolding split_at_commas
split_end d last texts all h = ap (λ (l : List Token). texts ++ ungrouped l ∷ []) (sym (append-nil last)) ∙ h

-- ---- groups

pub closes_end : (d : ℕ) (t : Token) (ts rest : List Token) (all : Bool) → rest ≡ t ∷ ts → (group_depth t d == 0) ≡ true → closes d rest ≡ all → is_nothing ts ≡ all
unfolding closes
closes_end d t ts rest all e h so_far = sym (ap (closes d) e ∙ rw h refl) ∙ so_far

pub closes_more : (d : ℕ) (t : Token) (ts rest : List Token) (all : Bool) → rest ≡ t ∷ ts → (group_depth t d == 0) ≡ false → closes d rest ≡ all → closes (group_depth t d) ts ≡ all
unfolding closes
closes_more d t ts rest all e h so_far = sym (ap (closes d) e ∙ rw h refl) ∙ so_far

pub closes_none : (d : ℕ) (rest : List Token) (all : Bool) → rest ≡ [] → closes d rest ≡ all → false ≡ all
unfolding closes
closes_none d rest all e so_far = sym (ap (closes d) e) ∙ so_far

-- ---- names

abbrev pub after_names : List (List ℕ) → Option (List (List ℕ)) → Option (List (List ℕ))
after_names prefix None = None
after_names prefix (Some ns) = Some (prefix ++ ns)

names_regroup : (prefix : List (List ℕ)) (n : List ℕ) (o : Option (List (List ℕ))) → after_names prefix (in_front n o) ≡ after_names (prefix ++ n ∷ []) o
names_regroup prefix n None = refl
names_regroup prefix n (Some ns) = ap (λ (xs : List (List ℕ)). Some xs) (sym (append_assoc prefix (n ∷ []) ns))

pub names_start : (o : Option (List (List ℕ))) → after_names [] o ≡ o
names_start None = refl
names_start (Some ns) = refl

pub names_stop : (prefix : List (List ℕ)) (t : Token) (ts rest : List Token) (all : Option (List (List ℕ))) → rest ≡ t ∷ ts → is_free_name t ≡ false → after_names prefix (names_at rest) ≡ all → None ≡ all
unfolding names_at
names_stop prefix t [] rest all e h so_far = sym (ap (λ ts. after_names prefix (names_at ts)) e ∙ rw h refl) ∙ so_far
names_stop prefix t (u ∷ ts) rest all e h so_far = sym (ap (λ ts. after_names prefix (names_at ts)) e ∙ rw h refl) ∙ so_far

pub names_last : (prefix : List (List ℕ)) (t : Token) (rest : List Token) (all : Option (List (List ℕ))) → rest ≡ t ∷ [] → is_free_name t ≡ true → after_names prefix (names_at rest) ≡ all → Some (prefix ++ t.text ∷ []) ≡ all
unfolding names_at
names_last prefix t rest all e h so_far = sym (ap (λ ts. after_names prefix (names_at ts)) e ∙ rw h refl) ∙ so_far

pub names_bad : (prefix : List (List ℕ)) (t u : Token) (ts rest : List Token) (all : Option (List (List ℕ))) → rest ≡ t ∷ u ∷ ts → is_free_name t ≡ true → is_sign 44 u ≡ false → after_names prefix (names_at rest) ≡ all → None ≡ all
unfolding names_at
names_bad prefix t u ts rest all e h k so_far = sym (ap (λ ts. after_names prefix (names_at ts)) e ∙ rw (h, k) refl) ∙ so_far

pub names_more : (prefix : List (List ℕ)) (t u : Token) (ts rest : List Token) (all : Option (List (List ℕ))) → rest ≡ t ∷ u ∷ ts → is_free_name t ≡ true → is_sign 44 u ≡ true → after_names prefix (names_at rest) ≡ all
    → after_names (prefix ++ t.text ∷ []) (names_at ts) ≡ all
unfolding names_at
names_more prefix t u ts rest all e h k so_far = sym (ap (λ ts. after_names prefix (names_at ts)) e ∙ rw (h, k) (names_regroup prefix t.text (names_at ts))) ∙ so_far

pub names_none : (prefix : List (List ℕ)) (rest : List Token) (all : Option (List (List ℕ))) → rest ≡ [] → after_names prefix (names_at rest) ≡ all → None ≡ all
unfolding names_at
names_none prefix rest all e so_far = sym (ap (λ ts. after_names prefix (names_at ts)) e) ∙ so_far

pub prefix_of : {A : Type 0} (xs : List A) (i : ℕ) (x : A) → i < length xs → x ≡ get_or xs i x → drop i xs ≡ x ∷ drop (i + 1) xs
prefix_of xs i x h e = rw add-one (drop-cons xs i x h ∙ ap (λ y. y ∷ drop (suc i) xs) (sym e))

pub arguments_some : (ts : List Token) → 0 < length ts → map ungrouped (split_at_commas 0 ts) ≡ arguments ts
arguments_some [] h = absurd (omega arith)
arguments_some (t ∷ ts) h = refl
