-- Lines with their parameters replaced and their names joined, as loops find them.
use Rattle.std.proofs.Common.{◌≡◌, ℕ, true, false, List, [], ◌∷◌, ◌++◌, Option, Some, None, refl, sym, ap, ◌∙◌, append_assoc}
use Rattle.std.proofs.lemmas.List.{append-nil}
use Rattle.kc_lex.specs.declared.token.Token.{Token}
use Rattle.kc_macro_body.specs.declared.macros.Formals.{Formals}
use Rattle.kc_macro_body.specs.Filling.{stands_for, replaced, is_join, one_name, before, joined_on, joined_with}

pub replaced_more : (f : Formals) (args : List (List Token)) (given : ℕ) (t : Token) (ts rest line more all : List Token) → rest ≡ t ∷ ts → more ≡ line ++ stands_for f args given t → line ++ replaced f args given rest ≡ all
    → more ++ replaced f args given ts ≡ all
unfolding replaced
replaced_more f args given t ts rest line more all e m h =
    ap (λ xs. xs ++ replaced f args given ts) m ∙ append_assoc line (stands_for f args given t) (replaced f args given ts)
    ∙ ap (λ (xs : List Token). line ++ replaced f args given xs) (sym e) ∙ h

pub replaced_end : (f : Formals) (args : List (List Token)) (given : ℕ) (line rest all : List Token) → rest ≡ [] → line ++ replaced f args given rest ≡ all → line ≡ all
unfolding replaced
replaced_end f args given line rest all e h = sym (ap (λ xs. line ++ replaced f args given xs) e ∙ append-nil line) ∙ h

-- ---- joining

-- some tokens in front
abbrev pub after_line : List Token → Option (List Token) → Option (List Token)
after_line line None = None
after_line line (Some ts) = Some (line ++ ts)

regroup : (line : List Token) (t : Token) (o : Option (List Token)) → after_line line (before t o) ≡ after_line (line ++ t ∷ []) o
regroup line t None = refl
regroup line t (Some ts) = ap (λ (xs : List Token). Some xs) (sym (append_assoc line (t ∷ []) ts))

pub joined_start : (o : Option (List Token)) → after_line [] o ≡ o
joined_start None = refl
joined_start (Some ts) = refl

pub joined_more : (line : List Token) (t a : Token) (ts rest : List Token) (all : Option (List Token)) → rest ≡ a ∷ ts → is_join a ≡ false → after_line line (joined_on t rest) ≡ all → after_line (line ++ t ∷ []) (joined_on a ts) ≡ all
unfolding joined_on
joined_more line t a ts rest all e h so_far = sym (ap (λ xs. after_line line (joined_on t xs)) e ∙ rw h (regroup line t (joined_on a ts))) ∙ so_far

pub joined_open : (line : List Token) (t a : Token) (rest : List Token) (all : Option (List Token)) → rest ≡ a ∷ [] → is_join a ≡ true → after_line line (joined_on t rest) ≡ all → None ≡ all
unfolding joined_on joined_with
joined_open line t a rest all e h so_far = sym (ap (λ xs. after_line line (joined_on t xs)) e ∙ rw h refl) ∙ so_far

pub joined_wrong : (line : List Token) (t a u : Token) (ts rest : List Token) (all : Option (List Token)) → rest ≡ a ∷ u ∷ ts → is_join a ≡ true → None ≡ one_name (t.text ++ u.text) → after_line line (joined_on t rest) ≡ all → None ≡ all
unfolding joined_on joined_with
joined_wrong line t a u ts rest all e h wrong so_far = sym (ap (λ xs. after_line line (joined_on t xs)) e ∙ rw (h, ← wrong) refl) ∙ so_far

pub joined_name : (line : List Token) (t a u n : Token) (ts rest : List Token) (all : Option (List Token)) → rest ≡ a ∷ u ∷ ts → is_join a ≡ true → Some n ≡ one_name (t.text ++ u.text) → after_line line (joined_on t rest) ≡ all
    → after_line line (joined_on n ts) ≡ all
unfolding joined_on joined_with
joined_name line t a u n ts rest all e h is so_far = sym (ap (λ xs. after_line line (joined_on t xs)) e ∙ rw (h, ← is) refl) ∙ so_far

pub joined_end : (line : List Token) (t : Token) (rest : List Token) (all : Option (List Token)) → rest ≡ [] → after_line line (joined_on t rest) ≡ all → Some (line ++ t ∷ []) ≡ all
unfolding joined_on
joined_end line t rest all e so_far = sym (ap (λ xs. after_line line (joined_on t xs)) e) ∙ so_far
