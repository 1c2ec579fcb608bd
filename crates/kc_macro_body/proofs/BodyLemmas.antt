-- The lines of a body and their LOCAL names, as loops find them.
use Rattle.std.proofs.Common.{◌≡◌, ℕ, true, false, List, [], ◌∷◌, ◌++◌, Option, Some, None, refl, sym, ap, ◌∙◌, append_assoc, drop}
use Rattle.std.proofs.lemmas.List.{append-nil}
use Rattle.kc_lex.specs.declared.token.Token.{Token}
use Rattle.kc_macro_body.specs.declared.macros.Locals.{Locals}
use Rattle.kc_macro_body.specs.Words.{word_of}
use Rattle.kc_macro_body.specs.Arguments.{names_at}
use Rattle.kc_macro_body.specs.Bodies.{depth_after, declares, plain_lines, local_names, both, with_local, placed}

-- ---- lines

pub plain_passes : (d : ℕ) (l : List Token) (ls rest plain all : List (List Token)) → rest ≡ l ∷ ls → declares d l ≡ true → plain ++ plain_lines d rest ≡ all → plain ++ plain_lines d ls ≡ all
unfolding plain_lines
plain_passes d l ls rest plain all e h so_far = sym (ap (λ xs. plain ++ plain_lines d xs) e ∙ rw h refl) ∙ so_far

pub plain_keeps : (d : ℕ) (l : List Token) (ls rest plain all : List (List Token)) → rest ≡ l ∷ ls → declares d l ≡ false → plain ++ plain_lines d rest ≡ all → (plain ++ l ∷ []) ++ plain_lines (depth_after (word_of l) d) ls ≡ all
unfolding plain_lines
plain_keeps d l ls rest plain all e h so_far =
    append_assoc plain (l ∷ []) (plain_lines (depth_after (word_of l) d) ls) ∙ sym (ap (λ xs. plain ++ plain_lines d xs) e ∙ rw h refl) ∙ so_far

pub plain_end : (d : ℕ) (rest plain all : List (List Token)) → rest ≡ [] → plain ++ plain_lines d rest ≡ all → plain ≡ all
unfolding plain_lines
plain_end d rest plain all e so_far = sym (ap (λ xs. plain ++ plain_lines d xs) e ∙ append-nil plain) ∙ so_far

-- ---- names

both_assoc : (ms ns : List (List ℕ)) (o : Option (List (List ℕ))) → both (Some (ms ++ ns)) o ≡ both (Some ms) (both (Some ns) o)
both_assoc ms ns None = refl
both_assoc ms ns (Some os) = ap (λ (xs : List (List ℕ)). Some xs) (append_assoc ms ns os)

pub names_first : (o : Option (List (List ℕ))) → both (Some []) o ≡ o
names_first None = refl
names_first (Some ns) = refl

pub names_wrong : (d : ℕ) (l : List Token) (ls rest : List (List Token)) (found : List (List ℕ)) (all : Option (List (List ℕ))) → rest ≡ l ∷ ls → declares d l ≡ true → None ≡ names_at (drop 1 l)
    → both (Some found) (local_names d rest) ≡ all → None ≡ all
unfolding local_names
names_wrong d l ls rest found all e h none so_far =
    sym (ap (λ xs. both (Some found) (local_names d xs)) e ∙ rw h (ap (λ o. both (Some found) (both o (local_names d ls))) (sym none))) ∙ so_far

pub names_declared : (d : ℕ) (l : List Token) (ls rest : List (List Token)) (found more : List (List ℕ)) (all : Option (List (List ℕ))) → rest ≡ l ∷ ls → declares d l ≡ true → Some more ≡ names_at (drop 1 l)
    → both (Some found) (local_names d rest) ≡ all → both (Some (found ++ more)) (local_names d ls) ≡ all
unfolding local_names
names_declared d l ls rest found more all e h some so_far =
    both_assoc found more (local_names d ls) ∙ sym (ap (λ xs. both (Some found) (local_names d xs)) e ∙ rw h (ap (λ o. both (Some found) (both o (local_names d ls))) (sym some))) ∙ so_far

pub names_pass : (d : ℕ) (l : List Token) (ls rest : List (List Token)) (found : List (List ℕ)) (all : Option (List (List ℕ))) → rest ≡ l ∷ ls → declares d l ≡ false
    → both (Some found) (local_names d rest) ≡ all → both (Some found) (local_names (depth_after (word_of l) d) ls) ≡ all
unfolding local_names
names_pass d l ls rest found all e h so_far = sym (ap (λ xs. both (Some found) (local_names d xs)) e ∙ rw h refl) ∙ so_far

pub names_last : (d : ℕ) (rest : List (List Token)) (found : List (List ℕ)) (all : Option (List (List ℕ))) → rest ≡ [] → both (Some found) (local_names d rest) ≡ all → Some found ≡ all
unfolding local_names
names_last d rest found all e so_far = sym (ap (λ xs. both (Some found) (local_names d xs)) e ∙ ap (λ (xs : List (List ℕ)). Some xs) (append-nil found)) ∙ so_far

-- ---- places

pub placed_more : (params : List (List ℕ)) (l m all : Locals) (n : List ℕ) (ns rest : List (List ℕ)) → rest ≡ n ∷ ns → m ≡ with_local params l n → placed params l rest ≡ all → placed params m ns ≡ all
unfolding placed
placed_more params l m all n ns rest e is so_far = ap (λ x. placed params x ns) is ∙ sym (ap (placed params l) e) ∙ so_far

pub placed_end : (params : List (List ℕ)) (l all : Locals) (rest : List (List ℕ)) → rest ≡ [] → placed params l rest ≡ all → l ≡ all
unfolding placed
placed_end params l all rest e so_far = sym (ap (placed params l) e) ∙ so_far
