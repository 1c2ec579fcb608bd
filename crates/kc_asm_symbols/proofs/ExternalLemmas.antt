-- The externals of some statements, one statement at a time.
use Rattle.std.proofs.Common.{◌≡◌, ℕ, suc, ◌+◌, ◌<◌, ◌≤◌, Bool, true, false, ◌||◌, List, [], ◌∷◌, ◌++◌, length, drop, get_or, refl, sym, ap, ◌∙◌, append_assoc, arith}
use Rattle.std.specs.Prelude.{map}
use Rattle.std.proofs.Math.Seq.{drop-cons}
use Rattle.std.proofs.Math.ListN.{drop_of_length-le}
use Rattle.std.specs.List.{list_any}
use Rattle.std.proofs.lemmas.List.{append-nil}
use Rattle.std.proofs.lemmas.List.Folds.{list_any-append}
use Rattle.kc_obj_module.specs.declared.parts.Taken.{Taken}
use Rattle.kc_expr.specs.declared.values.Value.{Value}
use Rattle.kc_expr.specs.Tree.{Tree}
use Rattle.kc_source_statement.specs.declared.statement.Stmt.{Stmt}
use Rattle.kc_source_statement.specs.Trees.{action_tree}
use Rattle.kc_asm_symbols.specs.declared.segments.Segment.{Segment}
use Rattle.kc_asm_symbols.specs.Located.{located_from, segment_after}
use Rattle.kc_asm_symbols.specs.Externals.{uses_stack, all_trees, declared, statement_uses_stack, externals_from}

any_trees : {A : Type 0} (f : A → List Tree) (x : A) (xs : List A) → list_any uses_stack (all_trees f (x ∷ xs)) ≡ (list_any uses_stack (f x) || list_any uses_stack (all_trees f xs))
unfolding all_trees
any_trees f x xs = list_any-append uses_stack (f x) (all_trees f xs)

-- ---- whether some expression of a list's elements has STACK

abbrev pub some_use : {X A : Type 0} → (A → List Tree) → (X → A) → List X → Bool
some_use f t xs = list_any uses_stack (all_trees f (map t xs))

pub prefix : {X : Type 0} (xs : List X) (i : ℕ) (x : X) → i < length xs → x ≡ get_or xs i x → drop i xs ≡ x ∷ drop (i + 1) xs
prefix xs i x within is = let next : suc i ≡ i + 1 = omega arith in drop-cons xs i x within ∙ (λ j. sym is j ∷ drop (next j) xs)

one_more : {X A : Type 0} (f : A → List Tree) (t : X → A) (xs : List X) (i : ℕ) (x : X) → i < length xs → x ≡ get_or xs i x
    → some_use f t (drop i xs) ≡ (list_any uses_stack (f (t x)) || some_use f t (drop (i + 1) xs))
one_more f t xs i x within is = ap (some_use f t) (prefix xs i x within is) ∙ any_trees f (t x) (map t (drop (i + 1) xs))

pub found : {X A : Type 0} (f : A → List Tree) (t : X → A) (xs : List X) (i : ℕ) (x : X) → i < length xs → x ≡ get_or xs i x
    → list_any uses_stack (f (t x)) ≡ true → some_use f t (drop i xs) ≡ some_use f t xs → true ≡ some_use f t xs
found f t xs i x within is uses so_far = ap (λ b. b || some_use f t (drop (i + 1) xs)) (sym uses) ∙ sym (one_more f t xs i x within is) ∙ so_far

pub passed : {X A : Type 0} (f : A → List Tree) (t : X → A) (xs : List X) (i : ℕ) (x : X) → i < length xs → x ≡ get_or xs i x
    → list_any uses_stack (f (t x)) ≡ false → some_use f t (drop i xs) ≡ some_use f t xs → some_use f t (drop (i + 1) xs) ≡ some_use f t xs
passed f t xs i x within is uses so_far = ap (λ b. b || some_use f t (drop (i + 1) xs)) (sym uses) ∙ sym (one_more f t xs i x within is) ∙ so_far

no_use : {X A : Type 0} (f : A → List Tree) (t : X → A) → some_use f t [] ≡ false
unfolding all_trees
no_use f t = refl

pub ended : {X A : Type 0} (f : A → List Tree) (t : X → A) (xs : List X) (i : ℕ) → length xs ≤ i → some_use f t (drop i xs) ≡ some_use f t xs → false ≡ some_use f t xs
ended f t xs i past so_far = sym (no_use f t) ∙ ap (some_use f t) (sym (drop_of_length-le xs past)) ∙ so_far

-- ---- the list of externals

pub one_declared : (values : ℕ → Segment → Value) (i : ℕ) (g : Segment) (used : Bool) (s : Stmt) (ss : List Stmt)
    → externals_from used (located_from values i g (s ∷ ss)) ≡ declared used g.kind (action_tree s.action) ++ externals_from (used || statement_uses_stack (action_tree s.action)) (located_from values (i + 1) (segment_after g (action_tree s.action)) ss)
unfolding externals_from located_from
one_declared values i g used s ss = refl

pub none_declared : (values : ℕ → Segment → Value) (i : ℕ) (g : Segment) (used : Bool) → externals_from used (located_from values i g []) ≡ []
unfolding externals_from located_from
none_declared values i g used = refl

pub declares : (values : ℕ → Segment → Value) (i : ℕ) (g h : Segment) (used after : Bool) (s : Stmt) (ss : List Stmt) (ts us all : List Taken)
    → us ≡ ts ++ declared used g.kind (action_tree s.action) → after ≡ (used || statement_uses_stack (action_tree s.action)) → h ≡ segment_after g (action_tree s.action)
    → ts ++ externals_from used (located_from values i g (s ∷ ss)) ≡ all → us ++ externals_from after (located_from values (i + 1) h ss) ≡ all
declares values i g h used after s ss ts us all grown uses moved so_far =
    (λ j. grown j ++ externals_from (uses j) (located_from values (i + 1) (moved j) ss))
    ∙ append_assoc ts (declared used g.kind (action_tree s.action)) (externals_from (used || statement_uses_stack (action_tree s.action)) (located_from values (i + 1) (segment_after g (action_tree s.action)) ss))
    ∙ ap (λ rest. ts ++ rest) (sym (one_declared values i g used s ss)) ∙ so_far

pub all_declared : (values : ℕ → Segment → Value) (g : Segment) (used : Bool) (ss : List Stmt) (i : ℕ) (ts all : List Taken) → length ss ≤ i
    → ts ++ externals_from used (located_from values i g (drop i ss)) ≡ all → ts ≡ all
all_declared values g used ss i ts all past so_far =
    sym (append-nil ts) ∙ ap (λ us. ts ++ us) (sym (none_declared values i g used)) ∙ ap (λ rest. ts ++ externals_from used (located_from values i g rest)) (sym (drop_of_length-le ss past)) ∙ so_far
