-- A walk over the statements, expression by expression and statement by statement.
use Rattle.std.proofs.Common.{◌≡◌, ℕ, ◌+◌, ◌<◌, ◌≤◌, cond, List, [], ◌∷◌, ◌++◌, map, drop, length, get_or, Option, Some, None, refl, sym, ap, subst, ◌∙◌, inl, inr}
use Rattle.std.specs.Option.{option_or}
use Rattle.std.specs.Prelude.{replicate, slice_index}
use Rattle.std.proofs.lemmas.Bool.{cases_lt}
use Rattle.std.proofs.lemmas.List.{get_or-replicate, get_or_past, length-replicate}
use Rattle.std.proofs.Math.ListN.{drop_of_length-le}
use Rattle.kc_expr.specs.declared.values.Value.{Value}
use Rattle.kc_expr.specs.Tree.{Tree}
use Rattle.kc_source_statement.specs.declared.statement.Stmt.{Stmt}
use Rattle.kc_source_statement.specs.Trees.{action_tree}
use Rattle.kc_asm_symbols.specs.declared.meanings.Meanings.{Meanings}
use Rattle.kc_asm_symbols.specs.declared.segments.Segment.{Segment}
use Rattle.kc_asm_symbols.specs.Located.{Located, located_by, located_from, located_at, segment_after, first_segment, located, value_at, place_values}
use Rattle.kc_asm_symbols.specs.Externals.{all_trees}
use Rattle.kc_asm_symbols.specs.Walk.{IsBehind, IsAt}
use Rattle.kc_asm_symbols.proofs.ExternalLemmas.{prefix}
use Rattle.kc_asm_layout.specs.StatementSizes.{at_zero}
use Rattle.kc_asm_emit.specs.Arguments.{Look}
use Rattle.kc_asm_origin.specs.Values.{unknown_in, unknown_among, foreign_among, symbol_on, symbol_from, symbol_at}
use Rattle.kc_asm_check.specs.Codes.{counts_from_external}

or_assoc : (a b c : Option (List ℕ)) → option_or (option_or a b) c ≡ option_or a (option_or b c)
or_assoc None b c = refl
or_assoc (Some n) b c = refl

-- ---- expressions of a list's elements

unknown_append : (look : Look) (xs ys : List Tree) → unknown_among look (xs ++ ys) ≡ option_or (unknown_among look xs) (unknown_among look ys)
unfolding unknown_among
unknown_append look [] ys = refl
unknown_append look (x ∷ xs) ys = ap (option_or (unknown_in look x)) (unknown_append look xs ys) ∙ sym (or_assoc (unknown_in look x) (unknown_among look xs) (unknown_among look ys))

abbrev pub among : {X A : Type 0} → Look → (A → List Tree) → (X → A) → List X → Option (List ℕ)
among look f t xs = unknown_among look (all_trees f (map t xs))

one_element : {X A : Type 0} (look : Look) (f : A → List Tree) (t : X → A) (x : X) (xs : List X) → among look f t (x ∷ xs) ≡ option_or (unknown_among look (f (t x))) (among look f t xs)
unfolding all_trees
one_element look f t x xs = unknown_append look (f (t x)) (all_trees f (map t xs))

no_element : {X A : Type 0} (look : Look) (f : A → List Tree) (t : X → A) → among look f t [] ≡ None
unfolding all_trees unknown_among
no_element look f t = refl

pub element : {X A : Type 0} (look : Look) (f : A → List Tree) (t : X → A) (xs : List X) (i : ℕ) (x : X) (o : Option (List ℕ)) → i < length xs → x ≡ get_or xs i x
    → o ≡ unknown_among look (f (t x)) → among look f t (drop i xs) ≡ among look f t xs → option_or o (among look f t (drop (i + 1) xs)) ≡ among look f t xs
element look f t xs i x o within is found so_far =
    ap (λ p. option_or p (among look f t (drop (i + 1) xs))) found ∙ sym (one_element look f t x (drop (i + 1) xs)) ∙ ap (among look f t) (sym (prefix xs i x within is)) ∙ so_far

pub elements : {X A : Type 0} (look : Look) (f : A → List Tree) (t : X → A) (xs : List X) (i : ℕ) → length xs ≤ i → among look f t (drop i xs) ≡ among look f t xs → None ≡ among look f t xs
elements look f t xs i past so_far = sym (no_element look f t) ∙ ap (among look f t) (sym (drop_of_length-le xs past)) ∙ so_far

-- ---- public names

one_name : (last : Look) (n : List ℕ) (ns : List (List ℕ)) → foreign_among last (n ∷ ns) ≡ cond (counts_from_external (last n)) (Some n) (foreign_among last ns)
unfolding foreign_among
one_name last n ns = refl

no_name : (last : Look) → foreign_among last [] ≡ None
unfolding foreign_among
no_name last = refl

pub name : (last : Look) (ns : List (List ℕ)) (i : ℕ) (n : List ℕ) → i < length ns → n ≡ get_or ns i n
    → foreign_among last (drop i ns) ≡ foreign_among last ns → cond (counts_from_external (last n)) (Some n) (foreign_among last (drop (i + 1) ns)) ≡ foreign_among last ns
name last ns i n within is so_far = sym (one_name last n (drop (i + 1) ns)) ∙ ap (foreign_among last) (sym (prefix ns i n within is)) ∙ so_far

pub names : (last : Look) (ns : List (List ℕ)) (i : ℕ) → length ns ≤ i → foreign_among last (drop i ns) ≡ foreign_among last ns → None ≡ foreign_among last ns
names last ns i past so_far = sym (no_name last) ∙ ap (foreign_among last) (sym (drop_of_length-le ns past)) ∙ so_far

-- ---- statements

-- the statements that the walk has passed, the latest first, and what those that are left give
pub record Walked (m : Meanings) (line code i : ℕ) (g : Segment) (stmts rest : List Stmt) : Type 0 where
  pub before : List Located
  pub behind : IsBehind m (located_by at_zero stmts) before
  pub so_far : symbol_from line code (located_by at_zero stmts) before (located_from at_zero i g rest) ≡ symbol_at line code (located_by at_zero stmts)

pub walk_starts : (m : Meanings) (line code : ℕ) (g : Segment) (stmts : List Stmt) → g ≡ first_segment → IsBehind m (located_by at_zero stmts) [] → Walked m line code 0 g stmts stmts
walk_starts m line code g stmts first behind = record {
  before = [];
  behind = behind;
  so_far = λ j. symbol_from line code (located_by at_zero stmts) [] (located_from at_zero 0 (first j) stmts);
}

one_symbol : (line code i : ℕ) (all before : List Located) (g : Segment) (s : Stmt) (rest : List Stmt)
    → symbol_from line code all before (located_from at_zero i g (s ∷ rest))
    ≡ option_or (symbol_on line code all before (located_at g (at_zero i g) s)) (symbol_from line code all (located_at g (at_zero i g) s ∷ before) (located_from at_zero (i + 1) (segment_after g (action_tree s.action)) rest))
unfolding located_from symbol_from
one_symbol line code i all before g s rest = refl

no_symbol : (line code i : ℕ) (all before : List Located) (g : Segment) → symbol_from line code all before (located_from at_zero i g []) ≡ None
unfolding located_from symbol_from
no_symbol line code i all before g = refl

-- at a statement: what it gives, or else what those behind it give
pub record At (m : Meanings) (line code i : ℕ) (g : Segment) (stmts rest : List Stmt) (s : Stmt) (o : Option (List ℕ)) : Type 0 where
  pub before : List Located
  pub at : IsAt m (located_by at_zero stmts) before (located_at g (at_zero i g) s)
  pub so_far : option_or o (symbol_from line code (located_by at_zero stmts) (located_at g (at_zero i g) s ∷ before) (located_from at_zero (i + 1) (segment_after g (action_tree s.action)) rest))
      ≡ symbol_at line code (located_by at_zero stmts)

pub enters : (m n : Meanings) (line code i : ℕ) (g : Segment) (stmts rest : List Stmt) (s : Stmt) (v : Value) (o : Option (List ℕ)) → v ≡ at_zero i g
    → ((all before : List Located) (h : Segment) → IsBehind m all before → IsAt n all before (located_at h v s))
    → ((all before : List Located) (l : Located) → IsAt n all before l → l.line ≡ s.line → l.action ≡ action_tree s.action → o ≡ symbol_on line code all before l)
    → Walked m line code i g stmts (s ∷ rest) → At n line code i g stmts rest s o
enters m n line code i g stmts rest s v o zero_at entered reported w =
    let all = located_by at_zero stmts in
    let l = located_at g (at_zero i g) s in
    let at_l : IsAt n all w.before l = subst (λ (u : Value). IsAt n all w.before (located_at g u s)) zero_at (entered all w.before g w.behind) in
    record {
      before = w.before;
      at = at_l;
      so_far = ap (λ p. option_or p (symbol_from line code all (l ∷ w.before) (located_from at_zero (i + 1) (segment_after g (action_tree s.action)) rest))) (reported all w.before l at_l refl refl)
          ∙ sym (one_symbol line code i all w.before g s rest) ∙ w.so_far;
    }

pub reported : (m : Meanings) (line code i : ℕ) (g : Segment) (stmts rest : List Stmt) (s : Stmt) (o : Option (List ℕ)) (n : List ℕ) → o ≡ Some n → At m line code i g stmts rest s o
    → Some n ≡ symbol_at line code (located_by at_zero stmts)
reported m line code i g stmts rest s o n some a =
    sym (ap (λ p. option_or p (symbol_from line code (located_by at_zero stmts) (located_at g (at_zero i g) s ∷ a.before) (located_from at_zero (i + 1) (segment_after g (action_tree s.action)) rest))) some)
    ∙ a.so_far

pub leaves : (m n : Meanings) (line code i : ℕ) (g h : Segment) (stmts rest : List Stmt) (s : Stmt) (o : Option (List ℕ)) → o ≡ None → h ≡ segment_after g (action_tree s.action)
    → ((all before : List Located) (l : Located) → IsAt m all before l → l.action ≡ action_tree s.action → IsBehind n all (l ∷ before))
    → At m line code i g stmts rest s o → Walked n line code (i + 1) h stmts rest
leaves m n line code i g h stmts rest s o none moved left a =
    let all = located_by at_zero stmts in
    let l = located_at g (at_zero i g) s in
    record {
      before = l ∷ a.before;
      behind = left all a.before l a.at refl;
      so_far = (λ j. symbol_from line code all (l ∷ a.before) (located_from at_zero (i + 1) (moved j) rest))
          ∙ sym (ap (λ p. option_or p (symbol_from line code all (l ∷ a.before) (located_from at_zero (i + 1) (segment_after g (action_tree s.action)) rest))) none)
          ∙ a.so_far;
    }

pub walk_ends : (m : Meanings) (line code i : ℕ) (g : Segment) (stmts : List Stmt) → length stmts ≤ i → Walked m line code i g stmts (drop i stmts)
    → None ≡ symbol_at line code (located_by at_zero stmts)
walk_ends m line code i g stmts past w =
    sym (no_symbol line code i (located_by at_zero stmts) w.before g)
    ∙ ap (λ ss. symbol_from line code (located_by at_zero stmts) w.before (located_from at_zero i g ss)) (sym (drop_of_length-le stmts past)) ∙ w.so_far

-- ---- all statements at 0

zero_at : (n i : ℕ) → slice_index (replicate n 0) i ≡ 0
zero_at n i = elim (cases_lt i n) [
  | inl lt ↦ get_or-replicate n i 0 0 lt
  | inr le ↦ get_or_past (replicate n 0) i 0 (subst (λ k. k ≤ i) (sym (length-replicate n 0)) le)
]

pub zero_values : (stmts : List Stmt) (zs : List ℕ) (n : ℕ) → zs ≡ replicate n 0 → place_values (located (slice_index zs) stmts) ≡ place_values (located_by at_zero stmts)
zero_values stmts zs n is =
    ap (λ (ns : List ℕ). place_values (located (slice_index ns) stmts)) is ∙ (λ j. place_values (located_by (λ i g. value_at g (zero_at n i j)) stmts))
