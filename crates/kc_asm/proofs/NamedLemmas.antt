-- The name of a module and the names that PUBLIC gives, by its statements wherever they stand.
use Rattle.std.proofs.Common.{◌≡◌, ℕ, ◌+◌, ◌<◌, ◌≤◌, List, [], ◌∷◌, ◌++◌, length, drop, get_or, refl, ap, ◌∙◌}
use Rattle.std.specs.Prelude.{codes}
use Rattle.std.proofs.lemmas.List.{drop_all}
use Rattle.kc_expr.specs.declared.values.Value.{Value}
use Rattle.kc_source_statement.specs.declared.statement.Stmt.{Stmt}
use Rattle.kc_source_statement.specs.Trees.{action_tree}
use Rattle.kc_source_statement.specs.Formed.{given_names}
use Rattle.kc_asm_symbols.specs.declared.segments.Segment.{Segment}
use Rattle.kc_asm_symbols.specs.Located.{located_from, segment_after}
use Rattle.kc_asm_symbols.proofs.ExternalLemmas.{prefix}
use Rattle.kc_asm_unlinked_laws.specs.Collecting.{name_by, name_of, all_given}

-- ---- the name

unfoldable pub name_in : List Stmt → List ℕ
name_in [] = codes "NONAME"
name_in (s ∷ ss) = name_by (action_tree s.action) (name_in ss)

pub named_from : (values : ℕ → Segment → Value) (i : ℕ) (g : Segment) (ss : List Stmt) → name_of (located_from values i g ss) ≡ name_in ss
unfolding located_from name_of name_in
named_from values i g [] = refl
named_from values i g (s ∷ ss) = ap (name_by (action_tree s.action)) (named_from values (i + 1) (segment_after g (action_tree s.action)) ss)

named_one : (s : Stmt) (ss : List Stmt) → name_in (s ∷ ss) ≡ name_by (action_tree s.action) (name_in ss)
unfolding name_in
named_one s ss = refl

-- the name of the statements from the i-th on
pub named_at : (ss : List Stmt) (i : ℕ) (s : Stmt) → i < length ss → s ≡ get_or ss i s → name_in (drop i ss) ≡ name_by (action_tree s.action) (name_in (drop (i + 1) ss))
named_at ss i s within is = ap name_in (prefix ss i s within is) ∙ named_one s (drop (i + 1) ss)

pub named_never : (ss : List Stmt) (i : ℕ) → length ss ≤ i → name_in (drop i ss) ≡ codes "NONAME"
unfolding name_in
named_never ss i past = ap name_in (drop_all i ss past)

-- ---- the names that PUBLIC gives

unfoldable pub given_in : List Stmt → List (List ℕ)
given_in [] = []
given_in (s ∷ ss) = given_names (action_tree s.action) ++ given_in ss

pub given_everywhere : (values : ℕ → Segment → Value) (i : ℕ) (g : Segment) (ss : List Stmt) → all_given (located_from values i g ss) ≡ given_in ss
unfolding located_from all_given given_in
given_everywhere values i g [] = refl
given_everywhere values i g (s ∷ ss) = ap (λ ns. given_names (action_tree s.action) ++ ns) (given_everywhere values (i + 1) (segment_after g (action_tree s.action)) ss)

given_one : (s : Stmt) (ss : List Stmt) → given_in (s ∷ ss) ≡ given_names (action_tree s.action) ++ given_in ss
unfolding given_in
given_one s ss = refl

pub given_at : (ss : List Stmt) (i : ℕ) (s : Stmt) → i < length ss → s ≡ get_or ss i s → given_in (drop i ss) ≡ given_names (action_tree s.action) ++ given_in (drop (i + 1) ss)
given_at ss i s within is = ap given_in (prefix ss i s within is) ∙ given_one s (drop (i + 1) ss)

pub given_no_more : (ss : List Stmt) (i : ℕ) → length ss ≤ i → given_in (drop i ss) ≡ []
unfolding given_in
given_no_more ss i past = ap given_in (drop_all i ss past)
