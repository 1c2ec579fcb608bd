-- A walk over the statements, one statement at a time.
use Rattle.std.proofs.Common.{◌≡◌, ℕ, suc, ◌+◌, ◌≤◌, Bool, true, false, cond, ◌||◌, List, [], ◌∷◌, ◌++◌, reverse, length, drop, get_or, refl, sym, ap, subst, ◌∙◌, append_assoc}
use Rattle.std.specs.Prelude.{Ok}
use Rattle.std.specs.List.{list_any}
use Rattle.std.specs.Str.{bytes_eq}
use Rattle.std.proofs.lemmas.List.{reverse-append}
use Rattle.std.proofs.Math.ListN.{drop_of_length-le}
use Rattle.kc_expr.specs.declared.values.Value.{Value}
use Rattle.kc_expr.specs.Meaning.{here, plain}
use Rattle.kc_source_statement.specs.declared.statement.Stmt.{Stmt}
use Rattle.kc_source_statement.specs.Trees.{action_tree}
use Rattle.kc_asm_symbols.specs.declared.earlier.Earlier.{Earlier}
use Rattle.kc_asm_symbols.specs.declared.meanings.Meanings.{Meanings}
use Rattle.kc_asm_symbols.specs.declared.segments.Segment.{Segment}
use Rattle.kc_asm_symbols.specs.Tables.{answers, no_name}
use Rattle.kc_asm_symbols.specs.Located.{Located, located_by, located_from, located_at, listed, segment_after, first_segment}
use Rattle.kc_asm_symbols.specs.Meanings.{behind, external_answer, earlier, is_set, is_set_by, with_set, in_all, meaning, throughout, is_definition}
use Rattle.kc_asm_symbols.specs.Walk.{at_statement, shared, IsEarlier, IsBehind}

-- ---- one statement

pub one_located : (values : ℕ → Segment → Value) (i : ℕ) (g : Segment) (s : Stmt) (ss : List Stmt)
    → located_from values i g (s ∷ ss) ≡ located_at g (values i g) s ∷ located_from values (i + 1) (segment_after g (action_tree s.action)) ss
unfolding located_from
one_located values i g s ss = refl

pub none_located : (values : ℕ → Segment → Value) (i : ℕ) (g : Segment) → located_from values i g [] ≡ []
unfolding located_from
none_located values i g = refl

pub located_length : (values : ℕ → Segment → Value) (i : ℕ) (g : Segment) (ss : List Stmt) → length (located_from values i g ss) ≡ length ss
unfolding located_from
located_length values i g [] = refl
located_length values i g (s ∷ ss) = ap suc (located_length values (i + 1) (segment_after g (action_tree s.action)) ss)

-- one statement further on
pub further : (all before after : List Located) (l : Located) → all ≡ reverse before ++ l ∷ after → all ≡ reverse (l ∷ before) ++ after
further all before after l whole = whole ∙ sym (append_assoc (reverse before) (l ∷ []) after) ∙ ap (λ (ls : List Located). ls ++ after) (sym (reverse-append (l ∷ []) before))

one_earlier : (all before : List Located) (l : Located) → earlier all (l ∷ before) ≡ behind (external_answer all) l.action l.here (earlier all before)
unfolding earlier
one_earlier all before l = refl

pub goes_behind : (e f : Earlier) (all before : List Located) (l : Located) → IsEarlier e all before → f.names ≡ e.names
    → answers (shared f.names).numbers f.latest ≡ behind (answers (shared e.names).numbers (shared e.names).taken) l.action l.here (answers (shared e.names).numbers e.latest) → IsEarlier f all (l ∷ before)
goes_behind e f all before l is names latest =
    record {
      external = ap (λ n. answers (shared n).numbers (shared n).taken) names ∙ is.external;
      latest = latest ∙ (λ i. behind (is.external i) l.action l.here (is.latest i)) ∙ sym (one_earlier all before l);
    }

-- ---- to the last statement

-- the statements that are left, and those that are passed
pub record Passing (e : Earlier) (all rest : List Located) : Type 0 where
  pub before : List Located
  pub is : IsEarlier e all before
  pub whole : reverse rest ++ before ≡ reverse all

append_none : (xs : List Located) → xs ++ [] ≡ xs
append_none [] = refl
append_none (x ∷ xs) = ap (λ ys. x ∷ ys) (append_none xs)

starts : (e : Earlier) (all : List Located) → IsEarlier e all [] → Passing e all all
starts e all is = record { before = []; is = is; whole = append_none (reverse all) }

reverse_prefix : (l : Located) (ls before : List Located) → reverse ls ++ (l ∷ before) ≡ reverse (l ∷ ls) ++ before
reverse_prefix l ls before = sym (ap (λ (xs : List Located). xs ++ before) (reverse-append (l ∷ []) ls) ∙ append_assoc (reverse ls) (l ∷ []) before)

passes : (e f : Earlier) (all rest : List Located) (l : Located) → f.names ≡ e.names
    → answers (shared f.names).numbers f.latest ≡ behind (answers (shared e.names).numbers (shared e.names).taken) l.action l.here (answers (shared e.names).numbers e.latest) → Passing e all (l ∷ rest) → Passing f all rest
passes e f all rest l names latest p =
    record { before = l ∷ p.before; is = goes_behind e f all p.before l p.is names latest; whole = reverse_prefix l rest p.before ∙ p.whole }

no_rest : (e : Earlier) (all : List Located) → Passing e all [] → IsEarlier e all (reverse all)
no_rest e all p = subst (λ (ls : List Located). IsEarlier e all ls) p.whole p.is

-- the statements from one on are left, with values by a list
pub record Walking (e : Earlier) (vs : List Value) (all : List Located) (i : ℕ) (ss : List Stmt) : Type 0 where
  pub segment : Segment
  pub passing : Passing e all (located_from (listed vs) i segment ss)

pub walk_starts : (e : Earlier) (vs : List Value) (ss : List Stmt) → IsEarlier e (located_by (listed vs) ss) [] → Walking e vs (located_by (listed vs) ss) 0 ss
walk_starts e vs ss is = record { segment = first_segment; passing = starts e (located_by (listed vs) ss) is }

pub walks : (e f : Earlier) (vs : List Value) (all : List Located) (i : ℕ) (v : Value) (s : Stmt) (ss : List Stmt) → v ≡ get_or vs i (plain 0) → f.names ≡ e.names
    → answers (shared f.names).numbers f.latest ≡ behind (answers (shared e.names).numbers (shared e.names).taken) (action_tree s.action) v (answers (shared e.names).numbers e.latest) → Walking e vs all i (s ∷ ss) → Walking f vs all (i + 1) ss
walks e f vs all i v s ss value names latest w =
    let g = w.segment in
    let a = action_tree s.action in
    record {
      segment = segment_after g a;
      passing = passes e f all (located_from (listed vs) (i + 1) (segment_after g a) ss) (located_at g (get_or vs i (plain 0)) s) names
          (latest ∙ ap (λ u. behind (answers (shared e.names).numbers (shared e.names).taken) a u (answers (shared e.names).numbers e.latest)) value)
          (subst (λ (ls : List Located). Passing e all ls) (one_located (listed vs) i g s ss) w.passing);
    }

pub walked : (e : Earlier) (vs : List Value) (i : ℕ) (ss : List Stmt) (all : List Located) → length ss ≤ i → Walking e vs all i (drop i ss) → IsEarlier e all (reverse all)
walked e vs i ss all past w =
    no_rest e all (subst (λ (ls : List Located). Passing e all ls) (none_located (listed vs) i w.segment) (subst (λ (rest : List Stmt). Passing e all (located_from (listed vs) i w.segment rest)) (drop_of_length-le ss past) w.passing))

-- ---- names that SET defines

abbrev pub set_in : List Stmt → List ℕ → Bool
set_in ss q = list_any (λ s. is_set_by (action_tree s.action) q) ss

set_located : (values : ℕ → Segment → Value) (i : ℕ) (g : Segment) (ss : List Stmt) (q : List ℕ) → set_in ss q ≡ is_set (located_from values i g ss) q
unfolding is_set located_from
set_located values i g [] q = refl
set_located values i g (s ∷ ss) q = ap (λ b. is_set_by (action_tree s.action) q || b) (set_located values (i + 1) (segment_after g (action_tree s.action)) ss q)

moved : (a b c : Bool) → (a || (b || c)) ≡ ((b || a) || c)
moved true true c = refl
moved true false c = refl
moved false true c = refl
moved false false c = refl

pub set_more : (s : Stmt) (ss : List Stmt) (look next all : List ℕ → Bool) → next ≡ with_set (action_tree s.action) look
    → ((q : List ℕ) → (set_in (s ∷ ss) q || look q) ≡ all q) → (q : List ℕ) → (set_in ss q || next q) ≡ all q
set_more s ss look next all grown so_far q = ap (λ (f : List ℕ → Bool). set_in ss q || f q) grown ∙ moved (set_in ss q) (is_set_by (action_tree s.action) q) (look q) ∙ so_far q

or_nothing : (b : Bool) → (b || false) ≡ b
or_nothing true = refl
or_nothing false = refl

pub set_starts : (ss : List Stmt) (look : List ℕ → Bool) → look ≡ no_name → (q : List ℕ) → (set_in ss q || look q) ≡ set_in ss q
set_starts ss look none q = ap (λ (f : List ℕ → Bool). set_in ss q || f q) none ∙ or_nothing (set_in ss q)

pub set_all : (values : ℕ → Segment → Value) (i : ℕ) (ss : List Stmt) (look : List ℕ → Bool) → length ss ≤ i → ((q : List ℕ) → (set_in (drop i ss) q || look q) ≡ set_in ss q) → look ≡ is_set (located_by values ss)
set_all values i ss look past so_far =
    let each : (q : List ℕ) → look q ≡ is_set (located_by values ss) q
    = λ q. ap (λ rest. set_in rest q || look q) (sym (drop_of_length-le ss past)) ∙ so_far q ∙ set_located values 0 first_segment ss q in
    λ j q. each q j

-- ---- at a statement

pub means : (m : Meanings) (all before : List Located) (l : Located) → IsBehind m all before → m.earlier.here ≡ l.here → m.defines ≡ is_definition l.action → at_statement m ≡ meaning all before l
means m all before l is place defines =
    let each : (q : List ℕ) → at_statement m q ≡ meaning all before l q
    = λ q. (λ i. cond (bytes_eq q here) (Ok (place i)) (cond (defines i || is.set i q) (is.earlier.latest i q) (is.last i q)))
    ∙ ap (λ a. cond (bytes_eq q here) (Ok l.here) a) (by_kind (is_definition l.action) q) in
    λ i q. each q i
  where
    by_kind : (b : Bool) (q : List ℕ) → cond (b || is_set all q) (earlier all before q) (in_all all q) ≡ cond b (earlier all before) (throughout all before) q
    by_kind true q = refl
    by_kind false q = refl
