-- The values of places of statements, one statement at a time, and by a list of them.
use Rattle.std.proofs.Common.{◌≡◌, ℕ, zero, suc, ◌+◌, ◌<◌, ◌≤◌, List, [], ◌∷◌, ◌++◌, length, map, drop, get_or, refl, sym, ap, ◌∙◌, append_assoc, arith}
use Rattle.std.proofs.lemmas.List.{append-nil}
use Rattle.std.proofs.Math.Seq.{drop-cons}
use Rattle.std.proofs.Math.ListN.{drop_of_length-le}
use Rattle.kc_expr.specs.declared.values.Value.{Value}
use Rattle.kc_expr.specs.Meaning.{plain}
use Rattle.kc_source_statement.specs.declared.statement.Stmt.{Stmt}
use Rattle.kc_source_statement.specs.Trees.{action_tree}
use Rattle.kc_asm_symbols.specs.declared.segments.Segment.{Segment}
use Rattle.kc_asm_symbols.specs.Located.{located_by, located_from, located_at, place_values, listed, segment_after, first_segment}

-- an element that is there is the same whatever would stand for one that is not
pub any_default : {X : Type 0} (xs : List X) (i : ℕ) (d e : X) → i < length xs → get_or xs i d ≡ get_or xs i e
any_default [] i d e within = absurd (omega arith)
any_default (x ∷ xs) zero d e within = refl
any_default (x ∷ xs) (suc i) d e within = any_default xs i d e (omega arith)

-- what is made of an element that is there
pub one_of : {X Y : Type 0} (f : X → Y) (xs : List X) (i : ℕ) (d : Y) (x : X) → i < length xs → x ≡ get_or xs i x → get_or (map f xs) i d ≡ f x
one_of f [] i d x within is = absurd (omega arith)
one_of f (y ∷ ys) zero d x within is = ap f (sym is)
one_of f (y ∷ ys) (suc i) d x within is = one_of f ys i d x (omega arith) is

-- ---- one statement more

one_value : (values : ℕ → Segment → Value) (i : ℕ) (g : Segment) (s : Stmt) (ss : List Stmt)
    → place_values (located_from values i g (s ∷ ss)) ≡ values i g ∷ place_values (located_from values (i + 1) (segment_after g (action_tree s.action)) ss)
unfolding located_from
one_value values i g s ss = refl

no_value : (values : ℕ → Segment → Value) (i : ℕ) (g : Segment) → place_values (located_from values i g []) ≡ []
unfolding located_from
no_value values i g = refl

pub value_more : (values : ℕ → Segment → Value) (i : ℕ) (g h : Segment) (s : Stmt) (ss : List Stmt) (vs ws all : List Value) → h ≡ segment_after g (action_tree s.action)
    → ws ≡ vs ++ values i g ∷ [] → vs ++ place_values (located_from values i g (s ∷ ss)) ≡ all → ws ++ place_values (located_from values (i + 1) h ss) ≡ all
value_more values i g h s ss vs ws all moved grown so_far =
    (λ j. grown j ++ place_values (located_from values (i + 1) (moved j) ss))
    ∙ append_assoc vs (values i g ∷ []) (place_values (located_from values (i + 1) (segment_after g (action_tree s.action)) ss))
    ∙ ap (λ rest. vs ++ rest) (sym (one_value values i g s ss)) ∙ so_far

pub all_values : (values : ℕ → Segment → Value) (i : ℕ) (g : Segment) (ss : List Stmt) (vs all : List Value) → length ss ≤ i
    → vs ++ place_values (located_from values i g (drop i ss)) ≡ all → vs ≡ all
all_values values i g ss vs all past so_far =
    sym (append-nil vs) ∙ ap (λ rest. vs ++ rest) (sym (no_value values i g)) ∙ ap (λ rest. vs ++ place_values (located_from values i g rest)) (sym (drop_of_length-le ss past)) ∙ so_far

count_from : (values : ℕ → Segment → Value) (i : ℕ) (g : Segment) (ss : List Stmt) → length (place_values (located_from values i g ss)) ≡ length ss
unfolding located_from
count_from values i g [] = refl
count_from values i g (s ∷ ss) = ap suc (count_from values (i + 1) (segment_after g (action_tree s.action)) ss)

-- as many as there are statements
pub value_count : (values : ℕ → Segment → Value) (ss : List Stmt) → length (place_values (located_by values ss)) ≡ length ss
value_count values ss = count_from values 0 first_segment ss

-- ---- by a list

listed_from : (vs : List Value) (i : ℕ) (g : Segment) (ss : List Stmt) → length vs ≡ i + length ss → place_values (located_from (listed vs) i g ss) ≡ drop i vs
unfolding located_from
listed_from vs i g [] long = sym (drop_of_length-le vs (omega arith))
listed_from vs i g (s ∷ ss) long =
    let within : i < length vs = omega arith in
    let v = get_or vs i (plain 0) in
    let rest : place_values (located_from (listed vs) (i + 1) (segment_after g (action_tree s.action)) ss) ≡ drop (i + 1) vs = listed_from vs (i + 1) (segment_after g (action_tree s.action)) ss (omega arith) in
    let next : i + 1 ≡ suc i = omega arith in
    ap (λ xs. v ∷ xs) (rest ∙ ap (λ k. drop k vs) next)
    ∙ ap (λ u. u ∷ drop (suc i) vs) (any_default vs i (plain 0) v within)
    ∙ sym (drop-cons vs i v within)

-- the values by a list are those of the list
pub listed_values : (vs : List Value) (ss : List Stmt) → length vs ≡ length ss → place_values (located_by (listed vs) ss) ≡ vs
listed_values vs ss long = listed_from vs 0 first_segment ss (omega (arith, long))

-- ---- the values report where statements stand

head_same : (v w : Value) (vs ws : List Value) → v ∷ vs ≡ w ∷ ws → v ≡ w
head_same v w vs ws e = cc

tail_same : (v w : Value) (vs ws : List Value) → v ∷ vs ≡ w ∷ ws → vs ≡ ws
tail_same v w vs ws e = cc

same_from : (values others : ℕ → Segment → Value) (i : ℕ) (g : Segment) (ss : List Stmt) → place_values (located_from values i g ss) ≡ place_values (located_from others i g ss)
    → located_from values i g ss ≡ located_from others i g ss
unfolding located_from
same_from values others i g [] e = refl
same_from values others i g (s ∷ ss) e =
    let h = segment_after g (action_tree s.action) in
    let vs = place_values (located_from values (i + 1) h ss) in
    let ws = place_values (located_from others (i + 1) h ss) in
    let first : values i g ≡ others i g = head_same (values i g) (others i g) vs ws e in
    let rest : located_from values (i + 1) h ss ≡ located_from others (i + 1) h ss = same_from values others (i + 1) h ss (tail_same (values i g) (others i g) vs ws e) in
    λ j. located_at g (first j) s ∷ rest j

-- with the values of a list, the statements stand as by the list
pub located_listed : (at : ℕ → Segment → Value) (vs : List Value) (ss : List Stmt) → length vs ≡ length ss → place_values (located_by at ss) ≡ vs → located_by (listed vs) ss ≡ located_by at ss
located_listed at vs ss long same = same_from (listed vs) at 0 first_segment ss (listed_values vs ss long ∙ sym same)
