-- Statements in two layouts, and what names mean in both.
use Rattle.std.proofs.Common.{◌≡◌, ℕ, suc, ◌+◌, ◌%◌, Bool, true, false, cond, ◌||◌, List, [], ◌∷◌, ◌++◌, reverse, length, refl, sym, ap, subst, ◌∙◌}
use Rattle.std.specs.Prelude.{Option, Some, None, Ok, Err}
use Rattle.std.specs.Str.{bytes_eq}
use Rattle.std.proofs.lemmas.List.{reverse-append, reverse-reverse, length-reverse}
use Rattle.kc_expr.specs.declared.values.Base.TheVariants.{Absolute, Piece}
use Rattle.kc_expr.specs.declared.values.Value.{Value}
use Rattle.kc_expr.specs.Tree.{Tree}
use Rattle.kc_expr.specs.Meaning.{Answer, answer_by, is_fixed, here}
use Rattle.kc_expr.specs.Alike.{AreAlikeValues, AreAlike}
use Rattle.kc_expr.proofs.AlikeLemmas.{alike, places_alike, expressions_alike}
use Rattle.kc_source_statement.specs.declared.statement.Stmt.{Stmt}
use Rattle.kc_source_statement.specs.Trees.{ActionTree, action_tree}
use Rattle.kc_asm_symbols.specs.declared.segments.Segment.{Segment}
use Rattle.kc_asm_symbols.specs.Located.{Located, located, located_by, located_from, is_absolute, base_of, tag_of, value_at, segment_after, first_segment}
use Rattle.kc_asm_symbols.specs.Externals.{declared, statement_uses_stack, externals_from, external_in, stack_name}
use Rattle.kc_asm_symbols.specs.Meanings.{or_reported, is_label, label_answer, external_answer, with_here, is_taken_by, defines, by_definition, behind, earlier, is_set, is_set_by, is_definition, in_all, throughout, meaning}
use Rattle.kc_asm_symbols.specs.Alike.{MeaningsAreAlike, MeaningsDoNotDependOnPlaces}

-- a statement, and the same at another place
record IsMoved (l m : Located) : Type 0 where
  label : l.label ≡ m.label
  action : l.action ≡ m.action
  segment : l.segment ≡ m.segment
  here : AreAlikeValues l.here m.here

data AreMoved : List Located → List Located → Type 0 where
  none : AreMoved [] []
  more : {l m : Located} {ls ms : List Located} → IsMoved l m → AreMoved ls ms → AreMoved (l ∷ ls) (m ∷ ms)

located_moved : (values others : ℕ → Segment → Value) → ((i : ℕ) (g : Segment) → AreAlikeValues (values i g) (others i g)) → (i : ℕ) (g : Segment) (ss : List Stmt)
    → AreMoved (located_from values i g ss) (located_from others i g ss)
unfolding located_from
located_moved values others same i g [] = none
located_moved values others same i g (s ∷ ss) =
    more (record { label = refl; action = refl; segment = refl; here = same i g }) (located_moved values others same (i + 1) (segment_after g (action_tree s.action)) ss)

-- ---- parts of lists

joined : {ls ms ks js : List Located} → AreMoved ls ms → AreMoved ks js → AreMoved (ls ++ ks) (ms ++ js)
joined none rest = rest
joined (more one ones) rest = more one (joined ones rest)

reverse_one : (l : Located) (ls : List Located) → reverse ls ++ l ∷ [] ≡ reverse (l ∷ ls)
reverse_one l ls = sym (reverse-append (l ∷ []) ls)

reversed : {ls ms : List Located} → AreMoved ls ms → AreMoved (reverse ls) (reverse ms)
reversed none = none
reversed (more {l} {m} {ls} {ms} one ones) =
    subst (λ (ks : List Located). AreMoved ks (reverse (m ∷ ms))) (reverse_one l ls)
    (subst (λ (ks : List Located). AreMoved (reverse ls ++ l ∷ []) ks) (reverse_one m ms) (joined (reversed ones) (more one none)))

record Split (ls ms : List Located) (l m : Located) : Type 0 where
  prefix : AreMoved ls ms
  one : IsMoved l m

split : (ls ms ks js : List Located) (l m : Located) → length ls ≡ length ms → AreMoved (ls ++ l ∷ ks) (ms ++ m ∷ js) → Split ls ms l m
split [] [] ks js l m e (more one ones) = record { prefix = none; one = one }
split [] (x ∷ ms) ks js l m e a = absurd cc
split (x ∷ ls) [] ks js l m e a = absurd cc
split (x ∷ ls) (y ∷ ms) ks js l m e (more one ones) =
    let s : Split ls ms l m = split ls ms ks js l m (suc_same (length ls) (length ms) e) ones in
    record { prefix = more one s.prefix; one = s.one }
  where
    suc_same : (a b : ℕ) → suc a ≡ suc b → a ≡ b
    suc_same a b e = cc

-- ---- externals, labels and names that SET defines

externals_moved : (used : Bool) {ls ms : List Located} → AreMoved ls ms → externals_from used ls ≡ externals_from used ms
unfolding externals_from
externals_moved used none = refl
externals_moved used (more {l} {m} {ls} {ms} one ones) =
    (λ i. declared used (one.segment i).kind (one.action i) ++ externals_from (used || statement_uses_stack (one.action i)) ls)
    ∙ ap (λ rest. declared used m.segment.kind m.action ++ rest) (externals_moved (used || statement_uses_stack m.action) ones)

same_test : (x : Bool) (a b c d : Answer) → AreAlike a c → AreAlike b d → AreAlike (cond x a b) (cond x c d)
same_test true a b c d first second = first
same_test false a b c d first second = second

labels_moved : {ls ms : List Located} → AreMoved ls ms → (q : List ℕ) → AreAlike (label_answer ls q) (label_answer ms q)
unfolding label_answer
labels_moved none q = refl
labels_moved (more {l} {m} {ls} {ms} one ones) q =
    subst (λ (o : Option (List ℕ)). AreAlike (cond (is_label q l.label) (Ok l.here) (label_answer ls q)) (cond (is_label q o) (Ok m.here) (label_answer ms q))) one.label
    (same_test (is_label q l.label) (Ok l.here) (label_answer ls q) (Ok m.here) (label_answer ms q) one.here (labels_moved ones q))

sets_moved : {ls ms : List Located} → AreMoved ls ms → (q : List ℕ) → is_set ls q ≡ is_set ms q
unfolding is_set
sets_moved none q = refl
sets_moved (more {l} {m} {ls} {ms} one ones) q = λ i. is_set_by (one.action i) q || sets_moved ones q i

-- ---- what names mean

external_moved : {all others : List Located} → AreMoved all others → (q : List ℕ) → AreAlike (external_answer all q) (external_answer others q)
external_moved {all} {others} a q = alike (external_answer all q) (external_answer others q) (ap (λ ts. external_in 0 ts q) (externals_moved false a))

reported : (a b : Answer) → AreAlike a b → AreAlike (or_reported a) (or_reported b)
reported (Ok v) (Ok w) same = same
reported (Ok v) (Err d) same = absurd same
reported (Err c) (Ok w) same = absurd same
reported (Err c) (Err d) same = refl

definition_moved : (o : Option Tree) (look at : List ℕ → Answer) (a b : Answer) → ((q : List ℕ) → AreAlike (look q) (at q)) → AreAlike a b → AreAlike (by_definition o look a) (by_definition o at b)
definition_moved None look at a b same rest = rest
definition_moved (Some x) look at a b same rest = reported (answer_by look x) (answer_by at x) (expressions_alike look at same x)

here_moved : (l m : Located) (look at : List ℕ → Answer) → IsMoved l m → ((q : List ℕ) → AreAlike (look q) (at q)) → (q : List ℕ) → AreAlike (with_here l.here look q) (with_here m.here at q)
here_moved l m look at one same q = same_test (bytes_eq q here) (Ok l.here) (look q) (Ok m.here) (at q) one.here (same q)

earlier_moved : {all others : List Located} → AreMoved all others → {before passed : List Located} → AreMoved before passed → (q : List ℕ) → AreAlike (earlier all before q) (earlier others passed q)
unfolding earlier
earlier_moved {all} {others} a none q =
    same_test (bytes_eq q stack_name) (external_answer all q) (label_answer all q) (external_answer others q) (label_answer others q) (external_moved a q) (labels_moved a q)
earlier_moved {all} {others} a (more {l} {m} {ls} {ms} one ones) q =
    subst (λ (action : ActionTree). AreAlike (behind (external_answer all) l.action l.here (earlier all ls) q) (behind (external_answer others) action m.here (earlier others ms) q)) one.action
    (same_test (is_taken_by l.action q) (external_answer all q) (by_definition (defines l.action q) (with_here l.here (earlier all ls)) (earlier all ls q))
    (external_answer others q) (by_definition (defines l.action q) (with_here m.here (earlier others ms)) (earlier others ms q))
    (external_moved a q)
    (definition_moved (defines l.action q) (with_here l.here (earlier all ls)) (with_here m.here (earlier others ms)) (earlier all ls q) (earlier others ms q)
    (here_moved l m (earlier all ls) (earlier others ms) one (λ n. earlier_moved a ones n)) (earlier_moved a ones q)))

pub all_alike : (values others : ℕ → Segment → Value) → ((i : ℕ) (g : Segment) → AreAlikeValues (values i g) (others i g)) → (stmts : List Stmt) (q : List ℕ)
    → AreAlike (in_all (located_by values stmts) q) (in_all (located_by others stmts) q)
all_alike values others same stmts q =
    let moved = located_moved values others same 0 first_segment stmts in
    earlier_moved moved (reversed moved) q

throughout_moved : {all others before passed : List Located} → AreMoved all others → AreMoved before passed → (q : List ℕ) → AreAlike (throughout all before q) (throughout others passed q)
throughout_moved {all} {others} {before} {passed} a ones q =
    subst (λ (b : Bool). AreAlike (throughout all before q) (cond b (earlier others passed q) (in_all others q))) (sets_moved a q)
    (same_test (is_set all q) (earlier all before q) (in_all all q) (earlier others passed q) (in_all others q) (earlier_moved a ones q) (earlier_moved a (reversed a) q))

by_kind : (b : Bool) {all others before passed : List Located} → AreMoved all others → AreMoved before passed → (q : List ℕ)
    → AreAlike (cond b (earlier all before) (throughout all before) q) (cond b (earlier others passed) (throughout others passed) q)
by_kind true a ones q = earlier_moved a ones q
by_kind false a ones q = throughout_moved a ones q

meaning_moved : {all others before passed : List Located} → AreMoved all others → AreMoved before passed → (l m : Located) → IsMoved l m → (q : List ℕ) → AreAlike (meaning all before l q) (meaning others passed m q)
meaning_moved {all} {others} {before} {passed} a ones l m one q =
    subst (λ (action : ActionTree). AreAlike (meaning all before l q) (with_here m.here (cond (is_definition action) (earlier others passed) (throughout others passed)) q)) one.action
    (here_moved l m (cond (is_definition l.action) (earlier all before) (throughout all before)) (cond (is_definition l.action) (earlier others passed) (throughout others passed)) one (by_kind (is_definition l.action) a ones) q)

twice : (ls : List Located) → reverse (reverse ls) ≡ ls
twice ls = reverse-reverse ls

pub meanings_alike : MeaningsAreAlike
meanings_alike values others same stmts before passed after rest l m here there long =
    let a : AreMoved (located_by values stmts) (located_by others stmts) = located_moved values others same 0 first_segment stmts in
    let b : AreMoved (reverse before ++ l ∷ after) (reverse passed ++ m ∷ rest) = subst (λ (ks : List Located). AreMoved ks (reverse passed ++ m ∷ rest)) here (subst (λ (ks : List Located). AreMoved (located_by values stmts) ks) there a) in
    let lengths : length (reverse before) ≡ length (reverse passed) = length-reverse before ∙ long ∙ sym (length-reverse passed) in
    let s : Split (reverse before) (reverse passed) l m = split (reverse before) (reverse passed) after rest l m lengths b in
    let prefixes : AreMoved before passed = subst (λ (ks : List Located). AreMoved before ks) (twice passed) (subst (λ (ks : List Located). AreMoved ks (reverse (reverse passed))) (twice before) (reversed s.prefix)) in
    meaning_moved a prefixes l m s.one

-- ---- places in pieces

pub place_is_no_number : (g : Segment) → is_fixed (base_of g) ≡ false
place_is_no_number g = by_test (is_absolute g)
  where
    by_test : (b : Bool) → is_fixed (cond b Absolute (Piece g.piece)) ≡ false
    by_test true = refl
    by_test false = refl

places_are_alike : (places others : ℕ → ℕ) (i : ℕ) (g : Segment) → AreAlikeValues (value_at g (places i)) (value_at g (others i))
places_are_alike places others i g = places_alike (base_of g) (tag_of g.kind) (places i % 65536) (others i % 65536) (place_is_no_number g)

pub do_not_depend : MeaningsDoNotDependOnPlaces
do_not_depend places others stmts before passed after rest l m here there long x =
    expressions_alike (meaning (located places stmts) before l) (meaning (located others stmts) passed m)
    (meanings_alike (λ i g. value_at g (places i)) (λ i g. value_at g (others i)) (places_are_alike places others) stmts before passed after rest l m here there long) x
