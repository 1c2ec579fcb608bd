-- What names mean by the statements before one, a statement at a time.
use Rattle.std.proofs.Common.{◌≡◌, ℕ, suc, ◌+◌, ◌<◌, ◌≤◌, Bool, true, false, cond, ◌||◌, List, [], ◌∷◌, length, drop, get_or, refl, sym, ap, subst, ◌∙◌, arith}
use Rattle.std.specs.Prelude.{Option, Some, None, Ok, Err}
use Rattle.std.specs.List.{list_any}
use Rattle.std.specs.Str.{bytes_eq}
use Rattle.std.specs.Cmp.Lexicographic.{bytes_decides}
use Rattle.std.proofs.Math.Seq.{drop-cons, drop-length}
use Rattle.std.proofs.Math.ListN.{drop_of_length-le}
use Rattle.kc_lex.specs.declared.fault.SourceCode.TheVariants.{NotDefined}
use Rattle.kc_obj_module.specs.declared.parts.Taken.{Taken}
use Rattle.kc_expr.specs.declared.values.Base.TheVariants.{External}
use Rattle.kc_expr.specs.declared.values.Value.{Value}
use Rattle.kc_expr.specs.declared.values.NoValue.TheVariants.{Fault}
use Rattle.kc_expr.specs.Tree.{Tree}
use Rattle.kc_expr.specs.Meaning.{Answer, answer_by, plain}
use Rattle.kc_source_statement.specs.declared.statement.Stmt.{Stmt}
use Rattle.kc_source_statement.specs.Trees.{action_tree}
use Rattle.kc_asm_symbols.specs.declared.segments.Segment.{Segment}
use Rattle.kc_asm_symbols.specs.Tables.{updated, nothing}
use Rattle.kc_asm_symbols.specs.Located.{Located, located_by, located_from, listed, segment_after, first_segment}
use Rattle.kc_asm_symbols.specs.Externals.{external_in, tag_of_taken, stack_name}
use Rattle.kc_asm_symbols.specs.Meanings.{or_reported, is_label, label_answer, everywhere, external_answer, first_of, with_label, with_taken, by_definition, earlier}

-- ---- externals

no_external : (n : ℕ) → external_in n [] ≡ nothing
unfolding external_in
no_external n = refl

pub no_externals : (ts : List Taken) (look : List ℕ → Answer) → look ≡ nothing → look ≡ external_in (length ts) (drop (length ts) ts)
no_externals ts look none = none ∙ sym (no_external (length ts)) ∙ ap (external_in (length ts)) (sym (drop-length ts))

one_external : (n : ℕ) (t : Taken) (ts : List Taken) → external_in n (t ∷ ts) ≡ updated t.name (Ok (record { base = External n; tag = tag_of_taken t; number = 0 })) (external_in (n + 1) ts)
unfolding external_in
one_external n t ts = refl

pub external_more : (ts : List Taken) (left n : ℕ) (t : Taken) (v : Value) (look next : List ℕ → Answer) → n + 1 ≡ left → n < length ts → t ≡ get_or ts n t → v ≡ record { base = External n; tag = tag_of_taken t; number = 0 }
    → look ≡ external_in left (drop left ts) → next ≡ updated t.name (Ok v) look → next ≡ external_in n (drop n ts)
external_more ts left n t v look next follows within is value so_far grown =
    let next_is : suc n ≡ left = omega arith in
    let prefix : drop n ts ≡ t ∷ drop left ts = drop-cons ts n t within ∙ (λ i. sym is i ∷ drop (next_is i) ts) in
    grown ∙ (λ i. updated t.name (Ok (value i)) (so_far i)) ∙ ap (λ k. updated t.name (Ok (record { base = External n; tag = tag_of_taken t; number = 0 })) (external_in k (drop left ts))) (sym follows)
    ∙ sym (one_external n t (drop left ts)) ∙ ap (external_in n) (sym prefix)

-- ---- labels

-- an answer whose fault is that the name means nothing
abbrev pub cleaned : Answer → Answer
cleaned (Ok v) = Ok v
cleaned (Err fault) = Err (Fault NotDefined)

first_of_label : (a : Answer) (b : Bool) (v : Value) (rest : Answer) → first_of (first_of a (cond b (Ok v) a)) rest ≡ first_of a (cond b (Ok v) rest)
first_of_label (Ok w) b v rest = refl
first_of_label (Err fault) true v rest = refl
first_of_label (Err fault) false v rest = refl

clean_label : (a : Answer) (b : Bool) (v : Value) → cleaned a ≡ a → cleaned (first_of a (cond b (Ok v) a)) ≡ first_of a (cond b (Ok v) a)
clean_label (Ok w) b v e = refl
clean_label (Err fault) true v e = refl
clean_label (Err fault) false v e = e

one_label : (values : ℕ → Segment → Value) (i : ℕ) (g : Segment) (s : Stmt) (ss : List Stmt) (q : List ℕ)
    → label_answer (located_from values i g (s ∷ ss)) q ≡ cond (is_label q s.label) (Ok (values i g)) (label_answer (located_from values (i + 1) (segment_after g (action_tree s.action)) ss) q)
unfolding label_answer located_from
one_label values i g s ss q = refl

-- so far these names, and the labels from one statement on, with values by a list
pub record Labelling (vs : List Value) (i : ℕ) (ss : List Stmt) (look all : List ℕ → Answer) : Type 0 where
  pub segment : Segment
  pub so_far : (q : List ℕ) → first_of (look q) (label_answer (located_from (listed vs) i segment ss) q) ≡ all q

pub labels_start : (vs : List Value) (ss : List Stmt) (look : List ℕ → Answer) → look ≡ nothing → Labelling vs 0 ss look (label_answer (located_by (listed vs) ss))
labels_start vs ss look none = record { segment = first_segment; so_far = λ q i. first_of (none i q) (label_answer (located_by (listed vs) ss) q) }

pub label_more : (vs : List Value) (i : ℕ) (v : Value) (s : Stmt) (ss : List Stmt) (look next all : List ℕ → Answer)
    → v ≡ get_or vs i (plain 0) → next ≡ with_label s.label v look → Labelling vs i (s ∷ ss) look all → Labelling vs (i + 1) ss next all
label_more vs i v s ss look next all value grown l =
    let g = l.segment in
    let u = get_or vs i (plain 0) in
    let h = segment_after g (action_tree s.action) in
    let with : next ≡ with_label s.label u look = grown ∙ ap (λ w. with_label s.label w look) value in
    record {
      segment = h;
      so_far = λ q. (λ j. first_of (with j q) (label_answer (located_from (listed vs) (i + 1) h ss) q))
          ∙ first_of_label (look q) (is_label q s.label) u (label_answer (located_from (listed vs) (i + 1) h ss) q)
          ∙ ap (first_of (look q)) (sym (one_label (listed vs) i g s ss q)) ∙ l.so_far q;
    }

pub clean_more : (label : Option (List ℕ)) (v : Value) (look next : List ℕ → Answer) → next ≡ with_label label v look → ((q : List ℕ) → cleaned (look q) ≡ look q) → (q : List ℕ) → cleaned (next q) ≡ next q
clean_more label v look next grown clean q = subst (λ (f : List ℕ → Answer). cleaned (f q) ≡ f q) (sym grown) (clean_label (look q) (is_label q label) v (clean q))

no_label : (values : ℕ → Segment → Value) (i : ℕ) (g : Segment) (q : List ℕ) → label_answer (located_from values i g []) q ≡ Err (Fault NotDefined)
unfolding label_answer located_from
no_label values i g q = refl

first_or_none : (a : Answer) → first_of a (Err (Fault NotDefined)) ≡ cleaned a
first_or_none (Ok v) = refl
first_or_none (Err fault) = refl

pub all_labels : (vs : List Value) (i : ℕ) (ss : List Stmt) (look all : List ℕ → Answer) → length ss ≤ i → ((q : List ℕ) → cleaned (look q) ≡ look q)
    → Labelling vs i (drop i ss) look all → look ≡ all
all_labels vs i ss look all past clean l =
    let each : (q : List ℕ) → look q ≡ all q
    = λ q. sym (clean q) ∙ sym (first_or_none (look q)) ∙ ap (first_of (look q)) (sym (no_label (listed vs) i l.segment q))
    ∙ ap (λ rest. first_of (look q) (label_answer (located_from (listed vs) i l.segment rest) q)) (sym (drop_of_length-le ss past)) ∙ l.so_far q in
    λ j q. each q j

-- ---- STACK

pub stack_set : (all : List Located) (labels external next : List ℕ → Answer) → labels ≡ label_answer all → external ≡ external_answer all → next ≡ updated stack_name (external stack_name) labels
    → next ≡ earlier all []
unfolding earlier
stack_set all labels external next label ext grown =
    let each : (q : List ℕ) → updated stack_name (external stack_name) labels q ≡ everywhere all q
    = λ q. (λ i. cond (bytes_eq q stack_name) (ext i stack_name) (label i q)) ∙ elim (bytes_eq q stack_name) as (λ b. bytes_eq q stack_name ≡ b → cond b (external_answer all stack_name) (label_answer all q) ≡ cond b (external_answer all q) (label_answer all q)) [
      | true ↦ λ e. ap (external_answer all) (sym ((bytes_decides q stack_name).0 e))
      | false ↦ λ e. refl
    ] refl in
    grown ∙ (λ i q. each q i)

-- ---- EXTRN

one_taken : (external look : List ℕ → Answer) (n : List ℕ) (ns : List (List ℕ)) (q : List ℕ) → with_taken external ns (updated n (external n) look) q ≡ with_taken external (n ∷ ns) look q
one_taken external look n ns q =
    elim (bytes_eq q n) as (λ b. bytes_eq q n ≡ b → cond (list_any (bytes_eq q) ns) (external q) (cond b (external n) (look q)) ≡ cond (b || list_any (bytes_eq q) ns) (external q) (look q)) [
      | true ↦ λ e. ap (λ a. cond (list_any (bytes_eq q) ns) (external q) a) (ap external (sym ((bytes_decides q n).0 e))) ∙ same (list_any (bytes_eq q) ns) (external q)
      | false ↦ λ e. refl
    ] refl
  where
    same : (b : Bool) (a : Answer) → cond b a a ≡ a
    same true a = refl
    same false a = refl

pub taken_more : (external look next all : List ℕ → Answer) (n : List ℕ) (ns : List (List ℕ)) → next ≡ updated n (external n) look → with_taken external (n ∷ ns) look ≡ all → with_taken external ns next ≡ all
taken_more external look next all n ns grown so_far = ap (with_taken external ns) grown ∙ (λ i q. one_taken external look n ns q i) ∙ so_far

-- ---- EQU and SET

by_test : (b : Bool) (x : Tree) (look : List ℕ → Answer) (rest : Answer) → cond b (or_reported (answer_by look x)) rest ≡ by_definition (cond b (Some x) None) look rest
by_test true x look rest = refl
by_test false x look rest = refl

pub defined : (name : List ℕ) (x : Tree) (at look next : List ℕ → Answer) (a : Answer) → a ≡ or_reported (answer_by at x) → next ≡ updated name a look
    → next ≡ (λ q. by_definition (cond (bytes_eq q name) (Some x) None) at (look q))
defined name x at look next a value grown =
    grown ∙ ap (λ b. updated name b look) value ∙ (λ i q. by_test (bytes_eq q name) x at (look q) i)
