-- A walk over the statements with all of them at 0 and with each as a base of its own, one statement at a time.
use Rattle.std.proofs.Common.{◌≡◌, ℕ, zero, suc, ◌+◌, ◌<◌, ◌≤◌, List, [], ◌∷◌, ◌++◌, length, drop, refl, sym, ap, subst, ◌∙◌, append_assoc, arith}
use Rattle.std.proofs.lemmas.List.{append-nil}
use Rattle.std.proofs.Math.ListN.{drop_of_length-le}
use Rattle.kc_expr.specs.declared.values.Value.{Value}
use Rattle.kc_source_statement.specs.declared.statement.Stmt.{Stmt}
use Rattle.kc_source_statement.specs.Trees.{action_tree}
use Rattle.kc_asm_symbols.specs.declared.meanings.Meanings.{Meanings}
use Rattle.kc_asm_symbols.specs.declared.segments.Segment.{Segment}
use Rattle.kc_asm_symbols.specs.Located.{Located, located_by, located_from, located_at, place_values, segment_after, first_segment}
use Rattle.kc_asm_symbols.specs.Meanings.{meaning}
use Rattle.kc_asm_symbols.specs.Walk.{IsBehind, IsAt, at_statement}
use Rattle.kc_asm_symbols.proofs.ValueLemmas.{value_more}
use Rattle.kc_asm_symbols.proofs.WalkLemmas.{one_located, none_located}
use Rattle.kc_asm_layout.specs.declared.size_record.SizeRecord.{SizeRecord}
use Rattle.kc_asm_layout.specs.StatementSizes.{at_zero, on_its_own, size_record_of, size_records_from, statement_sizes}

-- ---- the values of own places

pub own_starts : (vs : List Value) (ss : List Stmt) → vs ≡ [] → vs ++ place_values (located_from on_its_own 0 first_segment ss) ≡ place_values (located_by on_its_own ss)
own_starts vs ss none = ap (λ (us : List Value). us ++ place_values (located_from on_its_own 0 first_segment ss)) none

has_prefix : (ss : List Stmt) (i : ℕ) → i < length ss → (s : Stmt) × (drop i ss ≡ s ∷ drop (i + 1) ss)
has_prefix [] i within = absurd (omega arith)
has_prefix (s ∷ ss) zero within = (s, refl)
has_prefix (s ∷ ss) (suc i) within =
    let next : suc i + 1 ≡ suc (i + 1) = omega arith in
    let f = has_prefix ss i (omega arith) in
    (f.0, f.1 ∙ ap (λ (n : ℕ). f.0 ∷ drop n (s ∷ ss)) (sym next))

pub own_more : (i : ℕ) (g : Segment) (ss : List Stmt) (vs ws : List Value) (v : Value) → i < length ss → v ≡ on_its_own i g → ws ≡ vs ++ v ∷ []
    → vs ++ place_values (located_from on_its_own i g (drop i ss)) ≡ place_values (located_by on_its_own ss)
    → (h : Segment) × (ws ++ place_values (located_from on_its_own (i + 1) h (drop (i + 1) ss)) ≡ place_values (located_by on_its_own ss))
own_more i g ss vs ws v within is grown so_far =
    let f = has_prefix ss i within in
    let all = place_values (located_by on_its_own ss) in
    let h = segment_after g (action_tree f.0.action) in (
      h,
      value_more on_its_own i g h f.0 (drop (i + 1) ss) vs ws all refl (grown ∙ ap (λ (u : Value). vs ++ u ∷ []) is)
          (subst (λ (rest : List Stmt). vs ++ place_values (located_from on_its_own i g rest) ≡ all) f.1 so_far),
    )

-- ---- the size records

abbrev pub zeros_from : ℕ → Segment → List Stmt → List Located
zeros_from i g ss = located_from at_zero i g ss

abbrev pub owns_from : ℕ → Segment → List Stmt → List Located
owns_from i g ss = located_from on_its_own i g ss

one_size_record : (zeros owns before passed ls ms : List Located) (l m : Located)
    → size_records_from zeros owns before passed (l ∷ ls) (m ∷ ms) ≡ size_record_of (meaning zeros before l) (meaning owns passed m) l ∷ size_records_from zeros owns (l ∷ before) (m ∷ passed) ls ms
unfolding size_records_from
one_size_record zeros owns before passed ls ms l m = refl

no_size_record : (zeros owns before passed ms : List Located) → size_records_from zeros owns before passed [] ms ≡ []
unfolding size_records_from
no_size_record zeros owns before passed ms = refl

-- the statements that both walks have passed, the latest first, and the size records of those that are left
pub record Walked (look own : Meanings) (size_records : List SizeRecord) (i : ℕ) (g : Segment) (stmts rest : List Stmt) : Type 0 where
  pub before : List Located
  pub passed : List Located
  pub look_is : IsBehind look (located_by at_zero stmts) before
  pub own_is : IsBehind own (located_by on_its_own stmts) passed
  pub so_far : size_records ++ size_records_from (located_by at_zero stmts) (located_by on_its_own stmts) before passed (zeros_from i g rest) (owns_from i g rest) ≡ statement_sizes stmts

pub walk_starts : (look own : Meanings) (size_records : List SizeRecord) (g : Segment) (stmts : List Stmt) → size_records ≡ [] → g ≡ first_segment
    → IsBehind look (located_by at_zero stmts) [] → IsBehind own (located_by on_its_own stmts) [] → Walked look own size_records 0 g stmts stmts
walk_starts look own size_records g stmts none first look_is own_is = record {
  before = [];
  passed = [];
  look_is = look_is;
  own_is = own_is;
  so_far = λ j. none j ++ size_records_from (located_by at_zero stmts) (located_by on_its_own stmts) [] [] (zeros_from 0 (first j) stmts) (owns_from 0 (first j) stmts);
}

-- one size record more
pub size_record_more : (zeros owns before passed : List Located) (size_records more : List SizeRecord) (i : ℕ) (g h : Segment) (s : Stmt) (rest : List Stmt) (n : SizeRecord) (all : List SizeRecord)
    → h ≡ segment_after g (action_tree s.action) → more ≡ size_records ++ n ∷ []
    → n ≡ size_record_of (meaning zeros before (located_at g (at_zero i g) s)) (meaning owns passed (located_at g (on_its_own i g) s)) (located_at g (at_zero i g) s)
    → size_records ++ size_records_from zeros owns before passed (zeros_from i g (s ∷ rest)) (owns_from i g (s ∷ rest)) ≡ all
    → more ++ size_records_from zeros owns (located_at g (at_zero i g) s ∷ before) (located_at g (on_its_own i g) s ∷ passed) (zeros_from (i + 1) h rest) (owns_from (i + 1) h rest) ≡ all
size_record_more zeros owns before passed size_records more i g h s rest n all moved grown is so_far =
    let l = located_at g (at_zero i g) s in
    let m = located_at g (on_its_own i g) s in
    let k = segment_after g (action_tree s.action) in
    let later = size_records_from zeros owns (l ∷ before) (m ∷ passed) (zeros_from (i + 1) k rest) (owns_from (i + 1) k rest) in
    (λ j. grown j ++ size_records_from zeros owns (l ∷ before) (m ∷ passed) (zeros_from (i + 1) (moved j) rest) (owns_from (i + 1) (moved j) rest))
    ∙ append_assoc size_records (n ∷ []) later
    ∙ ap (λ x. size_records ++ x ∷ later) is
    ∙ ap (λ ns. size_records ++ ns) (sym (one_size_record zeros owns before passed (zeros_from (i + 1) k rest) (owns_from (i + 1) k rest) l m))
    ∙ (λ j. size_records ++ size_records_from zeros owns before passed (sym (one_located at_zero i g s rest) j) (sym (one_located on_its_own i g s rest) j))
    ∙ so_far

-- over one statement, which is entered and left
pub walk_more : (look looking looked own owning owned : Meanings) (size_records more : List SizeRecord) (n : SizeRecord) (i : ℕ) (g h : Segment) (stmts rest : List Stmt) (s : Stmt) (v w : Value)
    → v ≡ at_zero i g → w ≡ on_its_own i g → h ≡ segment_after g (action_tree s.action)
    → ((all before : List Located) (k : Segment) → IsBehind look all before → IsAt looking all before (located_at k v s))
    → ((all before : List Located) (k : Segment) → IsBehind own all before → IsAt owning all before (located_at k w s))
    → ((all before : List Located) (l : Located) → IsAt looking all before l → l.action ≡ action_tree s.action → IsBehind looked all (l ∷ before))
    → ((all before : List Located) (l : Located) → IsAt owning all before l → l.action ≡ action_tree s.action → IsBehind owned all (l ∷ before))
    → n ≡ size_record_of (at_statement looking) (at_statement owning) (located_at g v s) → more ≡ size_records ++ n ∷ []
    → Walked look own size_records i g stmts (s ∷ rest) → Walked looked owned more (i + 1) h stmts rest
walk_more look looking looked own owning owned size_records more n i g h stmts rest s v w zero_at own_at moved enters owner leaves owner_leaves is grown walked =
    let zeros = located_by at_zero stmts in
    let owns = located_by on_its_own stmts in
    let l = located_at g (at_zero i g) s in
    let m = located_at g (on_its_own i g) s in
    let at_l : IsAt looking zeros walked.before l = subst (λ (u : Value). IsAt looking zeros walked.before (located_at g u s)) zero_at (enters zeros walked.before g walked.look_is) in
    let at_m : IsAt owning owns walked.passed m = subst (λ (u : Value). IsAt owning owns walked.passed (located_at g u s)) own_at (owner owns walked.passed g walked.own_is) in
    record {
      before = l ∷ walked.before;
      passed = m ∷ walked.passed;
      look_is = leaves zeros walked.before l at_l refl;
      own_is = owner_leaves owns walked.passed m at_m refl;
      so_far = size_record_more zeros owns walked.before walked.passed size_records more i g h s rest n (statement_sizes stmts) moved grown
          (is ∙ (λ j. size_record_of (at_l.means j) (at_m.means j) (located_at g (zero_at j) s))) walked.so_far;
    }

pub walk_ends : (look own : Meanings) (size_records : List SizeRecord) (i : ℕ) (g : Segment) (stmts : List Stmt) → length stmts ≤ i → Walked look own size_records i g stmts (drop i stmts) → size_records ≡ statement_sizes stmts
walk_ends look own size_records i g stmts past w =
    let zeros = located_by at_zero stmts in
    let owns = located_by on_its_own stmts in
    sym (append-nil size_records)
    ∙ ap (λ ns. size_records ++ ns) (sym (no_size_record zeros owns w.before w.passed (owns_from i g (drop i stmts))))
    ∙ ap (λ ls. size_records ++ size_records_from zeros owns w.before w.passed ls (owns_from i g (drop i stmts))) (sym (none_located at_zero i g) ∙ ap (zeros_from i g) (sym (drop_of_length-le stmts past)))
    ∙ w.so_far

-- ---- as many size records as statements

count_from : (zeros owns before passed : List Located) (i : ℕ) (g : Segment) (ss : List Stmt)
    → length (size_records_from zeros owns before passed (zeros_from i g ss) (owns_from i g ss)) ≡ length ss
unfolding size_records_from located_from
count_from zeros owns before passed i g [] = refl
count_from zeros owns before passed i g (s ∷ ss) =
    ap suc (count_from zeros owns (located_at g (at_zero i g) s ∷ before) (located_at g (on_its_own i g) s ∷ passed) (i + 1) (segment_after g (action_tree s.action)) ss)

pub size_record_count : (stmts : List Stmt) → length (statement_sizes stmts) ≡ length stmts
size_record_count stmts = count_from (located_by at_zero stmts) (located_by on_its_own stmts) [] [] 0 first_segment stmts
