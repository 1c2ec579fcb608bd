-- What names mean with each statement as a base of its own, and where the statements stand.
use Rattle.std.proofs.Common.{◌≡◌, ℕ, suc, ◌+◌, ◌%◌, ◌<◌, Bool, true, false, cond, ◌||◌, List, [], ◌∷◌, ◌++◌, reverse, length, refl, sym, ap, subst, ◌∙◌, arith}
use Rattle.std.specs.Prelude.{Option, Some, None, Ok, Err, slice_get}
use Rattle.std.specs.List.{list_all}
use Rattle.std.specs.Str.{bytes_eq}
use Rattle.std.proofs.lemmas.Bool.{and_parts}
use Rattle.std.proofs.lemmas.List.{reverse-append, reverse-reverse, length-reverse}
use Rattle.kc_expr.specs.declared.values.Base.TheVariants.{Absolute, Piece, External}
use Rattle.kc_expr.specs.declared.values.Value.{Value}
use Rattle.kc_expr.specs.Tree.{Tree}
use Rattle.kc_expr.specs.Meaning.{Answer, answer_by, is_fixed, plain, here}
use Rattle.kc_obj_module.specs.declared.parts.Taken.{Taken}
use Rattle.kc_source_statement.specs.declared.statement.Stmt.{Stmt}
use Rattle.kc_source_statement.specs.Trees.{ActionTree, action_tree, Equ, Set}
use Rattle.kc_asm_symbols.specs.declared.segments.Segment.{Segment}
use Rattle.kc_asm_symbols.specs.Located.{Located, located, located_by, located_from, is_absolute, base_of, value_at, segment_after, first_segment}
use Rattle.kc_asm_symbols.specs.Externals.{declared, statement_uses_stack, externals, externals_from, external_in, tag_of_taken, stack_name}
use Rattle.kc_asm_symbols.specs.Meanings.{or_reported, is_label, label_answer, external_answer, with_here, is_taken_by, defines, by_definition, behind, earlier, is_set, is_set_by, is_definition, in_all, throughout, meaning}
use Rattle.kc_asm_symbols.proofs.PlaceLemmas.{place_is_no_number}
use Rattle.kc_asm_layout.specs.StatementSizes.{on_its_own}
use Rattle.kc_asm.specs.Characters.{are_bytes, all_bytes, has_bytes}
use Rattle.kc_asm.proofs.Words.{IsWordAnswer, answer_word}
use Rattle.kc_asm_laws.proofs.Expressions.{Reports, DeterminesAnswer, answer_reports}

-- ---- a statement as a base of its own, and where it stands

pub record IsPlaced (place : ℕ → Value) (m l : Located) : Type 0 where
  pub label : m.label ≡ l.label
  pub action : m.action ≡ l.action
  pub segment : m.segment ≡ l.segment
  pub word : m.here.number < 65536
  pub here : Reports place m.here.base m.here.number l.here
  pub characters : all_bytes m.action ≡ true

pub data ArePlaced (place : ℕ → Value) : List Located → List Located → Type 0 where
  none : ArePlaced place [] []
  more : {m l : Located} {ms ls : List Located} → IsPlaced place m l → ArePlaced place ms ls → ArePlaced place (m ∷ ms) (l ∷ ls)

-- what an answer with own bases reports, and that it is a word
pub record IsReported (place : ℕ → Value) (a b : Answer) : Type 0 where
  pub word : IsWordAnswer a
  pub reports : DeterminesAnswer place a b

module _ (place : ℕ → Value) where
  -- ---- parts of lists

  joined : {ms ls ks js : List Located} → ArePlaced place ms ls → ArePlaced place ks js → ArePlaced place (ms ++ ks) (ls ++ js)
  joined none rest = rest
  joined (more one ones) rest = more one (joined ones rest)

  reverse_one : (l : Located) (ls : List Located) → reverse ls ++ l ∷ [] ≡ reverse (l ∷ ls)
  reverse_one l ls = sym (reverse-append (l ∷ []) ls)

  reversed : {ms ls : List Located} → ArePlaced place ms ls → ArePlaced place (reverse ms) (reverse ls)
  reversed none = none
  reversed (more {m} {l} {ms} {ls} one ones) =
      subst (λ (ks : List Located). ArePlaced place ks (reverse (l ∷ ls))) (reverse_one m ms)
      (subst (λ (ks : List Located). ArePlaced place (reverse ms ++ m ∷ []) ks) (reverse_one l ls) (joined (reversed ones) (more one none)))

  record Split (ms ls : List Located) (m l : Located) : Type 0 where
    prefix : ArePlaced place ms ls
    one : IsPlaced place m l

  suc_same : (a b : ℕ) → suc a ≡ suc b → a ≡ b
  suc_same a b e = cc

  split : (ms ls ks js : List Located) (m l : Located) → length ms ≡ length ls → ArePlaced place (ms ++ m ∷ ks) (ls ++ l ∷ js) → Split ms ls m l
  split [] [] ks js m l e (more one ones) = record { prefix = none; one = one }
  split [] (x ∷ ls) ks js m l e a = absurd cc
  split (x ∷ ms) [] ks js m l e a = absurd cc
  split (x ∷ ms) (y ∷ ls) ks js m l e (more one ones) =
      let s : Split ms ls m l = split ms ls ks js m l (suc_same (length ms) (length ls) e) ones in
      record { prefix = more one s.prefix; one = s.one }

  -- ---- externals, labels and names that SET defines

  externals_placed : (used : Bool) {ms ls : List Located} → ArePlaced place ms ls → externals_from used ms ≡ externals_from used ls
  unfolding externals_from
  externals_placed used none = refl
  externals_placed used (more {m} {l} {ms} {ls} one ones) =
      (λ i. declared used (one.segment i).kind (one.action i) ++ externals_from (used || statement_uses_stack (one.action i)) ms)
      ∙ ap (λ rest. declared used l.segment.kind l.action ++ rest) (externals_placed (used || statement_uses_stack l.action) ones)

  either : (x : Bool) (a b c d : Answer) → IsReported place a c → IsReported place b d → IsReported place (cond x a b) (cond x c d)
  either true a b c d first second = first
  either false a b c d first second = second

  external_reported : (n : ℕ) (ts : List Taken) (q : List ℕ) → IsReported place (external_in n ts q) (external_in n ts q)
  unfolding external_in
  external_reported n [] q = record { word = tt; reports = tt }
  external_reported n (t ∷ ts) q =
      let v : Value = record { base = External n; tag = tag_of_taken t; number = 0 } in
      either (bytes_eq q t.name) (Ok v) (external_in (n + 1) ts q) (Ok v) (external_in (n + 1) ts q)
      (record { word = omega arith; reports = record { base = refl; number = refl } }) (external_reported (n + 1) ts q)

  externals_reported : {owned all : List Located} → ArePlaced place owned all → (q : List ℕ) → IsReported place (external_answer owned q) (external_answer all q)
  externals_reported {owned} {all} a q =
      subst (λ (ts : List Taken). IsReported place (external_answer owned q) (external_in 0 ts q)) (externals_placed false a) (external_reported 0 (externals owned) q)

  labels_reported : {ms ls : List Located} → ArePlaced place ms ls → (q : List ℕ) → IsReported place (label_answer ms q) (label_answer ls q)
  unfolding label_answer
  labels_reported none q = record { word = tt; reports = tt }
  labels_reported (more {m} {l} {ms} {ls} one ones) q =
      subst (λ (o : Option (List ℕ)). IsReported place (cond (is_label q m.label) (Ok m.here) (label_answer ms q)) (cond (is_label q o) (Ok l.here) (label_answer ls q))) one.label
      (either (is_label q m.label) (Ok m.here) (label_answer ms q) (Ok l.here) (label_answer ls q) (record { word = one.word; reports = one.here }) (labels_reported ones q))

  sets_placed : {ms ls : List Located} → ArePlaced place ms ls → (q : List ℕ) → is_set ms q ≡ is_set ls q
  unfolding is_set
  sets_placed none q = refl
  sets_placed (more {m} {l} {ms} {ls} one ones) q = λ i. is_set_by (one.action i) q || sets_placed ones q i

  -- ---- definitions

  reported : (a b : Answer) → IsReported place a b → IsReported place (or_reported a) (or_reported b)
  reported (Ok v) (Ok w) h = h
  reported (Ok v) (Err f) h = absurd h.reports
  reported (Err e) b h = record { word = tt; reports = tt }

  answers_reported : (own look : List ℕ → Answer) → ((q : List ℕ) → IsReported place (own q) (look q)) → (x : Tree) → are_bytes x ≡ true → IsReported place (answer_by own x) (answer_by look x)
  answers_reported own look names x characters = record {
    word = answer_word own (λ q. (names q).word) x characters;
    reports = answer_reports place own look (λ q. (names q).word) (λ q. (names q).reports) x characters;
  }

  -- the expression of a definition is one of the statement
  abbrev AreBytes : Option Tree → Type 0
  AreBytes None = Unit {0}
  AreBytes (Some x) = are_bytes x ≡ true

  if_bytes : (b : Bool) (x : Tree) → are_bytes x ≡ true → AreBytes (cond b (Some x) None)
  if_bytes true x h = h
  if_bytes false x h = tt

  defines_bytes : (action : ActionTree) (q : List ℕ) → all_bytes action ≡ true → AreBytes (defines action q)
  defines_bytes (Equ name x) q h = if_bytes (bytes_eq q name) x (and_parts (are_bytes x) true h).0
  defines_bytes (Set name x) q h = if_bytes (bytes_eq q name) x (and_parts (are_bytes x) true h).0
  defines_bytes action q h = tt

  definition_reported : (o : Option Tree) (own look : List ℕ → Answer) (a b : Answer) → AreBytes o → ((q : List ℕ) → IsReported place (own q) (look q)) → IsReported place a b
      → IsReported place (by_definition o own a) (by_definition o look b)
  definition_reported None own look a b characters names rest = rest
  definition_reported (Some x) own look a b characters names rest = reported (answer_by own x) (answer_by look x) (answers_reported own look names x characters)

  -- ---- what names mean

  here_reported : (m l : Located) (own look : List ℕ → Answer) → IsPlaced place m l → ((q : List ℕ) → IsReported place (own q) (look q)) → (q : List ℕ)
      → IsReported place (with_here m.here own q) (with_here l.here look q)
  here_reported m l own look one names q = either (bytes_eq q here) (Ok m.here) (own q) (Ok l.here) (look q) (record { word = one.word; reports = one.here }) (names q)

  earlier_reported : {owned all : List Located} → ArePlaced place owned all → {passed before : List Located} → ArePlaced place passed before → (q : List ℕ)
      → IsReported place (earlier owned passed q) (earlier all before q)
  unfolding earlier
  earlier_reported {owned} {all} a none q =
      either (bytes_eq q stack_name) (external_answer owned q) (label_answer owned q) (external_answer all q) (label_answer all q) (externals_reported a q) (labels_reported a q)
  earlier_reported {owned} {all} a (more {m} {l} {ms} {ls} one ones) q =
      subst (λ (action : ActionTree). IsReported place (behind (external_answer owned) m.action m.here (earlier owned ms) q) (behind (external_answer all) action l.here (earlier all ls) q)) one.action
      (either (is_taken_by m.action q) (external_answer owned q) (by_definition (defines m.action q) (with_here m.here (earlier owned ms)) (earlier owned ms q))
      (external_answer all q) (by_definition (defines m.action q) (with_here l.here (earlier all ls)) (earlier all ls q))
      (externals_reported a q)
      (definition_reported (defines m.action q) (with_here m.here (earlier owned ms)) (with_here l.here (earlier all ls)) (earlier owned ms q) (earlier all ls q)
      (defines_bytes m.action q one.characters)
      (here_reported m l (earlier owned ms) (earlier all ls) one (λ n. earlier_reported a ones n)) (earlier_reported a ones q)))

  throughout_reported : {owned all passed before : List Located} → ArePlaced place owned all → ArePlaced place passed before → (q : List ℕ)
      → IsReported place (throughout owned passed q) (throughout all before q)
  throughout_reported {owned} {all} {passed} {before} a ones q =
      subst (λ (b : Bool). IsReported place (throughout owned passed q) (cond b (earlier all before q) (in_all all q))) (sets_placed a q)
      (either (is_set owned q) (earlier owned passed q) (in_all owned q) (earlier all before q) (in_all all q) (earlier_reported a ones q) (earlier_reported a (reversed a) q))

  by_kind : (b : Bool) {owned all passed before : List Located} → ArePlaced place owned all → ArePlaced place passed before → (q : List ℕ)
      → IsReported place (cond b (earlier owned passed) (throughout owned passed) q) (cond b (earlier all before) (throughout all before) q)
  by_kind true a ones q = earlier_reported a ones q
  by_kind false a ones q = throughout_reported a ones q

  meaning_reported : {owned all passed before : List Located} → ArePlaced place owned all → ArePlaced place passed before → (m l : Located) → IsPlaced place m l → (q : List ℕ)
      → IsReported place (meaning owned passed m q) (meaning all before l q)
  meaning_reported {owned} {all} {passed} {before} a ones m l one q =
      subst (λ (action : ActionTree). IsReported place (meaning owned passed m q) (with_here l.here (cond (is_definition action) (earlier all before) (throughout all before)) q)) one.action
      (here_reported m l (cond (is_definition m.action) (earlier owned passed) (throughout owned passed)) (cond (is_definition m.action) (earlier all before) (throughout all before)) one
      (by_kind (is_definition m.action) a ones) q)

  -- an expression of a statement, where all statements stand at these places
  pub expression_reported : (owned all passed before rest after : List Located) (m l : Located) → ArePlaced place owned all → owned ≡ reverse passed ++ m ∷ rest → all ≡ reverse before ++ l ∷ after
      → length passed ≡ length before → (x : Tree) → are_bytes x ≡ true → IsReported place (answer_by (meaning owned passed m) x) (answer_by (meaning all before l) x)
  expression_reported owned all passed before rest after m l a there whole long x characters =
      let b : ArePlaced place (reverse passed ++ m ∷ rest) (reverse before ++ l ∷ after)
      = subst (λ (ks : List Located). ArePlaced place ks (reverse before ++ l ∷ after)) there (subst (λ (ks : List Located). ArePlaced place owned ks) whole a) in
      let lengths : length (reverse passed) ≡ length (reverse before) = length-reverse passed ∙ long ∙ sym (length-reverse before) in
      let s : Split (reverse passed) (reverse before) m l = split (reverse passed) (reverse before) rest after m l lengths b in
      let prefixes : ArePlaced place passed before
      = subst (λ (ks : List Located). ArePlaced place passed ks) (reverse-reverse before) (subst (λ (ks : List Located). ArePlaced place ks (reverse (reverse before))) (reverse-reverse passed) (reversed s.prefix)) in
      answers_reported (meaning owned passed m) (meaning all before l) (λ q. meaning_reported a prefixes m l s.one q) x characters

-- ---- the places of statements

abbrev pub here_in : Option Located → Value
here_in None = plain 0
here_in (Some l) = l.here

abbrev pub here_at : List Located → ℕ → Value
here_at all number = here_in (slice_get all number)

no_further : (p : ℕ) → p % 65536 ≡ (p % 65536 + 0) % 65536
no_further p = omega arith

placed_from : (places : ℕ → ℕ) (place : ℕ → Value) (i : ℕ) (g : Segment) (ss : List Stmt) → list_all has_bytes ss ≡ true
    → ((j : ℕ) → place (i + j) ≡ here_in (slice_get (located_from (λ k h. value_at h (places k)) i g ss) j))
    → ArePlaced place (located_from on_its_own i g ss) (located_from (λ k h. value_at h (places k)) i g ss)
unfolding located_from
placed_from places place i g [] characters at = none
placed_from places place i g (s ∷ ss) characters at =
    let parts = and_parts (has_bytes s) (list_all has_bytes ss) characters in
    let none_more : i ≡ i + 0 = omega arith in
    let first : place i ≡ value_at g (places i) = ap place none_more ∙ at 0 in
    more
    (record {
      label = refl;
      action = refl;
      segment = refl;
      word = omega arith;
      here = record {
        moves = place_is_no_number g;
        base = λ j. (sym first j).base;
        number = no_further (places i) ∙ (λ j. ((sym first j).number + 0) % 65536);
      };
      characters = parts.0;
    })
    (placed_from places place (i + 1) (segment_after g (action_tree s.action)) ss parts.1 (λ j. let next : (i + 1) + j ≡ i + suc j = omega arith in ap place next ∙ at (suc j)))

pub all_placed : (places : ℕ → ℕ) (stmts : List Stmt) → list_all has_bytes stmts ≡ true
    → ArePlaced (here_at (located places stmts)) (located_by on_its_own stmts) (located places stmts)
all_placed places stmts characters =
    placed_from places (here_at (located places stmts)) 0 first_segment stmts characters (λ j. let same : 0 + j ≡ j = omega arith in ap (here_at (located places stmts)) same)
