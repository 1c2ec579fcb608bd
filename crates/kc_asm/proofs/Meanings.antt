-- What names mean are words where characters are bytes.
use Rattle.std.proofs.Common.{◌≡◌, ℕ, ◌+◌, ◌%◌, ◌<◌, Bool, true, false, cond, ◌&&◌, List, [], ◌∷◌, ◌++◌, reverse, refl, arith}
use Rattle.std.specs.Prelude.{Option, Some, None, Ok, Err, nat_lt}
use Rattle.std.specs.List.{list_all}
use Rattle.std.specs.Str.{bytes_eq}
use Rattle.std.proofs.lemmas.Bool.{and_parts}
use Rattle.std.proofs.lemmas.Bool.Decides.{nat_tests}
use Rattle.kc_expr.specs.declared.values.Base.TheVariants.{External}
use Rattle.kc_expr.specs.declared.values.Value.{Value}
use Rattle.kc_expr.specs.Tree.{Tree}
use Rattle.kc_expr.specs.Meaning.{Answer, answer_by, here}
use Rattle.kc_obj_module.specs.declared.parts.Taken.{Taken}
use Rattle.kc_source_statement.specs.declared.statement.Stmt.{Stmt}
use Rattle.kc_source_statement.specs.Trees.{ActionTree, action_tree, Bare, Module, Cseg, Dseg, Rseg, Sseg, Public, Extrn, Equ, Set, Define, Reserve, Org, Even, End, Operation}
use Rattle.kc_asm_symbols.specs.declared.segments.Segment.{Segment}
use Rattle.kc_asm_symbols.specs.Located.{Located, segment_after, value_at, located_from}
use Rattle.kc_asm_symbols.specs.Externals.{externals, external_in, tag_of_taken, stack_name}
use Rattle.kc_asm_symbols.specs.Meanings.{or_reported, is_label, label_answer, external_answer, with_here, is_taken_by, defines, by_definition, earlier, is_set, is_definition, in_all, throughout, meaning}
use Rattle.kc_asm_symbols.proofs.KnownLemmas.{reverse_test}
pub use Rattle.kc_asm_unlinked_laws.proofs.Lists.{split_test}
use Rattle.kc_asm_unlinked_laws.proofs.Read.{located_test}
use Rattle.kc_asm.specs.Characters.{are_bytes, all_bytes}
use Rattle.kc_asm.proofs.Words.{IsWordAnswer, either, answer_word}

-- ---- tests of lists

-- what holds of the actions of all statements holds of them where they stand
pub standing_test : (p : ActionTree → Bool) (values : ℕ → Segment → Value) (i : ℕ) (g : Segment) (stmts : List Stmt)
    → list_all (λ s. p (action_tree s.action)) stmts ≡ true → list_all (λ l. p l.action) (located_from values i g stmts) ≡ true
standing_test p values i g stmts h = located_test (λ line label action. p action) values i g stmts h

-- ---- places

abbrev place_is_word : Located → Bool
place_is_word l = nat_lt l.here.number 65536

pub places_are_words : (places : ℕ → ℕ) (i : ℕ) (g : Segment) (stmts : List Stmt) → list_all place_is_word (located_from (λ n h. value_at h (places n)) i g stmts) ≡ true
unfolding located_from
places_are_words places i g [] = refl
places_are_words places i g (s ∷ stmts) =
    let first : nat_lt (places i % 65536) 65536 ≡ true = grind (arith, nat_tests) in
    λ k. first k && places_are_words places (i + 1) (segment_after g (action_tree s.action)) stmts k

word : (n : ℕ) → nat_lt n 65536 ≡ true → n < 65536
word n h = grind (arith, nat_tests, h)

-- ---- names

reported_word : (a : Answer) → IsWordAnswer a → IsWordAnswer (or_reported a)
reported_word (Ok v) h = h
reported_word (Err fault) h = tt

external_in_word : (n : ℕ) (ts : List Taken) (q : List ℕ) → IsWordAnswer (external_in n ts q)
unfolding external_in
external_in_word n [] q = tt
external_in_word n (t ∷ ts) q =
    either (bytes_eq q t.name) (Ok (record { base = External n; tag = tag_of_taken t; number = 0 })) (external_in (n + 1) ts q) (omega arith) (external_in_word (n + 1) ts q)

label_word : (ls : List Located) → list_all place_is_word ls ≡ true → (q : List ℕ) → IsWordAnswer (label_answer ls q)
unfolding label_answer
label_word [] h q = tt
label_word (l ∷ ls) h q =
    let parts = and_parts (place_is_word l) (list_all place_is_word ls) h in
    either (is_label q l.label) (Ok l.here) (label_answer ls q) (word l.here.number parts.0) (label_word ls parts.1 q)

-- the expression of a definition is one of the statement
abbrev IsBytesOption : Option Tree → Type 0
IsBytesOption None = Unit {0}
IsBytesOption (Some x) = are_bytes x ≡ true

if_bytes : (b : Bool) (x : Tree) → are_bytes x ≡ true → IsBytesOption (cond b (Some x) None)
if_bytes true x h = h
if_bytes false x h = tt

defines_bytes : (action : ActionTree) (q : List ℕ) → all_bytes action ≡ true → IsBytesOption (defines action q)
defines_bytes (Equ name x) q h = if_bytes (bytes_eq q name) x (and_parts (are_bytes x) true h).0
defines_bytes (Set name x) q h = if_bytes (bytes_eq q name) x (and_parts (are_bytes x) true h).0
defines_bytes Bare q h = tt
defines_bytes (Module name x) q h = tt
defines_bytes (Cseg x) q h = tt
defines_bytes (Dseg x) q h = tt
defines_bytes (Rseg x) q h = tt
defines_bytes (Sseg x) q h = tt
defines_bytes (Public names) q h = tt
defines_bytes (Extrn names) q h = tt
defines_bytes (Define size items) q h = tt
defines_bytes (Reserve size x) q h = tt
defines_bytes (Org x) q h = tt
defines_bytes Even q h = tt
defines_bytes End q h = tt
defines_bytes (Operation name args) q h = tt

definition_word : (o : Option Tree) (look : List ℕ → Answer) (rest : Answer) → IsBytesOption o → ((q : List ℕ) → IsWordAnswer (look q)) → IsWordAnswer rest → IsWordAnswer (by_definition o look rest)
definition_word None look rest b names h = h
definition_word (Some x) look rest b names h = reported_word (answer_by look x) (answer_word look names x b)

here_word : (v : Value) (look : List ℕ → Answer) → v.number < 65536 → ((q : List ℕ) → IsWordAnswer (look q)) → (q : List ℕ) → IsWordAnswer (with_here v look q)
here_word v look h names q = either (bytes_eq q here) (Ok v) (look q) h (names q)

abbrev pub has_all_bytes : Located → Bool
has_all_bytes l = all_bytes l.action

module _ (all : List Located) (places : list_all place_is_word all ≡ true) (texts : list_all has_all_bytes all ≡ true) where
  earlier_word : (before : List Located) → list_all place_is_word before ≡ true → list_all has_all_bytes before ≡ true → (q : List ℕ) → IsWordAnswer (earlier all before q)
  unfolding earlier
  earlier_word [] h k q = either (bytes_eq q stack_name) (external_answer all q) (label_answer all q) (external_in_word 0 (externals all) q) (label_word all places q)
  earlier_word (l ∷ before) h k q =
      let a = and_parts (place_is_word l) (list_all place_is_word before) h in
      let b = and_parts (has_all_bytes l) (list_all has_all_bytes before) k in
      either (is_taken_by l.action q) (external_answer all q) (by_definition (defines l.action q) (with_here l.here (earlier all before)) (earlier all before q)) (external_in_word 0 (externals all) q)
      (definition_word (defines l.action q) (with_here l.here (earlier all before)) (earlier all before q) (defines_bytes l.action q b.0)
      (here_word l.here (earlier all before) (word l.here.number a.0) (earlier_word before a.1 b.1)) (earlier_word before a.1 b.1 q))

  pub in_all_word : (q : List ℕ) → IsWordAnswer (in_all all q)
  in_all_word q = earlier_word (reverse all) (reverse_test place_is_word all places) (reverse_test has_all_bytes all texts) q

  by_kind : (b : Bool) (before : List Located) → list_all place_is_word before ≡ true → list_all has_all_bytes before ≡ true → (q : List ℕ) → IsWordAnswer (cond b (earlier all before) (throughout all before) q)
  by_kind true before h k q = earlier_word before h k q
  by_kind false before h k q = either (is_set all q) (earlier all before q) (in_all all q) (earlier_word before h k q) (in_all_word q)

  pub meaning_word : (before after : List Located) (l : Located) → all ≡ reverse before ++ l ∷ after → (q : List ℕ) → IsWordAnswer (meaning all before l q)
  meaning_word before after l whole q =
      let a = split_test place_is_word all before after l places whole in
      let b = split_test has_all_bytes all before after l texts whole in
      here_word l.here (cond (is_definition l.action) (earlier all before) (throughout all before)) (word l.here.number a.1)
      (by_kind (is_definition l.action) before a.0 b.0) q
