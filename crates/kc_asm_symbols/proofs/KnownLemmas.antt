-- What names mean counts from known bases.
use Rattle.std.proofs.Common.{◌≡◌, ℕ, ◌+◌, ◌<◌, ◌≤◌, Bool, true, false, cond, ◌&&◌, List, [], ◌∷◌, ◌++◌, reverse, length, refl, sym, ap, ◌∙◌, arith}
use Rattle.std.specs.Prelude.{Option, Some, None, Ok, Err}
use Rattle.std.specs.List.{list_all}
use Rattle.std.specs.Str.{bytes_eq}
use Rattle.std.proofs.lemmas.List.{reverse-append}
use Rattle.std.proofs.lemmas.List.Folds.{list_all-append}
use Rattle.std.proofs.lemmas.List.Sums.{list_all-from_AllPass}
use Rattle.kc_expr.specs.declared.values.Base.{Base}
use Rattle.kc_expr.specs.declared.values.Base.TheVariants.{Fixed, Absolute, External}
use Rattle.kc_expr.specs.declared.values.Value.{Value}
use Rattle.kc_expr.specs.Tree.{Tree}
use Rattle.kc_expr.specs.Meaning.{Answer, answer_by, here}
use Rattle.kc_expr.specs.Known.{is_known}
use Rattle.kc_expr.proofs.KnownLemmas.{answer_known}
use Rattle.kc_obj_module.specs.declared.parts.Taken.{Taken}
use Rattle.kc_asm_symbols.specs.Located.{Located}
use Rattle.kc_asm_symbols.specs.Externals.{externals, external_in, tag_of_taken, stack_name}
use Rattle.kc_asm_symbols.specs.Meanings.{or_reported, is_label, label_answer, external_answer, with_here, is_taken_by, defines, by_definition, earlier, is_set, is_definition, in_all, throughout, meaning}
use Rattle.kc_asm_symbols.specs.Known.{BasesAreKnown}

both : (x y : Bool) → (x && y) ≡ true → (x ≡ true) × (y ≡ true)
both true true e = (refl, refl)
both true false e = absurd cc
both false y e = absurd cc

-- ---- tests of lists

pub test_reverse : {X : Type 0} (p : X → Bool) (xs : List X) → list_all p (reverse xs) ≡ true → list_all p xs ≡ true
test_reverse p [] e = refl
test_reverse p (x ∷ xs) e =
    let split : list_all p (reverse (x ∷ xs)) ≡ (list_all p (reverse xs) && list_all p (x ∷ [])) = ap (list_all p) (reverse-append (x ∷ []) xs) ∙ list_all-append p (reverse xs) (x ∷ []) in
    let parts = both (list_all p (reverse xs)) (list_all p (x ∷ [])) (sym split ∙ e) in
    λ i. (both (p x) true parts.1).0 i && test_reverse p xs parts.0 i

pub reverse_test : {X : Type 0} (p : X → Bool) (xs : List X) → list_all p xs ≡ true → list_all p (reverse xs) ≡ true
reverse_test p [] e = refl
reverse_test p (x ∷ xs) e =
    let parts = both (p x) (list_all p xs) e in
    ap (list_all p) (reverse-append (x ∷ []) xs) ∙ list_all-append p (reverse xs) (x ∷ []) ∙ (λ i. reverse_test p xs parts.1 i && (parts.0 i && true))

module _ (known : Base → Bool) (fixed : known Fixed ≡ true) (absolute : known Absolute ≡ true) where
  abbrev place_known : Located → Bool
  place_known l = known l.here.base

  either : (x : Bool) (a b : Answer) → is_known known a ≡ true → is_known known b ≡ true → is_known known (cond x a b) ≡ true
  either true a b h k = h
  either false a b h k = k

  reported_known : (a : Answer) → is_known known a ≡ true → is_known known (or_reported a) ≡ true
  reported_known (Ok v) h = h
  reported_known (Err fault) h = refl

  one_external_known : (n : ℕ) (t : Taken) (ts : List Taken) (q : List ℕ) → known (External n) ≡ true → is_known known (external_in (n + 1) ts q) ≡ true → is_known known (external_in n (t ∷ ts) q) ≡ true
  unfolding external_in
  one_external_known n t ts q first rest = either (bytes_eq q t.name) (Ok (record { base = External n; tag = tag_of_taken t; number = 0 })) (external_in (n + 1) ts q) first rest

  none_known : (n : ℕ) (q : List ℕ) → is_known known (external_in n [] q) ≡ true
  unfolding external_in
  none_known n q = refl

  external_in_known : (n : ℕ) (ts : List Taken) → ((e : ℕ) → n ≤ e → e < n + length ts → known (External e) ≡ true) → (q : List ℕ) → is_known known (external_in n ts q) ≡ true
  external_in_known n [] h q = none_known n q
  external_in_known n (t ∷ ts) h q =
      one_external_known n t ts q (h n (omega arith) (omega arith)) (external_in_known (n + 1) ts (λ e low high. h e (omega arith) (omega arith)) q)

  label_known : (ls : List Located) → list_all place_known ls ≡ true → (q : List ℕ) → is_known known (label_answer ls q) ≡ true
  unfolding label_answer
  label_known [] h q = refl
  label_known (l ∷ ls) h q =
      let parts = both (place_known l) (list_all place_known ls) h in
      either (is_label q l.label) (Ok l.here) (label_answer ls q) parts.0 (label_known ls parts.1 q)

  definition_known : (o : Option Tree) (look : List ℕ → Answer) (rest : Answer) → ((q : List ℕ) → is_known known (look q) ≡ true) → is_known known rest ≡ true → is_known known (by_definition o look rest) ≡ true
  definition_known None look rest names h = h
  definition_known (Some x) look rest names h = reported_known (answer_by look x) (answer_known known fixed absolute look names x)

  here_known : (v : Value) (look : List ℕ → Answer) → known v.base ≡ true → ((q : List ℕ) → is_known known (look q) ≡ true) → (q : List ℕ) → is_known known (with_here v look q) ≡ true
  here_known v look h names q = either (bytes_eq q here) (Ok v) (look q) h (names q)

  module _ (all : List Located) (places : list_all place_known all ≡ true) (taken : (q : List ℕ) → is_known known (external_answer all q) ≡ true) where
    earlier_known : (before : List Located) → list_all place_known before ≡ true → (q : List ℕ) → is_known known (earlier all before q) ≡ true
    unfolding earlier
    earlier_known [] h q = either (bytes_eq q stack_name) (external_answer all q) (label_answer all q) (taken q) (label_known all places q)
    earlier_known (l ∷ before) h q =
        let parts = both (place_known l) (list_all place_known before) h in
        either (is_taken_by l.action q) (external_answer all q) (by_definition (defines l.action q) (with_here l.here (earlier all before)) (earlier all before q)) (taken q)
        (definition_known (defines l.action q) (with_here l.here (earlier all before)) (earlier all before q)
        (here_known l.here (earlier all before) parts.0 (earlier_known before parts.1)) (earlier_known before parts.1 q))

    in_all_known : (q : List ℕ) → is_known known (in_all all q) ≡ true
    in_all_known q = earlier_known (reverse all) (reverse_test place_known all places) q

    by_kind : (b : Bool) (before : List Located) → list_all place_known before ≡ true → (q : List ℕ) → is_known known (cond b (earlier all before) (throughout all before) q) ≡ true
    by_kind true before h q = earlier_known before h q
    by_kind false before h q = either (is_set all q) (earlier all before q) (in_all all q) (earlier_known before h q) (in_all_known q)

    meaning_known : (before after : List Located) (l : Located) → all ≡ reverse before ++ l ∷ after → (q : List ℕ) → is_known known (meaning all before l q) ≡ true
    meaning_known before after l whole q =
        let split = sym (list_all-append place_known (reverse before) (l ∷ after)) ∙ ap (list_all place_known) (sym whole) ∙ places in
        let parts = both (list_all place_known (reverse before)) (list_all place_known (l ∷ after)) split in
        let one = both (place_known l) (list_all place_known after) parts.1 in
        here_known l.here (cond (is_definition l.action) (earlier all before) (throughout all before)) one.0
        (by_kind (is_definition l.action) before (test_reverse place_known before parts.0)) q

pub bases_known : BasesAreKnown
bases_known known fixed absolute all taken places =
    let tested : list_all (λ l. known l.here.base) all ≡ true = list_all-from_AllPass (λ l. known l.here.base) all places in
    let names : (q : List ℕ) → is_known known (external_answer all q) ≡ true = external_in_known known fixed absolute 0 (externals all) (λ e low high. taken e (omega (arith, high))) in
    record {
      at = λ before after l whole name. meaning_known known fixed absolute all tested names before after l whole name;
      last = λ name. in_all_known known fixed absolute all tested names name;
    }
