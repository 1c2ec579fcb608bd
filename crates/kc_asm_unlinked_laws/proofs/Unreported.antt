-- Where no statement has a fault, no name has a fault that is reported elsewhere.
use Rattle.std.proofs.Common.{◌≡◌, ℕ, ◌+◌, Bool, true, false, cond, List, [], ◌∷◌, ◌++◌, reverse, refl, sym, ap, ◌∙◌, append_assoc}
use Rattle.std.specs.Prelude.{Some, None, Ok, Err}
use Rattle.std.specs.Str.{bytes_eq}
use Rattle.std.proofs.lemmas.List.{reverse-append}
use Rattle.kc_obj_module.specs.declared.parts.Taken.{Taken}
use Rattle.kc_expr.specs.declared.values.Value.{Value}
use Rattle.kc_expr.specs.declared.values.NoValue.TheVariants.{Fault, ReportedElsewhere}
use Rattle.kc_expr.specs.declared.values.Base.TheVariants.{External}
use Rattle.kc_expr.specs.Tree.{Tree}
use Rattle.kc_expr.specs.Meaning.{Answer, answer_by, here}
use Rattle.kc_expr.proofs.UnreportedLemmas.{is_reported, AreUnreported, either, expression_unreported}
use Rattle.kc_source_statement.specs.Trees.{ActionTree}
use Rattle.kc_source_statement.specs.Trees as trees
use Rattle.kc_asm_symbols.specs.Located.{Located}
use Rattle.kc_asm_symbols.specs.Externals.{externals, external_in, tag_of_taken, stack_name}
use Rattle.kc_asm_symbols.specs.Meanings.{or_reported, is_label, label_answer, external_answer, with_here, is_taken_by, defines, by_definition, earlier, is_set, is_definition, in_all, throughout, meaning}
use Rattle.kc_asm_emit.specs.Arguments.{Look}
use Rattle.kc_asm_emit.specs.Faults.{value_faults, faults_in, faults_of}

-- ---- names

external_in_unreported : (n : ℕ) (ts : List Taken) → AreUnreported (external_in n ts)
unfolding external_in
external_in_unreported n [] q = refl
external_in_unreported n (t ∷ ts) q = either (bytes_eq q t.name) (Ok (record { base = External n; tag = tag_of_taken t; number = 0 })) (external_in (n + 1) ts q) refl (external_in_unreported (n + 1) ts q)

label_unreported : (ls : List Located) → AreUnreported (label_answer ls)
unfolding label_answer
label_unreported [] q = refl
label_unreported (l ∷ ls) q = either (is_label q l.label) (Ok l.here) (label_answer ls q) refl (label_unreported ls q)

here_unreported : (v : Value) (look : Look) → AreUnreported look → AreUnreported (with_here v look)
here_unreported v look h q = either (bytes_eq q here) (Ok v) (look q) refl (h q)

-- an answer without a fault that is reported here or elsewhere is a value
abbrev pub HasValue : Answer → Type 0
HasValue a = (v : Value) × (a ≡ Ok v)

a_value : (a : Answer) → is_reported a ≡ false → faults_in a ≡ [] → HasValue a
a_value (Ok v) h e = (v, refl)
a_value (Err (Fault code)) h e = absurd cc
a_value (Err ReportedElsewhere) h e = absurd cc

pub value_of_expression : (look : Look) → AreUnreported look → (x : Tree) → value_faults look x ≡ [] → HasValue (answer_by look x)
value_of_expression look h x e = a_value (answer_by look x) (expression_unreported look h x) e

-- a definition whose expression has a value
reported_unreported : (a : Answer) → HasValue a → is_reported (or_reported a) ≡ false
reported_unreported a v = ap (λ (b : Answer). is_reported (or_reported b)) v.1

definition_unreported : (look rest : Look) (action : ActionTree) (q : List ℕ) → AreUnreported look → is_reported (rest q) ≡ false
    → (is_definition action ≡ true → faults_of look action ≡ []) → is_reported (by_definition (defines action q) look (rest q)) ≡ false
definition_unreported look rest (trees.Equ name x) q h k e = by (bytes_eq q name)
  where
    by : (b : Bool) → is_reported (by_definition (cond b (Some x) None) look (rest q)) ≡ false
    by true = reported_unreported (answer_by look x) (value_of_expression look h x (e refl))
    by false = k
definition_unreported look rest (trees.Set name x) q h k e = by (bytes_eq q name)
  where
    by : (b : Bool) → is_reported (by_definition (cond b (Some x) None) look (rest q)) ≡ false
    by true = reported_unreported (answer_by look x) (value_of_expression look h x (e refl))
    by false = k
definition_unreported look rest _ q h k e = k

-- ---- what names mean by the statements before one

module _ (all : List Located) where
  pub none_before : AreUnreported (earlier all [])
  unfolding earlier
  none_before q = either (bytes_eq q stack_name) (external_answer all q) (label_answer all q) (external_in_unreported 0 (externals all) q) (label_unreported all q)

  in_definition : (before : List Located) (l : Located) → is_definition l.action ≡ true → meaning all before l ≡ with_here l.here (earlier all before)
  in_definition before l e = ap (λ (b : Bool). with_here l.here (cond b (earlier all before) (throughout all before))) e

  pub one_more_unreported : (before : List Located) (l : Located) → AreUnreported (earlier all before) → faults_of (meaning all before l) l.action ≡ [] → AreUnreported (earlier all (l ∷ before))
  unfolding earlier
  one_more_unreported before l h e q =
      either (is_taken_by l.action q) (external_answer all q) (by_definition (defines l.action q) (with_here l.here (earlier all before)) (earlier all before q)) (external_in_unreported 0 (externals all) q)
      (definition_unreported (with_here l.here (earlier all before)) (earlier all before) l.action q (here_unreported l.here (earlier all before) h) (h q)
      (λ d. ap (λ (look : Look). faults_of look l.action) (sym (in_definition before l d)) ∙ e))

  by_kind : (b : Bool) (before : List Located) → AreUnreported (earlier all before) → AreUnreported (in_all all) → AreUnreported (cond b (earlier all before) (throughout all before))
  by_kind true before h k q = h q
  by_kind false before h k q = either (is_set all q) (earlier all before q) (in_all all q) (h q) (k q)

  pub meaning_unreported : (before : List Located) (l : Located) → AreUnreported (earlier all before) → AreUnreported (in_all all) → AreUnreported (meaning all before l)
  meaning_unreported before l h k = here_unreported l.here (cond (is_definition l.action) (earlier all before) (throughout all before)) (by_kind (is_definition l.action) before h k)

pub reverse_prefix : {A : Type 0} (l : A) (ls before : List A) → reverse ls ++ (l ∷ before) ≡ reverse (l ∷ ls) ++ before
reverse_prefix {A} l ls before = sym (ap (λ (xs : List A). xs ++ before) (reverse-append (l ∷ []) ls) ∙ append_assoc (reverse ls) (l ∷ []) before)
