-- What names mean at a statement is a value, or nothing, or reported elsewhere.
use Rattle.std.proofs.Common.{◌≡◌, ℕ, ◌+◌, Bool, true, false, cond, List, [], ◌∷◌, reverse, Option, Some, None, Ok, Err, refl}
use Rattle.std.specs.Str.{bytes_eq}
use Rattle.kc_expr.specs.declared.values.Base.TheVariants.{External}
use Rattle.kc_expr.specs.Tree.{Tree}
use Rattle.kc_expr.specs.Meaning.{Answer, answer_by, here}
use Rattle.kc_obj_module.specs.declared.parts.Taken.{Taken}
use Rattle.kc_asm_symbols.specs.Located.{Located}
use Rattle.kc_asm_symbols.specs.Externals.{externals, external_in, tag_of_taken, stack_name}
use Rattle.kc_asm_symbols.specs.Meanings.{or_reported, is_label, label_answer, external_answer, with_here, is_taken_by, defines, by_definition, earlier, is_set, is_definition, in_all, throughout, meaning}
use Rattle.kc_asm_laws.proofs.Unknown.{passes, tame_code, IsTame}

abbrev Tame : Answer → Type 0
Tame a = passes tame_code a ≡ true

either : (b : Bool) (x y : Answer) → Tame x → Tame y → Tame (cond b x y)
either true x y h k = h
either false x y h k = k

reported_tame : (a : Answer) → Tame (or_reported a)
reported_tame (Ok v) = refl
reported_tame (Err fault) = refl

external_tame : (n : ℕ) (ts : List Taken) (q : List ℕ) → Tame (external_in n ts q)
unfolding external_in
external_tame n [] q = refl
external_tame n (t ∷ ts) q = either (bytes_eq q t.name) (Ok (record { base = External n; tag = tag_of_taken t; number = 0 })) (external_in (n + 1) ts q) refl (external_tame (n + 1) ts q)

label_tame : (ls : List Located) (q : List ℕ) → Tame (label_answer ls q)
unfolding label_answer
label_tame [] q = refl
label_tame (l ∷ ls) q = either (is_label q l.label) (Ok l.here) (label_answer ls q) refl (label_tame ls q)

definition_tame : (o : Option Tree) (look : List ℕ → Answer) (rest : Answer) → Tame rest → Tame (by_definition o look rest)
definition_tame None look rest h = h
definition_tame (Some x) look rest h = reported_tame (answer_by look x)

module _ (all : List Located) where
  earlier_tame : (before : List Located) (q : List ℕ) → Tame (earlier all before q)
  unfolding earlier
  earlier_tame [] q = either (bytes_eq q stack_name) (external_answer all q) (label_answer all q) (external_tame 0 (externals all) q) (label_tame all q)
  earlier_tame (l ∷ before) q =
      either (is_taken_by l.action q) (external_answer all q) (by_definition (defines l.action q) (with_here l.here (earlier all before)) (earlier all before q)) (external_tame 0 (externals all) q)
      (definition_tame (defines l.action q) (with_here l.here (earlier all before)) (earlier all before q) (earlier_tame before q))

  by_kind : (b : Bool) (before : List Located) (q : List ℕ) → Tame (cond b (earlier all before) (throughout all before) q)
  by_kind true before q = earlier_tame before q
  by_kind false before q = either (is_set all q) (earlier all before q) (in_all all q) (earlier_tame before q) (earlier_tame (reverse all) q)

  pub meaning_tame : (before : List Located) (l : Located) → IsTame (meaning all before l)
  meaning_tame before l = record {
    names = λ q. either (bytes_eq q here) (Ok l.here) (cond (is_definition l.action) (earlier all before) (throughout all before) q) refl (by_kind (is_definition l.action) before q);
    place = refl;
  }
