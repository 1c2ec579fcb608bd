-- What tables have of each name after one is set.
use Rattle.std.proofs.Common.{◌≡◌, ℕ, ◌<◌, true, false, cond, List, [], ◌∷◌, length, set, get_or, position, slice_get, Option, Some, None, refl, sym, ap, ◌∙◌, true≢false, is_some}
use Rattle.std.specs.Prelude.{unwrap_or, Ok, Err}
use Rattle.std.specs.Map.{keys_of, lookup, KeepsOthers}
use Rattle.std.proofs.lemmas.List.{get_or-set_same, get_or-set_other}
use Rattle.std.proofs.lemmas.List.Quantifiers.{position-Some}
use Rattle.std.proofs.lemmas.Option.{unwrap_or-slice_get}
use Rattle.std.specs.Str.{bytes_eq}
use Rattle.std.specs.Global.{Vec}
use Rattle.std.specs.Cmp.Lexicographic.{bytes_decides, nat_list_eq_equiv}
use Rattle.kc_base.proofs.NameLemmas.{is_named, apart}
use Rattle.kc_lex.specs.declared.fault.SourceCode.TheVariants.{NotDefined}
use Rattle.kc_expr.specs.declared.values.Value.{Value}
use Rattle.kc_expr.specs.declared.values.NoValue.{NoValue}
use Rattle.kc_expr.specs.declared.values.NoValue.TheVariants.{Fault}
use Rattle.kc_expr.specs.Meaning.{Answer}
use Rattle.kc_asm_symbols.specs.declared.numbers.Numbers.{Numbers}
use Rattle.kc_asm_symbols.specs.declared.table.Table.{Table}
use Rattle.kc_asm_symbols.specs.Meanings.{first_of, with_label}
use Rattle.kc_asm_symbols.specs.Tables.{entry_at, number_of, cell, other_answers, answer_at, answers, updated}

pub none_yet : {W : Type 0} (absent : W) (es : List (Vec ℕ × W)) → es ≡ [] → entry_at absent es ≡ (λ name. absent)
none_yet absent es none = λ i name. entry_at absent (none i) name

pub one_set : {W : Type 0} (absent w : W) (es fs : List (Vec ℕ × W)) (k : Vec ℕ) (name : List ℕ) → k.items ≡ name → lookup (is_named k.items) fs ≡ Some w
    → KeepsOthers (λ (x y : Vec ℕ). bytes_eq x.items y.items) (is_named k.items) es fs → entry_at absent fs ≡ updated name w (entry_at absent es)
unfolding KeepsOthers
one_set absent w es fs k name same at_key others =
    let other : (q : List ℕ) → bytes_eq k.items q ≡ false → entry_at absent fs q ≡ entry_at absent es q
    = λ q e. ap (λ o. unwrap_or o absent) (others (is_named q) (λ x y. nat_list_eq_equiv.congr q x.items y.items) (apart k.items q e)) in
    let each : (q : List ℕ) → entry_at absent fs q ≡ updated k.items w (entry_at absent es) q
    = λ q. elim (bytes_eq q k.items) as (λ b. bytes_eq q k.items ≡ b → entry_at absent fs q ≡ cond b w (entry_at absent es q)) [
      | true ↦ λ e. ap (entry_at absent fs) ((bytes_decides q k.items).0 e) ∙ ap (λ o. unwrap_or o absent) at_key
      | false ↦ λ e. other q (nat_list_eq_equiv.symm k.items q ∙ e)
    ] refl in
    (λ i q. each q i) ∙ ap (λ n. updated n w (entry_at absent es)) same

-- a name that has nothing yet may be set to nothing
pub set_to_nothing : {W : Type 0} (name : List ℕ) (absent : W) (look next : List ℕ → W) → look name ≡ absent → next ≡ updated name absent look → next ≡ look
set_to_nothing {W} name absent look next none grown =
    let each : (q : List ℕ) → updated name absent look q ≡ look q
    = λ q. elim (bytes_eq q name) as (λ b. bytes_eq q name ≡ b → cond b absent (look q) ≡ look q) [
      | true ↦ λ e. sym none ∙ ap look (sym ((bytes_decides q name).0 e))
      | false ↦ λ e. refl
    ] refl in
    grown ∙ (λ i q. each q i)

-- ---- numbers

-- names with one number are the same
same_number : (p q : List ℕ) (ks : List (Vec ℕ)) (n : ℕ) → position (is_named p) ks ≡ Some n → position (is_named q) ks ≡ Some n → p ≡ q
same_number p q [] n e f = absurd (true≢false (sym (ap is_some e)))
same_number p q (k ∷ ks) n e f =
    (bytes_decides p (get_or (k ∷ ks) n k).items).0 (position-Some (is_named p) (k ∷ ks) n k e).1
    ∙ sym ((bytes_decides q (get_or (k ∷ ks) n k).items).0 (position-Some (is_named q) (k ∷ ks) n k f).1)

-- a cell of a table is set
pub numbered_set : (numbers : Numbers) (s t : Table) (n : ℕ) (name : List ℕ) (a : Answer) → n < length s.numbered.items → Some n ≡ number_of numbers name
    → t.numbered.items ≡ set s.numbered.items n a → t.others.entries ≡ s.others.entries → answers numbers t ≡ updated name a (answers numbers s)
numbered_set numbers s t n name a within is items others =
    let xs = s.numbered.items in
    let rest : List ℕ → Answer = entry_at (Err (Fault NotDefined)) s.others.entries in
    let reads : (q : List ℕ) → answers numbers t q ≡ at_number (set xs n a) (number_of numbers q) (rest q)
    = λ q. by_number t (number_of numbers q) q ∙ (λ i. at_number (items i) (number_of numbers q) (entry_at (Err (Fault NotDefined)) (others i) q)) in
    let same : (q : List ℕ) → q ≡ name → at_number (set xs n a) (number_of numbers q) (rest q) ≡ a
    = λ q e. ap (λ o. at_number (set xs n a) o (rest q)) (ap (number_of numbers) e ∙ sym is) ∙ unwrap_or-slice_get (set xs n a) n (rest q) ∙ get_or-set_same xs n a (rest q) within in
    let other : (q : List ℕ) → bytes_eq q name ≡ false → (o : Option ℕ) → number_of numbers q ≡ o → at_number (set xs n a) o (rest q) ≡ at_number xs o (rest q)
    = λ q e o. elim o as (λ o. number_of numbers q ≡ o → at_number (set xs n a) o (rest q) ≡ at_number xs o (rest q)) [
      | None ↦ λ f. refl
      | Some m ↦ λ f. unwrap_or-slice_get (set xs n a) m (rest q)
          ∙ get_or-set_other xs n m a (rest q) (λ g. true≢false (sym ((bytes_decides q name).1 (same_number q name (keys_of numbers.map.entries) n (f ∙ ap Some g) (sym is))) ∙ e))
          ∙ sym (unwrap_or-slice_get xs m (rest q))
    ] in
    let each : (q : List ℕ) → answers numbers t q ≡ updated name a (answers numbers s) q
    = λ q. reads q ∙ elim (bytes_eq q name) as (λ b. bytes_eq q name ≡ b → at_number (set xs n a) (number_of numbers q) (rest q) ≡ cond b a (answers numbers s q)) [
      | true ↦ λ e. same q ((bytes_decides q name).0 e)
      | false ↦ λ e. other q e (number_of numbers q) refl ∙ sym (by_number s (number_of numbers q) q)
    ] refl in
    λ i q. each q i
  where
    at_number : List Answer → Option ℕ → Answer → Answer
    at_number xs None rest = rest
    at_number xs (Some m) rest = unwrap_or (slice_get xs m) rest

    by_number : (t : Table) (o : Option ℕ) (q : List ℕ) → answer_at t o q ≡ at_number t.numbered.items o (entry_at (Err (Fault NotDefined)) t.others.entries q)
    by_number t None q = refl
    by_number t (Some m) q = refl

-- a name that has no cell is set
pub other_set : (numbers : Numbers) (s t : Table) (number : Option ℕ) (name : List ℕ) (a : Answer) → number ≡ number_of numbers name → cell s number ≡ None
    → t.numbered ≡ s.numbered → other_answers t ≡ updated name a (other_answers s) → answers numbers t ≡ updated name a (answers numbers s)
other_set numbers s t number name a is none items others =
    let rest : List ℕ → Answer = other_answers s in
    let here : cell s (number_of numbers name) ≡ None = ap (cell s) (sym is) ∙ none in
    let reads : (q : List ℕ) → answers numbers t q ≡ unwrap_or (cell s (number_of numbers q)) (updated name a rest q)
    = λ q. alike (number_of numbers q) q ∙ ap (λ (f : List ℕ → Answer). unwrap_or (cell s (number_of numbers q)) (f q)) others in
    let each : (q : List ℕ) → answers numbers t q ≡ updated name a (answers numbers s) q
    = λ q. reads q ∙ elim (bytes_eq q name) as (λ b. bytes_eq q name ≡ b → unwrap_or (cell s (number_of numbers q)) (cond b a (rest q)) ≡ cond b a (answers numbers s q)) [
      | true ↦ λ e. ap (λ o. unwrap_or o a) (ap (λ p. cell s (number_of numbers p)) ((bytes_decides q name).0 e) ∙ here)
      | false ↦ λ e. refl
    ] refl in
    λ i q. each q i
  where
    alike : (o : Option ℕ) (q : List ℕ) → answer_at t o q ≡ unwrap_or (cell s o) (other_answers t q)
    alike None q = refl
    alike (Some m) q = λ i. unwrap_or (slice_get (items i).items m) (other_answers t q)

-- ---- labels

-- a label that means nothing yet is set
pub label_set : (name : List ℕ) (v : Value) (fault : NoValue) (look next : List ℕ → Answer) → look name ≡ Err fault → next ≡ updated name (Ok v) look → next ≡ with_label (Some name) v look
label_set name v fault look next none grown =
    let each : (q : List ℕ) → updated name (Ok v) look q ≡ with_label (Some name) v look q
    = λ q. elim (bytes_eq q name) as (λ b. bytes_eq q name ≡ b → cond b (Ok v) (look q) ≡ first_of (look q) (cond b (Ok v) (look q))) [
      | true ↦ λ e. sym (ap (λ a. first_of a (Ok v)) (ap look ((bytes_decides q name).0 e) ∙ none))
      | false ↦ λ e. idle (look q)
    ] refl in
    grown ∙ (λ i q. each q i)
  where
    idle : (a : Answer) → a ≡ first_of a a
    idle (Ok w) = refl
    idle (Err fault) = refl
