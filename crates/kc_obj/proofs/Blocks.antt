-- Line entries in records: the record that is open at the end, and one more record.
use Rattle.std.proofs.Common.{◌≡◌, ℕ, ◌+◌, ◌<◌, ◌≤◌, Bool, true, false, ◌&&◌, cond, List, [], ◌∷◌, ◌++◌, length, length-append, append_assoc, Option, Some, None, refl, sym, ap, ◌∙◌, arith}
use Rattle.std.specs.Prelude.{nat_lt, ◌==◌}
use Rattle.std.specs.List.{list_all}
use Rattle.std.proofs.lemmas.Bool.{and_parts, and_from, eqb-true, eq-eqb, lt-ltb}
use Rattle.std.proofs.lemmas.List.{append-nil}
use Rattle.kc_obj_module.specs.declared.parts.Lines.{Lines}
use Rattle.kc_obj_module.specs.Spelling.{block_record, takes_entry, block_records}
use Rattle.kc_obj_fields.specs.Fields.{last_of}
use Rattle.kc_obj.proofs.Order.{last_append, last_passes}

-- the entries of the record that is open after these
unfoldable pub opened_of : List Lines → List Lines → List Lines
opened_of opened [] = opened
opened_of opened (l ∷ ls) = cond (takes_entry opened l) (opened_of (opened ++ l ∷ []) ls) (opened_of (l ∷ []) ls)

-- the next entry begins a record
pub records_next : (opened ls : List Lines) (l : Lines) (new : List Lines) → takes_entry (opened_of opened ls) l ≡ false → block_records opened (ls ++ l ∷ new) ≡ block_records opened ls ++ block_records (l ∷ []) new
unfolding opened_of block_records
records_next opened [] l new h = rw h refl
records_next opened (k ∷ ls) l new h =
    elim (takes_entry opened k) as (λ b. takes_entry (cond b (opened_of (opened ++ k ∷ []) ls) (opened_of (k ∷ []) ls)) l ≡ false
    → cond b (block_records (opened ++ k ∷ []) (ls ++ l ∷ new)) (block_record opened ++ block_records (k ∷ []) (ls ++ l ∷ new))
    ≡ cond b (block_records (opened ++ k ∷ []) ls) (block_record opened ++ block_records (k ∷ []) ls) ++ block_records (l ∷ []) new) [
      | true ↦ λ e. records_next (opened ++ k ∷ []) ls l new e
      | false ↦ λ e. ap (λ (t : List ℕ). block_record opened ++ t) (records_next (k ∷ []) ls l new e) ∙ sym (append_assoc (block_record opened) (block_records (k ∷ []) ls) (block_records (l ∷ []) new))
    ] h

pub opened_next : (opened ls : List Lines) (l : Lines) (new : List Lines) → takes_entry (opened_of opened ls) l ≡ false → opened_of opened (ls ++ l ∷ new) ≡ opened_of (l ∷ []) new
unfolding opened_of
opened_next opened [] l new h = rw h refl
opened_next opened (k ∷ ls) l new h =
    elim (takes_entry opened k) as (λ b. takes_entry (cond b (opened_of (opened ++ k ∷ []) ls) (opened_of (k ∷ []) ls)) l ≡ false
    → cond b (opened_of (opened ++ k ∷ []) (ls ++ l ∷ new)) (opened_of (k ∷ []) (ls ++ l ∷ new)) ≡ opened_of (l ∷ []) new) [
      | true ↦ λ e. opened_next (opened ++ k ∷ []) ls l new e
      | false ↦ λ e. opened_next (k ∷ []) ls l new e
    ] h

takes : (o l : Lines) (os : List Lines) (piece : ℕ) → (o.piece == piece) ≡ true → (l.piece == piece) ≡ true → length (o ∷ os) < 1024 → takes_entry (o ∷ os) l ≡ true
takes o l os piece h k lt =
    let p : o.piece ≡ piece = eqb-true o.piece piece h in
    let q : l.piece ≡ piece = eqb-true l.piece piece k in
    and_from (o.piece == l.piece) (nat_lt (length (o ∷ os)) 1024) (eq-eqb o.piece l.piece (p ∙ sym q)) (lt-ltb (length (o ∷ os)) 1024 lt)

-- entries of one piece, of which there are few enough, are one record
pub one_record : (o : Lines) (os ls : List Lines) (piece : ℕ) → (o.piece == piece) ≡ true → list_all (λ l. l.piece == piece) ls ≡ true → length (o ∷ os) + length ls ≤ 1024
    → (block_records (o ∷ os) ls ≡ block_record ((o ∷ os) ++ ls)) × (opened_of (o ∷ os) ls ≡ (o ∷ os) ++ ls)
unfolding opened_of block_records
one_record o os [] piece h all le = (ap block_record (sym (append-nil (o ∷ os))), sym (append-nil (o ∷ os)))
one_record o os (l ∷ ls) piece h all le =
    let parts = and_parts (l.piece == piece) (list_all (λ l. l.piece == piece) ls) all in
    let take : takes_entry (o ∷ os) l ≡ true = takes o l os piece h parts.0 (omega arith) in
    let ih = one_record o (os ++ l ∷ []) ls piece h parts.1 (omega (arith, length-append os (l ∷ []))) in
    let shape : (o ∷ (os ++ l ∷ [])) ++ ls ≡ (o ∷ os) ++ l ∷ ls = append_assoc (o ∷ os) (l ∷ []) ls in (
      (λ i. cond (take i) (block_records ((o ∷ os) ++ l ∷ []) ls) (block_record (o ∷ os) ++ block_records (l ∷ []) ls)) ∙ ih.0 ∙ ap block_record shape,
      (λ i. cond (take i) (opened_of ((o ∷ os) ++ l ∷ []) ls) (opened_of (l ∷ []) ls)) ∙ ih.1 ∙ shape,
    )

-- whether an entry goes on with the last record, which has so many entries
abbrev pub goes_on : Option Lines → ℕ → Lines → Bool
goes_on None block l = true
goes_on (Some b) block l = (b.piece == l.piece) && nat_lt block 1024

abbrev pub OpenIs : List Lines → ℕ → Type 0
OpenIs lines block = (l : Lines) → takes_entry (opened_of [] lines) l ≡ goes_on (last_of lines) block l

first_record : (l : Lines) (new : List Lines) → (block_records [] (l ∷ new) ≡ block_records (l ∷ []) new) × (opened_of [] (l ∷ new) ≡ opened_of (l ∷ []) new)
unfolding opened_of block_records
first_record l new = (refl, refl)

none_yet : (block_records [] [] ≡ []) × (opened_of [] [] ≡ [])
unfolding opened_of block_records
none_yet = (refl, refl)

pub record OneMore (lines new : List Lines) (block : ℕ) : Type 0 where
  pub records : block_records [] (lines ++ new) ≡ block_records [] lines ++ block_record new
  pub stays : OpenIs (lines ++ new) (length new)

open_new : (lines : List Lines) (l : Lines) (new : List Lines) (piece : ℕ) → opened_of [] (lines ++ l ∷ new) ≡ l ∷ new → list_all (λ k. k.piece == piece) (l ∷ new) ≡ true → OpenIs (lines ++ l ∷ new) (length (l ∷ new))
open_new lines l new piece is all k =
    let last = last_passes (λ (k : Lines). k.piece == piece) l new all in
    let here : last_of (lines ++ l ∷ new) ≡ Some last.0 = last_append lines l new ∙ last.1 in
    let head : l.piece ≡ piece = eqb-true l.piece piece (and_parts (l.piece == piece) (list_all (λ k. k.piece == piece) new) all).0 in
    let same : l.piece ≡ last.0.piece = head ∙ sym (eqb-true last.0.piece piece last.2) in
    ap (λ o. takes_entry o k) is ∙ ap (λ p. (p == k.piece) && nat_lt (length (l ∷ new)) 1024) same ∙ sym (ap (λ b. goes_on b (length (l ∷ new)) k) here)

pub one_more : (lines : List Lines) (block : ℕ) (l : Lines) (new : List Lines) (piece : ℕ) → OpenIs lines block → list_all (λ k. k.piece == piece) (l ∷ new) ≡ true → length (l ∷ new) ≤ 1024
    → ((b : Lines) → last_of lines ≡ Some b → goes_on (Some b) block l ≡ false) → OneMore lines (l ∷ new) block
one_more [] block l new piece is all le stops =
    let parts = and_parts (l.piece == piece) (list_all (λ k. k.piece == piece) new) all in
    let one = one_record l [] new piece parts.0 parts.1 (omega arith) in
    let first = first_record l new in
    record {
      records = first.0 ∙ one.0 ∙ ap (λ (t : List ℕ). t ++ block_record (l ∷ new)) (sym none_yet.0);
      stays = open_new [] l new piece (first.1 ∙ one.1) all;
    }
one_more (k ∷ ks) block l new piece is all le stops =
    let parts = and_parts (l.piece == piece) (list_all (λ k. k.piece == piece) new) all in
    let one = one_record l [] new piece parts.0 parts.1 (omega arith) in
    let last = last_passes (λ (k : Lines). true) k ks (all_true k ks) in
    let no : takes_entry (opened_of [] (k ∷ ks)) l ≡ false = is l ∙ ap (λ b. goes_on b block l) last.1 ∙ stops last.0 last.1 in
    record {
      records = records_next [] (k ∷ ks) l new no ∙ ap (λ (t : List ℕ). block_records [] (k ∷ ks) ++ t) one.0;
      stays = open_new (k ∷ ks) l new piece (opened_next [] (k ∷ ks) l new no ∙ one.1) all;
    }
  where
    all_true : (x : Lines) (xs : List Lines) → list_all (λ (k : Lines). true) (x ∷ xs) ≡ true
    all_true x [] = refl
    all_true x (y ∷ xs) = all_true y xs
