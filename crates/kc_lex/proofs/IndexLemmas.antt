-- The index has each mnemonic of the instruction table, in order, with its first opcode: tried by computing. So a search in it
-- finds what the table says.
use Rattle.std.proofs.Common.{◌≡◌, ℕ, zero, suc, ◌+◌, ◌<◌, Bool, true, false, refl, sym, ap, subst, ◌∙◌, List, [], ◌∷◌, length, get_or, Option, Some, None, arith, inl, inr}
use Rattle.std.specs.Prelude.{◌==◌, ◌&&◌, ◌||◌, if◌then◌else◌}
use Rattle.std.specs.List.{list_all, list_any, HoldsAt}
use Rattle.std.specs.declared.cmp.Ordering.TheVariants.{Equal}
use Rattle.std.specs.Str.{bytes_eq}
use Rattle.std.proofs.lemmas.Bool.{cases_lt}
use Rattle.std.proofs.lemmas.Bool.Decides.{Decides-eqb}
use Rattle.std.proofs.lemmas.Slice.Eq.{bytes_eq-Decides}
use Rattle.kc_isa.specs.declared.table.Mnemonic.TheVariants.{Skip}
use Rattle.kc_isa.specs.Names.{Shown, name_of, row_at}
use Rattle.kc_isa.specs.Table.{plain_entry}
use Rattle.kc_lex.specs.Chars.{is_short_word}
use Rattle.kc_isa.specs.declared.table.Listed.{Listed}
use Rattle.kc_isa.specs.declared.table.TheConstants.{INDEX}
use Rattle.kc_lex.specs.declared.words.Operands.{Operands}
use Rattle.kc_lex.proofs.SearchLemmas.{both, order, equal_text, all_at, ascends, IsParted, none_has, none_such}
use Rattle.kc_lex.specs.Instructions.{least, is_called, has_name, first_opcode, operands_at, operands_from, operands_of, opcode_in}

-- ---- its order

abbrev pub name : Listed → List ℕ
name listed = name_of listed.mnemonic

in_order : ascends name INDEX ≡ true
in_order = refl

-- ---- what it says

abbrev same_opcode : Option ℕ → Option ℕ → Bool
same_opcode None None = true
same_opcode (Some a) (Some b) = a == b
same_opcode None (Some b) = false
same_opcode (Some a) None = false

same-opcode : (a b : Option ℕ) → same_opcode a b ≡ true → a ≡ b
same-opcode None None h = refl
same-opcode (Some a) (Some b) h = ap (λ n. Some n) ((Decides-eqb a b).0 h)
same-opcode None (Some b) h = absurd (cc h)
same-opcode (Some a) None h = absurd (cc h)

abbrev is_right : Listed → Bool
is_right listed =
    same_opcode (first_opcode (name listed) false) (opcode_in (Some listed) false) && same_opcode (first_opcode (name listed) true) (opcode_in (Some listed) true)

all_right : list_all is_right INDEX ≡ true
unfolding first_opcode least row_at plain_entry
all_right = refl

-- ---- that it has each mnemonic

abbrev is_listed : List ℕ → Bool
is_listed word = list_any (λ listed. bytes_eq (name listed) word) INDEX

abbrev row_listed : Option Shown → Bool
row_listed None = true
row_listed (Some row) = is_listed row.name

abbrev all_below : (ℕ → Bool) → ℕ → Bool
all_below p zero = true
all_below p (suc n) = p n && all_below p n

plain_listed : all_below (λ opcode. row_listed (row_at opcode false)) 256 ≡ true
unfolding row_at plain_entry
plain_listed = refl

signed_listed : all_below (λ opcode. row_listed (row_at opcode true)) 256 ≡ true
unfolding row_at plain_entry
signed_listed = refl

below : (p : ℕ → Bool) (n k : ℕ) → all_below p n ≡ true → k < n → p k ≡ true
below p zero k h l = absurd (omega arith)
below p (suc n) k h l = elim (cases_lt k n) [
  | inl less ↦ below p n k (both _ _ h).1 less
  | inr more ↦ (let e : n ≡ k = omega arith in subst (λ (m : ℕ). p m ≡ true) e (both _ _ h).0)
]

rows_listed : (signed : Bool) (k : ℕ) → k < 256 → row_listed (row_at k signed) ≡ true
rows_listed true k l = below (λ opcode. row_listed (row_at opcode true)) 256 k signed_listed l
rows_listed false k l = below (λ opcode. row_listed (row_at opcode false)) 256 k plain_listed l

passes_step : (p : ℕ → Bool) (n from k : ℕ) (t : Bool) → p from ≡ t → (if t then Some from else least p n (from + 1)) ≡ Some k →
    (least p n (from + 1) ≡ Some k → (p k ≡ true) × (k < (from + 1) + n)) → (p k ≡ true) × (k < from + suc n)
passes_step p n from k true e g r = let f : from ≡ k = cc g in (subst (λ (m : ℕ). p m ≡ true) f e, omega arith)
passes_step p n from k false e g r = let s : (p k ≡ true) × (k < (from + 1) + n) = r g in (s.0, omega arith)

pub least-passes : (p : ℕ → Bool) (n from k : ℕ) → least p n from ≡ Some k → (p k ≡ true) × (k < from + n)
unfolding least
least-passes p zero from k h = absurd (cc h)
least-passes p (suc n) from k h = passes_step p n from k (p from) refl h (λ g. least-passes p n (from + 1) k g)

pub first-passes : (word : List ℕ) (signed : Bool) (k : ℕ) → first_opcode word signed ≡ Some k → (has_name word signed k ≡ true) × (k < 256)
unfolding first_opcode
first-passes word signed k h = let r : (has_name word signed k ≡ true) × (k < 0 + 256) = least-passes (has_name word signed) 256 0 k h in (r.0, omega arith)

called_listed : (word : List ℕ) (row : Option Shown) → is_called word row ≡ true → row_listed row ≡ true → is_listed word ≡ true
called_listed word None h g = absurd (cc h)
called_listed word (Some row) h g = subst (λ (w : List ℕ). is_listed w ≡ true) ((bytes_eq-Decides row.name word).0 h) g

none_first : (word : List ℕ) (signed : Bool) (o : Option ℕ) → first_opcode word signed ≡ o → is_listed word ≡ false → first_opcode word signed ≡ None
none_first word signed None e h = e
none_first word signed (Some k) e h =
    let p : (has_name word signed k ≡ true) × (k < 256) = first-passes word signed k e in
    let f : is_listed word ≡ true = called_listed word (row_at k signed) p.0 (rows_listed signed k p.1) in
    absurd (cc (f, h))

-- ---- what a search finds

right_at : (listed : Listed) (signed : Bool) → is_right listed ≡ true → first_opcode (name listed) signed ≡ opcode_in (Some listed) signed
right_at listed false h = same-opcode _ _ (both _ _ h).0
right_at listed true h = same-opcode _ _ (both _ _ h).1

pub searched_there : (word : List ℕ) (at : ℕ) (d : Listed) → at < length INDEX → HoldsAt (λ listed. order (name listed) word ≡ Equal) INDEX at → (signed : Bool) →
    first_opcode word signed ≡ opcode_in (Some (get_or INDEX at d)) signed
searched_there word at d l h signed =
    subst (λ (w : List ℕ). first_opcode w signed ≡ opcode_in (Some (get_or INDEX at d)) signed) (equal_text (name (get_or INDEX at d)) word (h d)) (right_at (get_or INDEX at d) signed (all_at is_right INDEX at d l all_right))

pub searched_none : (word : List ℕ) (i : ℕ) → IsParted name INDEX word i → (signed : Bool) → first_opcode word signed ≡ None
searched_none word i h signed = none_first word signed (first_opcode word signed) refl (none_has name INDEX in_order word i h)

all_short : list_all (λ listed. is_short_word (name listed)) INDEX ≡ true
all_short = refl

pub unlike_none : (word : List ℕ) → is_short_word word ≡ false → (signed : Bool) → first_opcode word signed ≡ None
unlike_none word h signed = none_first word signed (first_opcode word signed) refl (none_such is_short_word name INDEX word all_short h)

-- ---- what holds of each entry holds of each instruction

abbrev IsThere : (Listed → Bool) → List Listed → Type 0
IsThere p xs = (k : ℕ) × ((k < length xs) × ((d : Listed) → p (get_or xs k d) ≡ true))

there_step : (p : Listed → Bool) (x : Listed) (xs : List Listed) (t : Bool) → p x ≡ t → (t || list_any p xs) ≡ true → (list_any p xs ≡ true → IsThere p xs) → IsThere p (x ∷ xs)
there_step p x xs true e h r = (0, (omega arith, λ d. e))
there_step p x xs false e h r = let s : IsThere p xs = r h in (suc s.0, (omega (arith, s.1.0), s.1.1))

listed_at : (p : Listed → Bool) (xs : List Listed) → list_any p xs ≡ true → IsThere p xs
listed_at p [] h = absurd (cc h)
listed_at p (x ∷ xs) h = there_step p x xs (p x) refl h (λ g. listed_at p xs g)

of_kind : (listed : Listed) (signed : Bool) (k : ℕ) (P : List ℕ → Bool → ℕ → Bool) (word : List ℕ) (t : Bool) → listed.signed ≡ t → opcode_in (Some listed) signed ≡ Some k → P word listed.signed listed.opcode ≡ true → P word signed k ≡ true
of_kind listed false k P word false e h p = let o : listed.opcode ≡ k = cc (e, h) in subst (λ (n : ℕ). P word false n ≡ true) o (subst (λ (s : Bool). P word s listed.opcode ≡ true) e p)
of_kind listed true k P word true e h p = let o : listed.opcode ≡ k = cc (e, h) in subst (λ (n : ℕ). P word true n ≡ true) o (subst (λ (s : Bool). P word s listed.opcode ≡ true) e p)
of_kind listed false k P word true e h p = absurd (cc (e, h))
of_kind listed true k P word false e h p = absurd (cc (e, h))

each_instruction : (P : List ℕ → Bool → ℕ → Bool) → list_all (λ listed. P (name listed) listed.signed listed.opcode) INDEX ≡ true → (word : List ℕ) (signed : Bool) (k : ℕ) → first_opcode word signed ≡ Some k → P word signed k ≡ true
each_instruction P all word signed k e =
    let p : (has_name word signed k ≡ true) × (k < 256) = first-passes word signed k e in
    let there = listed_at (λ listed. bytes_eq (name listed) word) INDEX (called_listed word (row_at k signed) p.0 (rows_listed signed k p.1)) in
    let listed : Listed = get_or INDEX there.0 (record { mnemonic = Skip; opcode = 0; signed = false }) in
    let same : name listed ≡ word = (bytes_eq-Decides (name listed) word).0 (there.1.1 _) in
    let first : first_opcode word signed ≡ opcode_in (Some listed) signed = subst (λ (w : List ℕ). first_opcode w signed ≡ opcode_in (Some listed) signed) same (right_at listed signed (all_at is_right INDEX there.0 _ there.1.0 all_right)) in
    of_kind listed signed k P word listed.signed refl (sym first ∙ e)
    (subst (λ (w : List ℕ). P w listed.signed listed.opcode ≡ true) same (all_at (λ (l : Listed). P (name l) l.signed l.opcode) INDEX there.0 _ there.1.0 all))

abbrev pub holds : (List ℕ → Operands → Bool) → List ℕ → Option Operands → Bool
holds P word None = true
holds P word (Some form) = P word form

abbrev pub holds_at : (List ℕ → Operands → Bool) → Listed → Bool
holds_at P listed = holds P (name listed) (operands_at (name listed) listed.signed listed.opcode)

pub each_form : (P : List ℕ → Operands → Bool) → list_all (holds_at P) INDEX ≡ true → (word : List ℕ) (form : Operands) → operands_of word ≡ Some form → P word form ≡ true
unfolding operands_of
each_form P all word form e = from (first_opcode word false) (first_opcode word true) refl refl e
  where
    at_first : (signed : Bool) (k : ℕ) → first_opcode word signed ≡ Some k → holds P word (operands_at word signed k) ≡ true
    at_first signed k f = each_instruction (λ w s n. holds P w (operands_at w s n)) all word signed k f

    from : (a b : Option ℕ) → first_opcode word false ≡ a → first_opcode word true ≡ b → operands_from word a b ≡ Some form → P word form ≡ true
    from (Some k) b f g h = subst (λ (o : Option Operands). holds P word o ≡ true) h (at_first false k f)
    from None (Some k) f g h = subst (λ (o : Option Operands). holds P word o ≡ true) h (at_first true k g)
    from None None f g h = absurd (cc h)
