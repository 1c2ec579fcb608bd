-- Where the text of a statement stands in the text of its module.
use Rattle.std.proofs.Common.{◌≡◌, ◌≢◌, ℕ, zero, suc, Bool, true, false, ◌+◌, ◌-◌, ◌<◌, ◌≤◌, ◌&&◌, cond, eqb, leb, ◌⊎◌, inl, inr, Option, Some, None, List, [], ◌∷◌, ◌++◌, length, get_or, map, refl, sym, ap, ◌∙◌, subst, append_assoc, arith}
use Rattle.std.specs.Prelude.{slice_get, slice_index}
use Rattle.std.proofs.lemmas.Bool.{and_parts}
use Rattle.std.proofs.lemmas.Bool.Decides.{nat_tests}
use Rattle.std.proofs.lemmas.List.{length-append}
use Rattle.kc_obj_module.specs.Pieces.{kind_number}
use Rattle.kc_asm_symbols.specs.declared.segments.Segment.{Segment}
use Rattle.kc_asm_symbols.specs.Located.{is_absolute}
use Rattle.kc_branch.specs.declared.piece.Form.{Form}
use Rattle.kc_branch.specs.declared.piece.Form.TheVariants.{First}
use Rattle.kc_branch.specs.declared.piece.Piece.{Piece}
use Rattle.kc_branch.specs.Forms.{head_form}
use Rattle.kc_asm_emit.specs.Alignment.{gap}
use Rattle.kc_asm_layout.specs.declared.size_record.SizeRecord.{SizeRecord}
use Rattle.kc_asm_layout.specs.declared.location.Location.{Location}
use Rattle.kc_asm_layout.specs.Numbered.{is_code, aligns_well, may_follow, numbered_after}
use Rattle.kc_asm_layout.specs.Places.{passed, end_of, ends_after, location_of, locations_from}
use Rattle.kc_asm_layout.specs.Text.{Target, nowhere, lead, body_text, own_text, main_text, absolute_text, opening, text_by, position, positions_from, is_main, is_code_branch, is_main_branch, is_absolute_branch, form_for, left_behind, dealt, gap_before}
use Rattle.kc_asm_layout.proofs.Walking.{here_after, forms_behind, behind_append, after_append}
use Rattle.kc_asm_layout.proofs.Texts.{lead_after, lead_behind, own_after, main_length, absolute_length, main_behind, absolute_behind, HasForm, has_main, has_absolute, first_elsewhere}
use Rattle.kc_asm_layout.proofs.Standing.{StandsIn, Passes, Next, begins, follows}

-- In text `xs` that begins at the place h, behind p pieces, with these forms left: the text of a statement's body stands at the
-- statement's place, and the form that is left there is the statement's.
pub record Found (xs : List Piece) (fs : List Form) (h p : ℕ) (target : Target) (n : SizeRecord) (s : Location) (position : ℕ) : Type 0 where
  pub pre : List Piece
  pub post : List Piece
  pub split : xs ≡ pre ++ (body_text target n.segment n.body ++ post)
  pub counted : position ≡ p + length pre
  pub place : here_after pre fs h ≡ s.place
  pub form : is_code_branch n ≡ true → head_form (forms_behind pre fs) ≡ s.form
  pub after : s.after ≡ passed s.form s.place n.body

found_in : (xs ys : List Piece) (fs : List Form) (h p : ℕ) (target : Target) (n : SizeRecord) (s : Location) (position : ℕ) → ys ≡ xs
    → Found xs fs h p target n s position → Found ys fs h p target n s position
found_in xs ys fs h p target n s position e f = record {
  pre = f.pre;
  post = f.post;
  split = e ∙ f.split;
  counted = f.counted;
  place = f.place;
  form = f.form;
  after = f.after;
}

-- behind other pieces
pub further : (chunk xs : List Piece) (fs gs : List Form) (h i p q : ℕ) (target : Target) (n : SizeRecord) (s : Location) (position : ℕ)
    → gs ≡ forms_behind chunk fs → i ≡ here_after chunk fs h → q ≡ p + length chunk
    → Found xs gs i q target n s position → Found (chunk ++ xs) fs h p target n s position
further chunk xs fs gs h i p q target n s position e d c f = record {
  pre = chunk ++ f.pre;
  post = f.post;
  split = ap (λ l. chunk ++ l) f.split ∙ sym (append_assoc chunk f.pre (body_text target n.segment n.body ++ f.post));
  counted = omega (arith, f.counted, length-append chunk f.pre);
  place = after_append chunk f.pre fs h ∙ ap (λ l. here_after f.pre l (here_after chunk fs h)) (sym e) ∙ ap (here_after f.pre gs) (sym d) ∙ f.place;
  form = λ b. ap head_form (behind_append chunk f.pre fs) ∙ ap (λ l. head_form (forms_behind f.pre l)) (sym e) ∙ f.form b;
  after = f.after;
}

-- before other pieces
pub before : (xs tail : List Piece) (fs : List Form) (h p : ℕ) (target : Target) (n : SizeRecord) (s : Location) (position : ℕ)
    → Found xs fs h p target n s position → Found (xs ++ tail) fs h p target n s position
before xs tail fs h p target n s position f = record {
  pre = f.pre;
  post = f.post ++ tail;
  split = ap (λ l. l ++ tail) f.split ∙ append_assoc f.pre (body_text target n.segment n.body ++ f.post) tail
      ∙ ap (λ l. f.pre ++ l) (append_assoc (body_text target n.segment n.body) f.post tail);
  counted = f.counted;
  place = f.place;
  form = f.form;
  after = f.after;
}

-- ---- one statement

-- what is known of a statement of the text where its piece ends at e
record Own (n : SizeRecord) (g e h : ℕ) (f : Form) (fs : List Form) : Type 0 where
  aligned : aligns_well n ≡ true
  gap_is : is_code n.segment ≡ false → g ≡ gap e n.alignment
  has : HasForm n f fs
  here : h ≡ e

own_end : (target : Target) (g e h : ℕ) (n : SizeRecord) (f : Form) (fs : List Form) → Own n g e h f fs
    → here_after (own_text target g n) fs h ≡ passed f (e + gap e n.alignment) n.body
own_end target g e h n f fs o = ap (here_after (own_text target g n) fs) o.here ∙ own_after target g e n fs f o.aligned o.gap_is o.has

own_found : (target : Target) (g e h p position : ℕ) (n : SizeRecord) (f : Form) (fs : List Form) (tail : List Piece) (s : Location) → Own n g e h f fs
    → s.place ≡ e + gap e n.alignment → s.form ≡ f → s.after ≡ passed f (e + gap e n.alignment) n.body → position ≡ p + length (lead g n)
    → Found (own_text target g n ++ tail) fs h p target n s position
own_found target g e h p position n f fs tail s o place form after counted = record {
  pre = lead g n;
  post = tail;
  split = append_assoc (lead g n) (body_text target n.segment n.body) tail;
  counted = counted;
  place = ap (here_after (lead g n) fs) o.here ∙ lead_after g e n fs o.aligned o.gap_is ∙ sym place;
  form = λ b. ap head_form (lead_behind g n fs) ∙ sym (o.has.in_code b) ∙ sym form;
  after = after ∙ ap (λ x. passed x (e + gap e n.alignment) n.body) (sym form) ∙ ap (λ x. passed s.form x n.body) (sym place);
}

-- the gap before it, in the layout with first forms
abbrev gap_in : List ℕ → SizeRecord → ℕ
gap_in firsts n = get_or firsts n.segment.piece 0 + gap (get_or firsts n.segment.piece 0) n.alignment - get_or firsts n.segment.piece 0

gap_same : (d e align : ℕ) → d ≡ e → d + gap d align - d ≡ gap e align
gap_same d e align same = let it : d + gap d align - d ≡ gap d align = omega arith in it ∙ ap (λ x. gap x align) same

code_of : (k : ℕ) → k ≡ 1 → eqb k 1 ≡ false → ⊥
code_of k e d = grind (arith, nat_tests)

one_of : (p : ℕ) → eqb p 1 ≡ true → p ≡ 1
one_of p h = grind (arith, nat_tests)

is_one : (p : ℕ) → p ≡ 1 → eqb p 1 ≡ true
is_one p h = grind (arith, nat_tests)

not_one : (p : ℕ) → p ≢ 1 → eqb p 1 ≡ false
not_one p h = grind (arith, nat_tests)

three_of : (p : ℕ) → leb 3 p ≡ true → 3 ≤ p
three_of p h = grind (arith, nat_tests)

is_three : (p : ℕ) → 3 ≤ p → leb 3 p ≡ true
is_three p h = grind (arith, nat_tests)

below_three : (p : ℕ) → leb 3 p ≡ false → p < 3
below_three p h = grind (arith, nat_tests)

own_main : (n : SizeRecord) (ends firsts : List ℕ) (here there : ℕ) (main absolute : List Form) → StandsIn n.segment ends firsts here there → aligns_well n ≡ true
    → n.segment.piece ≡ 1 → Own n (gap_in firsts n) (get_or ends n.segment.piece 0) here (form_for n main absolute) main
own_main n ends firsts here there main absolute s w e = record {
  aligned = w;
  gap_is = λ c. absurd (code_of (kind_number n.segment.kind) (s.main_code e) c);
  has = has_main n main absolute (is_one n.segment.piece e);
  here = s.main ∙ ap (λ k. get_or ends k 0) (sym e);
}

own_absolute : (n : SizeRecord) (ends firsts : List ℕ) (here there : ℕ) (main absolute : List Form) → StandsIn n.segment ends firsts here there → aligns_well n ≡ true
    → 3 ≤ n.segment.piece → Own n (gap_in firsts n) (get_or ends n.segment.piece 0) there (form_for n main absolute) absolute
own_absolute n ends firsts here there main absolute s w h = record {
  aligned = w;
  gap_is = λ c. gap_same (get_or firsts n.segment.piece 0) (get_or ends n.segment.piece 0) n.alignment (s.still h (λ e. code_of (kind_number n.segment.kind) e c));
  has = has_absolute n main absolute (is_three n.segment.piece h);
  here = s.absolute h;
}

-- ---- behind it

abbrev only_if : Bool → List Piece → List Piece
only_if b xs = cond b xs []

if_after : (b : Bool) (xs : List Piece) (fs : List Form) (h : ℕ) → b ≡ true → here_after (only_if b xs) fs h ≡ here_after xs fs h
if_after b xs fs h e = ap (λ c. here_after (only_if c xs) fs h) e

if_not : (b : Bool) (xs : List Piece) (fs : List Form) (h : ℕ) → b ≡ false → here_after (only_if b xs) fs h ≡ h
if_not b xs fs h e = ap (λ c. here_after (only_if c xs) fs h) e

opening_after : (opens : Option ℕ) (xs : List Piece) (fs : List Form) (h : ℕ) → here_after (xs ++ opening opens) fs h ≡ begins opens (here_after xs fs h)
opening_after None xs fs h = after_append xs [] fs h
opening_after (Some address) xs fs h = after_append xs (opening (Some address)) fs h

passes : (target : Target) (n : SizeRecord) (ends firsts : List ℕ) (here there : ℕ) (main absolute : List Form) → StandsIn n.segment ends firsts here there → aligns_well n ≡ true
    → Passes n.segment.piece (kind_number n.segment.kind) (end_of (form_for n main absolute) ends n) (end_of First firsts n) here
    (here_after (main_text target (gap_in firsts n) n) main here) (here_after (only_if (is_absolute n.segment) (own_text target (gap_in firsts n) n)) absolute there)
passes target n ends firsts here there main absolute s w = record {
  main = λ e.
      if_after (is_main n.segment) (own_text target (gap_in firsts n) n) main here (is_one n.segment.piece e)
      ∙ own_end target (gap_in firsts n) (get_or ends n.segment.piece 0) here n (form_for n main absolute) main (own_main n ends firsts here there main absolute s w e);
  other_main = λ e. if_not (is_main n.segment) (own_text target (gap_in firsts n) n) main here (not_one n.segment.piece e);
  absolute = λ h.
      if_after (is_absolute n.segment) (own_text target (gap_in firsts n) n) absolute there (is_three n.segment.piece h)
      ∙ own_end target (gap_in firsts n) (get_or ends n.segment.piece 0) there n (form_for n main absolute) absolute (own_absolute n ends firsts here there main absolute s w h);
  still = λ h e.
      ap (λ x. passed First (x + gap x n.alignment) n.body) (s.still h e)
      ∙ ap (λ f. passed f (get_or ends n.segment.piece 0 + gap (get_or ends n.segment.piece 0) n.alignment) n.body) (sym (first_elsewhere n main absolute (not_one (kind_number n.segment.kind) e)));
}

next : (target : Target) (n : SizeRecord) (ends firsts : List ℕ) (here there : ℕ) (main absolute : List Form) → StandsIn n.segment ends firsts here there → aligns_well n ≡ true
    → Next n.segment n.opens (ends_after (form_for n main absolute) ends n) (ends_after First firsts n)
    (here_after (main_text target (gap_in firsts n) n) main here) (here_after (absolute_text target (gap_in firsts n) n) absolute there)
next target n ends firsts here there main absolute s w =
    subst (λ x. Next n.segment n.opens (ends_after (form_for n main absolute) ends n) (ends_after First firsts n) (here_after (main_text target (gap_in firsts n) n) main here) x)
    (sym (opening_after n.opens (only_if (is_absolute n.segment) (own_text target (gap_in firsts n) n)) absolute there))
    (follows n.segment n.opens (end_of (form_for n main absolute) ends n) (end_of First firsts n) here there
    (here_after (main_text target (gap_in firsts n) n) main here)
    (here_after (only_if (is_absolute n.segment) (own_text target (gap_in firsts n) n)) absolute there)
    ends firsts s (passes target n ends firsts here there main absolute s w))

-- ---- a statement of a list

-- of a statement in the relocatable code, or in an absolute piece
pub record Stood (mains absolutes : List Piece) (fs gs : List Form) (here there p q : ℕ) (target : Target) (n : SizeRecord) (s : Location) (position : ℕ) : Type 0 where
  pub main : is_main n.segment ≡ true → Found mains fs here p target n s position
  pub absolute : is_absolute n.segment ≡ true → Found absolutes gs there q target n s position
  pub somewhere : is_code n.segment ≡ true → (is_main n.segment ≡ true) ⊎ (is_absolute n.segment ≡ true)

position_main : (m a : Bool) (x y z : ℕ) → m ≡ true → cond m x (cond a y z) ≡ x
position_main m a x y z e = ap (λ b. cond b x (cond a y z)) e

position_absolute : (m a : Bool) (x y z : ℕ) → m ≡ false → a ≡ true → cond m x (cond a y z) ≡ y
position_absolute m a x y z e d = ap (λ b. cond b x (cond a y z)) e ∙ ap (λ b. cond b y z) d

not_both : (p : ℕ) → 3 ≤ p → eqb p 1 ≡ false
not_both p h = grind (arith, nat_tests)

first : (list : List (Option ℕ)) (target : Target) (n : SizeRecord) (ends firsts : List ℕ) (here there p q : ℕ) (main absolute : List Form) (mains absolutes : List Piece)
    → StandsIn n.segment ends firsts here there → aligns_well n ≡ true
    → Stood (main_text target (gap_in firsts n) n ++ mains) (absolute_text target (gap_in firsts n) n ++ absolutes) main absolute here there p q target n
    (location_of list (form_for n main absolute) ends n) (position p q (gap_in firsts n) n)
first list target n ends firsts here there p q main absolute mains absolutes s w = record {
  main = λ e.
      found_in (own_text target (gap_in firsts n) n ++ mains) (main_text target (gap_in firsts n) n ++ mains) main here p target n
      (location_of list (form_for n main absolute) ends n) (position p q (gap_in firsts n) n)
      (ap (λ b. only_if b (own_text target (gap_in firsts n) n) ++ mains) e)
      (own_found target (gap_in firsts n) (get_or ends n.segment.piece 0) here p (position p q (gap_in firsts n) n) n (form_for n main absolute) main mains
      (location_of list (form_for n main absolute) ends n)
      (own_main n ends firsts here there main absolute s w (one_of n.segment.piece e)) refl refl refl
      (position_main (is_main n.segment) (is_absolute n.segment) (p + length (lead (gap_in firsts n) n)) (q + length (lead (gap_in firsts n) n)) 0 e));
  absolute = λ e.
      found_in (own_text target (gap_in firsts n) n ++ (opening n.opens ++ absolutes)) (absolute_text target (gap_in firsts n) n ++ absolutes) absolute there q target n
      (location_of list (form_for n main absolute) ends n) (position p q (gap_in firsts n) n)
      (append_assoc (only_if (is_absolute n.segment) (own_text target (gap_in firsts n) n)) (opening n.opens) absolutes
      ∙ ap (λ b. only_if b (own_text target (gap_in firsts n) n) ++ (opening n.opens ++ absolutes)) e)
      (own_found target (gap_in firsts n) (get_or ends n.segment.piece 0) there q (position p q (gap_in firsts n) n) n (form_for n main absolute) absolute (opening n.opens ++ absolutes)
      (location_of list (form_for n main absolute) ends n)
      (own_absolute n ends firsts here there main absolute s w (three_of n.segment.piece e)) refl refl refl
      (position_absolute (is_main n.segment) (is_absolute n.segment) (p + length (lead (gap_in firsts n) n)) (q + length (lead (gap_in firsts n) n)) 0
      (not_both n.segment.piece (three_of n.segment.piece e)) e));
  somewhere = λ c. either_piece (leb 3 n.segment.piece) refl c;
}
  where
    either_piece : (b : Bool) → leb 3 n.segment.piece ≡ b → is_code n.segment ≡ true → (is_main n.segment ≡ true) ⊎ (is_absolute n.segment ≡ true)
    either_piece true a c = inr a
    either_piece false a c = inl (is_one n.segment.piece (s.code (one_of (kind_number n.segment.kind) c) (below_three n.segment.piece a)))

abbrev pub gaps_from : List (Option ℕ) → List ℕ → List SizeRecord → List ℕ
gaps_from list firsts ns = map gap_before (locations_from list [] firsts ns)

-- a later one
later : (chunk others mains absolutes : List Piece) (fs gs hs is : List Form) (here there next_here next_there p q next_p next_q : ℕ) (target : Target) (n : SizeRecord) (s : Location) (position : ℕ)
    → hs ≡ forms_behind chunk fs → next_here ≡ here_after chunk fs here → next_p ≡ p + length chunk
    → is ≡ forms_behind others gs → next_there ≡ here_after others gs there → next_q ≡ q + length others
    → Stood mains absolutes hs is next_here next_there next_p next_q target n s position
    → Stood (chunk ++ mains) (others ++ absolutes) fs gs here there p q target n s position
later chunk others mains absolutes fs gs hs is here there next_here next_there p q next_p next_q target n s position a b c d e f it = record {
  main = λ m. further chunk mains fs hs here next_here p next_p target n s position a b c (it.main m);
  absolute = λ m. further others absolutes gs is there next_there q next_q target n s position d e f (it.absolute m);
  somewhere = it.somewhere;
}

pub stood : (list : List (Option ℕ)) (target : Target) (ns : List SizeRecord) (k : ℕ) (g : Segment) (opens : Option ℕ) (ends firsts : List ℕ) (fs gs : List Form) (here there p q : ℕ) (n : SizeRecord) (s : Location)
    → Next g opens ends firsts here there → numbered_after g opens ns ≡ true
    → slice_get ns k ≡ Some n → slice_get (locations_from list (dealt fs gs ns) ends ns) k ≡ Some s
    → Stood (text_by (main_text target) (gaps_from list firsts ns) ns) (text_by (absolute_text target) (gaps_from list firsts ns) ns) fs gs here there p q target n s
    (slice_index (positions_from p q (gaps_from list firsts ns) ns) k)
unfolding numbered_after locations_from dealt text_by positions_from
stood list target [] zero g opens ends firsts fs gs here there p q n s st num is location = absurd (cc is)
stood list target [] (suc k) g opens ends firsts fs gs here there p q n s st num is location = absurd (cc is)
stood list target (m ∷ ns) zero g opens ends firsts fs gs here there p q n s st num is location =
    let both = and_parts (may_follow g opens m.segment && aligns_well m) (numbered_after m.segment m.opens ns) num in
    let two = and_parts (may_follow g opens m.segment) (aligns_well m) both.0 in
    let mains = text_by (main_text target) (gaps_from list (ends_after First firsts m) ns) ns in
    let absolutes = text_by (absolute_text target) (gaps_from list (ends_after First firsts m) ns) ns in
    let it = first list target m ends firsts here there p q fs gs mains absolutes (st m.segment two.0) two.1 in
    let size_record : m ≡ n = cc in
    let where_it_is : location_of list (form_for m fs gs) ends m ≡ s = cc in
    subst (λ x. Stood (main_text target (gap_in firsts m) m ++ mains) (absolute_text target (gap_in firsts m) m ++ absolutes) fs gs here there p q target n x (position p q (gap_in firsts m) m)) where_it_is
    (subst (λ x. Stood (main_text target (gap_in firsts m) m ++ mains) (absolute_text target (gap_in firsts m) m ++ absolutes) fs gs here there p q target x (location_of list (form_for m fs gs) ends m) (position p q (gap_in firsts m) m)) size_record it)
stood list target (m ∷ ns) (suc k) g opens ends firsts fs gs here there p q n s st num is location =
    let both = and_parts (may_follow g opens m.segment && aligns_well m) (numbered_after m.segment m.opens ns) num in
    let two = and_parts (may_follow g opens m.segment) (aligns_well m) both.0 in
    let gap_is = gap_in firsts m in
    let chunk = main_text target gap_is m in
    let others = absolute_text target gap_is m in
    later chunk others
    (text_by (main_text target) (gaps_from list (ends_after First firsts m) ns) ns) (text_by (absolute_text target) (gaps_from list (ends_after First firsts m) ns) ns)
    fs gs (left_behind (is_main_branch m) fs) (left_behind (is_absolute_branch m) gs)
    here there (here_after chunk fs here) (here_after others gs there)
    p q (p + length (main_text nowhere gap_is m)) (q + length (absolute_text nowhere gap_is m)) target n s
    (slice_index (positions_from (p + length (main_text nowhere gap_is m)) (q + length (absolute_text nowhere gap_is m)) (gaps_from list (ends_after First firsts m) ns) ns) k)
    (sym (main_behind target gap_is m fs)) refl (ap (λ x. p + x) (main_length target gap_is m))
    (sym (absolute_behind target gap_is m gs)) refl (ap (λ x. q + x) (absolute_length target gap_is m))
    (stood list target ns k m.segment m.opens (ends_after (form_for m fs gs) ends m) (ends_after First firsts m)
    (left_behind (is_main_branch m) fs) (left_behind (is_absolute_branch m) gs)
    (here_after chunk fs here) (here_after others gs there) (p + length (main_text nowhere gap_is m)) (q + length (absolute_text nowhere gap_is m)) n s
    (next target m ends firsts here there fs gs (st m.segment two.0) two.1) both.1 is location)
