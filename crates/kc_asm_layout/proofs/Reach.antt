-- Branches reach, since the text of each statement stands where the statement stands.
use Rattle.std.proofs.Common.{◌≡◌, ℕ, zero, suc, Bool, true, false, ◌+◌, ◌&&◌, ◌||◌, cond, eqb, leb, ◌⊎◌, inl, inr, Option, Some, None, List, [], ◌∷◌, ◌++◌, length, drop, pos, ◌+ℤ◌, ◌-ℤ◌, refl, sym, ap, ◌∙◌, arith}
use Rattle.std.specs.Prelude.{slice_get, slice_index}
use Rattle.std.proofs.lemmas.Bool.{and_parts}
use Rattle.std.proofs.lemmas.Bool.Decides.{nat_tests}
use Rattle.std.proofs.lemmas.List.{length-append, drop-drop}
use Rattle.kc_asm_symbols.specs.declared.segments.Segment.{Segment}
use Rattle.kc_asm_symbols.specs.Located.{is_absolute, first_segment}
use Rattle.kc_branch.specs.declared.piece.Form.{Form}
use Rattle.kc_branch.specs.declared.piece.Form.TheVariants.{First, Second, Third}
use Rattle.kc_branch.specs.declared.piece.Piece.{Piece}
use Rattle.kc_branch.specs.declared.piece.Piece.TheVariants as piece
use Rattle.kc_branch.specs.declared.piece.BranchKind.{BranchKind}
use Rattle.kc_branch.specs.Forms.{size, spans, is_third, reaches, piece_reaches, head_form, forms_after, places, forms}
use Rattle.kc_branch.specs.Laws.{all_reach}
use Rattle.kc_branch.proofs.Reaching.{forms_settle}
use Rattle.kc_asm_layout.specs.declared.size_record.Anchor.{Anchor}
use Rattle.kc_asm_layout.specs.declared.size_record.Anchor.TheVariants as anchor
use Rattle.kc_asm_layout.specs.declared.size_record.Body.{Body}
use Rattle.kc_asm_layout.specs.declared.size_record.Body.TheVariants.{Branch}
use Rattle.kc_asm_layout.specs.declared.size_record.SizeRecord.{SizeRecord}
use Rattle.kc_asm_layout.specs.declared.location.Location.{Location}
use Rattle.kc_asm_layout.specs.Numbered.{IsNumbered, is_code}
use Rattle.kc_asm_layout.specs.Places.{addresses, no_bytes, passed, ends_after, locations_from}
use Rattle.kc_asm_layout.specs.Text.{Target, nowhere, body_text, main_text, absolute_text, text_by, positions, target_in, is_same_base, segment_in, is_main, is_branch, is_code_branch, is_main_branch, count_main, left_behind, dealt, gaps, text, next_gap, layout}
use Rattle.kc_asm_layout.specs.Laws.{is_near, BranchesReach, OtherBranchesAreLong}
use Rattle.kc_asm_layout.proofs.Walking.{here_after, forms_behind, behind_append, place_at, place_behind, reach_split}
use Rattle.kc_asm_layout.proofs.Texts.{main_length, main_behind}
use Rattle.kc_asm_layout.proofs.Standing.{begins_well}
use Rattle.kc_asm_layout.proofs.Found.{Found, Stood, further, before, stood}

-- ---- the whole text

drop_left : (b : Bool) (c : ℕ) (fs : List Form) → drop c (left_behind b fs) ≡ drop (cond b 1 0 + c) fs
drop_left true c fs = drop-drop c 1 fs
drop_left false c fs = ap (λ k. drop k fs) (omega arith)

all_behind : (target : Target) (ns : List SizeRecord) (gs : List ℕ) (fs : List Form) → forms_behind (text_by (main_text target) gs ns) fs ≡ drop (count_main ns) fs
unfolding text_by count_main
all_behind target [] gs fs = refl
all_behind target (n ∷ ns) gs fs =
    behind_append (main_text target (next_gap gs) n) (text_by (main_text target) (drop 1 gs) ns) fs
    ∙ ap (forms_behind (text_by (main_text target) (drop 1 gs) ns)) (main_behind target (next_gap gs) n fs)
    ∙ all_behind target ns (drop 1 gs) (left_behind (is_main_branch n) fs)
    ∙ drop_left (is_main_branch n) (count_main ns) fs

all_length : (target : Target) (ns : List SizeRecord) (gs : List ℕ) → length (text_by (main_text nowhere) gs ns) ≡ length (text_by (main_text target) gs ns)
unfolding text_by
all_length target [] gs = refl
all_length target (n ∷ ns) gs =
    length-append (main_text nowhere (next_gap gs) n) (text_by (main_text nowhere) (drop 1 gs) ns)
    ∙ ap (λ k. k + length (text_by (main_text nowhere) (drop 1 gs) ns)) (main_length target (next_gap gs) n)
    ∙ ap (λ k. length (main_text target (next_gap gs) n) + k) (all_length target ns (drop 1 gs))
    ∙ sym (length-append (main_text target (next_gap gs) n) (text_by (main_text target) (drop 1 gs) ns))

abbrev target_of : List SizeRecord → Target
target_of ns = target_in (positions (gaps ns) ns) ns

abbrev mains_of : List SizeRecord → List Piece
mains_of ns = text_by (main_text (target_of ns)) (gaps ns) ns

abbrev absolutes_of : List SizeRecord → List Piece
absolutes_of ns = text_by (absolute_text (target_of ns)) (gaps ns) ns

abbrev chosen : List SizeRecord → List Form
chosen ns = forms (text ns)

abbrev FoundAt : List SizeRecord → ℕ → SizeRecord → Location → Type 0
FoundAt ns k n s = Found (text ns) (chosen ns) 0 0 (target_of ns) n s (slice_index (positions (gaps ns) ns) k)

abbrev StoodAt : List SizeRecord → ℕ → SizeRecord → Location → Type 0
StoodAt ns k n s =
    Stood (mains_of ns) (absolutes_of ns) (chosen ns) (drop (count_main ns) (chosen ns)) 0 (here_after (mains_of ns) (chosen ns) 0) 0
    (length (text_by (main_text nowhere) (gaps ns) ns)) (target_of ns) n s (slice_index (positions (gaps ns) ns) k)

stood_at : (ns : List SizeRecord) (k : ℕ) (n : SizeRecord) (s : Location) → IsNumbered ns → slice_get ns k ≡ Some n → slice_get (layout ns) k ≡ Some s → StoodAt ns k n s
stood_at ns k n s num is location =
    stood (addresses ns) (target_of ns) ns k first_segment None no_bytes no_bytes (chosen ns) (drop (count_main ns) (chosen ns)) 0 (here_after (mains_of ns) (chosen ns) 0) 0
    (length (text_by (main_text nowhere) (gaps ns) ns)) n s (begins_well (here_after (mains_of ns) (chosen ns) 0)) num is location

found_at : (ns : List SizeRecord) (k : ℕ) (n : SizeRecord) (s : Location) → StoodAt ns k n s → (is_main n.segment ≡ true) ⊎ (is_absolute n.segment ≡ true) → FoundAt ns k n s
found_at ns k n s st (inl m) = before (mains_of ns) (absolutes_of ns) (chosen ns) 0 0 (target_of ns) n s (slice_index (positions (gaps ns) ns) k) (st.main m)
found_at ns k n s st (inr a) =
    further (mains_of ns) (absolutes_of ns) (chosen ns) (drop (count_main ns) (chosen ns)) 0 (here_after (mains_of ns) (chosen ns) 0) 0
    (length (text_by (main_text nowhere) (gaps ns) ns)) (target_of ns) n s (slice_index (positions (gaps ns) ns) k)
    (sym (all_behind (target_of ns) ns (gaps ns) (chosen ns))) refl (all_length (target_of ns) ns (gaps ns) ∙ omega arith) (st.absolute a)

-- ---- one branch

branch_is : (target : Target) (g : Segment) (kind : BranchKind) (a : Anchor) (b : Body) → is_code g ≡ true → b ≡ Branch kind a → body_text target g b ≡ piece.Branch kind (target g a) ∷ []
branch_is target g kind a b c e =
    ap (body_text target g) e
    ∙ ap (λ x. cond x (piece.Branch kind (target g a) ∷ []) (piece.Bytes (size kind First) ∷ [])) c

-- it reaches in the layout of the text
found_reaches : (xs : List Piece) (target : Target) (n : SizeRecord) (s : Location) (position : ℕ) (kind : BranchKind) (a : Anchor) → Found xs (forms xs) 0 0 target n s position
    → is_code n.segment ≡ true → n.body ≡ Branch kind a → reaches (places xs (forms xs) 0) kind (target n.segment a) s.form s.after ≡ true
unfolding all_reach
found_reaches xs target n s position kind a f c e =
    let x = piece.Branch kind (target n.segment a) in
    let at = places xs (forms xs) 0 in
    let split : xs ≡ f.pre ++ x ∷ f.post = f.split ∙ ap (λ l. f.pre ++ (l ++ f.post)) (branch_is target n.segment kind a n.body c e) in
    let settled : all_reach at (f.pre ++ x ∷ f.post) (forms xs) 0 ≡ true = ap (λ l. all_reach at l (forms xs) 0) (sym split) ∙ forms_settle xs in
    let rest = reach_split at f.pre (x ∷ f.post) (forms xs) 0 (length f.pre) (omega arith) settled in
    let this = and_parts (piece_reaches at x (head_form (forms_behind f.pre (forms xs))) (slice_index at (length f.pre + 1)))
    (all_reach at f.post (forms_after x (forms_behind f.pre (forms xs))) (length f.pre + 1)) rest in
    let branch : is_code_branch n ≡ true = ap (λ b. b && is_branch n.body) c ∙ ap is_branch e in
    let form = f.form branch in
    let next : length f.pre + 1 ≡ suc (length f.pre) = omega arith in
    let end : slice_index at (length f.pre + 1) ≡ s.after =
    ap (slice_index at) next
    ∙ ap (λ l. slice_index (places l (forms xs) 0) (suc (length f.pre))) split
    ∙ place_behind f.pre x f.post (forms xs) 0
    ∙ ap (λ y. here_after f.pre (forms xs) 0 + size kind y) form
    ∙ ap (λ y. y + size kind s.form) f.place
    ∙ ap (passed s.form s.place) (sym e)
    ∙ sym f.after in
    ap (λ y. reaches at kind (target n.segment a) s.form y) (sym end)
    ∙ ap (λ y. reaches at kind (target n.segment a) y (slice_index at (length f.pre + 1))) (sym form)
    ∙ this.0

-- its target is the place of its statement
found_place : (xs : List Piece) (fs : List Form) (target : Target) (n : SizeRecord) (s : Location) (position : ℕ) → Found xs fs 0 0 target n s position → slice_index (places xs fs 0) position ≡ s.place
found_place xs fs target n s position f =
    let counted : position ≡ length f.pre = omega (arith, f.counted) in
    ap (slice_index (places xs fs 0)) counted
    ∙ ap (λ l. slice_index (places l fs 0) (length f.pre)) f.split
    ∙ place_at f.pre (body_text target n.segment n.body ++ f.post) fs 0
    ∙ f.place

-- ---- bases

by_base : (g h : Segment) → (is_main g ≡ true) ⊎ (is_absolute g ≡ true) → is_same_base g h ≡ true → (is_main h ≡ true) ⊎ (is_absolute h ≡ true)
by_base g h either same = pick (is_absolute h) refl
  where
    main_of : (p q : ℕ) → (eqb p 1 ≡ true) ⊎ (leb 3 p ≡ true) → ((leb 3 p && leb 3 q) || eqb p q) ≡ true → leb 3 q ≡ false → eqb q 1 ≡ true
    main_of p q (inl m) same a = grind (arith, nat_tests)
    main_of p q (inr m) same a = grind (arith, nat_tests)

    pick : (b : Bool) → is_absolute h ≡ b → (is_main h ≡ true) ⊎ (is_absolute h ≡ true)
    pick true a = inr a
    pick false a = inl (main_of g.piece h.piece either same a)

-- each location has its size record
noted : (list : List (Option ℕ)) (ns : List SizeRecord) (fs : List Form) (ends : List ℕ) (k : ℕ) (s : Location) → slice_get (locations_from list fs ends ns) k ≡ Some s
    → (n : SizeRecord) × (slice_get ns k ≡ Some n)
unfolding locations_from
noted list [] fs ends k s e = absurd (cc e)
noted list (n ∷ ns) fs ends zero s e = (n, refl)
noted list (n ∷ ns) fs ends (suc k) s e = noted list ns (drop 1 fs) (ends_after (head_form fs) ends n) k s e

third : (f : Form) → is_third f ≡ true → f ≡ Third
third First h = absurd (cc h)
third Second h = absurd (cc h)
third Third h = refl

-- ---- the laws

pub reach : BranchesReach
reach ns number to n s t kind distance num b near location =
    let st = stood_at ns number n s num b.size_record b.location in
    let somewhere = st.somewhere b.code in
    let f = found_at ns number n s st somewhere in
    let m = noted (addresses ns) ns (dealt (chosen ns) (drop (count_main ns) (chosen ns)) ns) no_bytes to t location in
    let same : is_same_base n.segment m.0.segment ≡ true = ap (λ x. is_same_base n.segment (segment_in x)) (sym m.1) ∙ near in
    let g = found_at ns to m.0 t (stood_at ns to m.0 t num m.1 location) (by_base n.segment m.0.segment somewhere same) in
    let at = places (text ns) (chosen ns) 0 in
    let target : target_of ns n.segment (anchor.Statement to distance) ≡ Some (slice_index (positions (gaps ns) ns) to, distance) =
    ap (λ x. cond x (Some (slice_index (positions (gaps ns) ns) to, distance)) None) near in
    ap (λ y. spans kind s.form ((pos y +ℤ distance) -ℤ pos s.after)) (sym (found_place (text ns) (chosen ns) (target_of ns) m.0 t (slice_index (positions (gaps ns) ns) to) g))
    ∙ ap (λ y. reaches at kind y s.form s.after) (sym target)
    ∙ found_reaches (text ns) (target_of ns) n s (slice_index (positions (gaps ns) ns) number) kind (anchor.Statement to distance) f b.code b.body

no_target : (ns : List SizeRecord) (g : Segment) (a : Anchor) → is_near ns g a ≡ false → target_of ns g a ≡ None
no_target ns g (anchor.Statement number distance) h = ap (λ x. cond x (Some (slice_index (positions (gaps ns) ns) number, distance)) None) h
no_target ns g anchor.External h = refl
no_target ns g anchor.Nothing h = refl

pub others_long : OtherBranchesAreLong
others_long ns number n s kind a num b far =
    let st = stood_at ns number n s num b.size_record b.location in
    let f = found_at ns number n s st (st.somewhere b.code) in
    let at = places (text ns) (chosen ns) 0 in
    third s.form
    (ap (λ y. reaches at kind y s.form s.after) (sym (no_target ns n.segment a far))
    ∙ found_reaches (text ns) (target_of ns) n s (slice_index (positions (gaps ns) ns) number) kind a f b.code b.body)
