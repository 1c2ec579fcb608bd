-- The bodies of relocations and line entries as they are spelled: the fields read again, and no fault.
use Rattle.std.proofs.Common.{◌≡◌, ℕ, ◌+◌, ◌-◌, ◌*◌, ◌/◌, ◌%◌, ◌<◌, ◌≤◌, Bool, true, false, not, ◌&&◌, ◌||◌, cond, List, [], ◌∷◌, ◌++◌, length, Option, Some, None, refl, sym, ap, ◌∙◌, append_assoc, arith}
use Rattle.std.specs.Prelude.{slice_get, nat_lt, nat_le, ◌==◌, is_some}
use Rattle.std.specs.List.{list_all, flat_map}
use Rattle.std.proofs.lemmas.Bool.{and_parts, and_from, and_right, or_from, not_from_true, not_from_false, eqb-true, eq-eqb, ltb-true, leb-true, le-ltb, le-leb, lt-leb}
use Rattle.std.proofs.lemmas.Bool.Decides.{nat_tests}
use Rattle.std.proofs.lemmas.List.{append-nil}
use Rattle.kc_obj_module.specs.declared.parts.Segment.{Segment}
use Rattle.kc_obj_module.specs.declared.parts.Taken.{Taken}
use Rattle.kc_obj_module.specs.declared.parts.Fixup.{Fixup}
use Rattle.kc_obj_module.specs.declared.parts.Lines.{Lines}
use Rattle.kc_obj_module.specs.declared.parts.Target.{Target}
use Rattle.kc_obj_module.specs.declared.parts.Target.TheVariants as targets
use Rattle.kc_obj_module.specs.Pieces.{has_code}
use Rattle.kc_obj_module.specs.Contents.{content_at}
use Rattle.kc_obj_module.specs.Numbers.{width}
use Rattle.kc_obj_module.specs.Fixups.{target_exists, fixup_is_sound, fixup_follows, fixups_in_order, fills, may_begin, is_zero, has_room}
use Rattle.kc_obj_module.specs.LineEntries.{line_is_sound, line_follows, lines_in_order}
use Rattle.kc_obj_module.specs.Spelling.{word_bytes, target_bytes, fixup_body, entry_bytes}
use Rattle.kc_obj_fields.specs.declared.faults.Fault.{Fault}
use Rattle.kc_obj_fields.specs.Fields.{word_at, long_at, noted}
use Rattle.kc_obj_module.specs.Widths.{target_fits, fixup_fits, line_fits}
use Rattle.kc_obj_fields.specs.Records.{target_of, fixup_at, fixup_piece_falls, fixup_falls, bad_index, fixup_place_faults, place_of, is_under, byte_of_file, place_or_zero, byte_faults, stands_free, free_faults, under_faults, entry_at, entry_falls, entry_faults, block_falls}
use Rattle.kc_obj.specs.Reading.{Read, fixup_faults, after_entry, after_entries, opened_faults, opened_block, after_block, fits_lines}
use Rattle.kc_obj_fields.specs.Fields.{last_of}
use Rattle.kc_obj.proofs.ClearCode.{PlacesHold}
use Rattle.kc_obj.proofs.Order.{AfterLast, ordered_last}
use Rattle.kc_obj.proofs.Forth.{clear_noted, word_back}

-- ---- 04

record TargetForth (segments : List Segment) (externals : List Taken) (kind : ℕ) (target : Target) : Type 0 where
  pub code : ℕ
  pub index : ℕ
  pub low : index < 0x10000
  pub bytes : target_bytes target ≡ code ∷ word_bytes index
  pub again : target_of code index ≡ target
  pub known : (nat_lt 2 code || ((code == 2) && nat_lt kind 2)) ≡ false
  pub exact : bad_index (length segments) (length externals) code index ≡ false

target_forth : (segments : List Segment) (externals : List Taken) (kind : ℕ) (target : Target) → target_exists segments externals kind target ≡ true → target_fits target ≡ true → TargetForth segments externals kind target
target_forth segments externals kind (targets.Piece p) h fits =
    record { code = 0; index = p; low = ltb-true p 0x10000 fits; bytes = refl; again = refl; known = refl; exact = lt-leb (length segments) p (ltb-true p (length segments) h) }
target_forth segments externals kind (targets.External p) h fits =
    record { code = 1; index = p; low = ltb-true p 0x10000 fits; bytes = refl; again = refl; known = refl; exact = lt-leb (length externals) p (ltb-true p (length externals) h) }
target_forth segments externals kind targets.Number h fits =
    record { code = 2; index = 0; low = omega arith; bytes = refl; again = refl; known = le-ltb kind 2 (leb-true 2 kind h); exact = refl }

before_joined : (p o q r s t w v : ℕ) → (nat_lt p q || ((p == q) && nat_le (o + w) r)) ≡ true → (nat_lt q s || ((q == s) && nat_le (r + v) t)) ≡ true → (nat_lt p s || ((p == s) && nat_le (o + w) t)) ≡ true
before_joined p o q r s t w v h k = grind (arith, nat_tests)

follows_all : (f : Fixup) (fs : List Fixup) (x : Fixup) → fixups_in_order (f ∷ (fs ++ x ∷ [])) ≡ true → fixup_follows f x ≡ true
unfolding fixups_in_order
follows_all f [] x h = (and_parts (fixup_follows f x) true h).0
follows_all f (g ∷ fs) x h =
    let both = and_parts (fixup_follows f g) (fixups_in_order (g ∷ (fs ++ x ∷ []))) h in
    before_joined f.piece f.offset g.piece g.offset x.piece x.offset (width f.kind) (width g.kind) both.0 (follows_all g fs x both.1)

not_over : (p o q r w t : ℕ) → (nat_lt p q || ((p == q) && nat_le (o + w) r)) ≡ true → r ≤ t → ((p == q) && nat_le o t && nat_lt t (o + w)) ≡ false
not_over p o q r w t h le = grind (arith, nat_tests)

none_over : (fs : List Fixup) (x : Fixup) (o : ℕ) → fixups_in_order (fs ++ x ∷ []) ≡ true → x.offset ≤ o → is_under fs x.piece o ≡ false
unfolding fixups_in_order
none_over [] x o h le = refl
none_over (f ∷ fs) x o h le =
    or_from (fills x.piece o f) (is_under fs x.piece o) (not_over f.piece f.offset x.piece x.offset (width f.kind) o (follows_all f fs x h) le) (none_over fs x o (rest fs h) le)
  where
    rest : (gs : List Fixup) → fixups_in_order (f ∷ (gs ++ x ∷ [])) ≡ true → fixups_in_order (gs ++ x ∷ []) ≡ true
    rest [] k = refl
    rest (g ∷ gs) k = (and_parts (fixup_follows f g) (fixups_in_order (g ∷ (gs ++ x ∷ []))) k).1

fixup_not_late : (before : Option Fixup) (x : Fixup) → AfterLast fixup_follows before x → (fixup_piece_falls before x.piece ≡ false) × (fixup_falls before x.piece x.offset ≡ false)
fixup_not_late None x h = (refl, refl)
fixup_not_late (Some b) x h = plain b.piece b.offset x.piece x.offset (width b.kind) (width_positive b.kind) h
  where
    plain : (p o q r w : ℕ) → 0 < w → (nat_lt p q || ((p == q) && nat_le (o + w) r)) ≡ true → (nat_lt q p ≡ false) × (((p == q) && nat_le r o) ≡ false)
    plain p o q r w lt k = (grind (arith, nat_tests), grind (arith, nat_tests))

    width_positive : (kind : ℕ) → 0 < width kind
    width_positive kind = elim ((kind == 1) || (kind == 2)) as (λ b. 0 < cond b 1 2) [ true ↦ omega arith | false ↦ omega arith ]

begin_some : (file : List ℕ) (kind : ℕ) (place : Option ℕ) → may_begin kind (byte_of_file file place) ≡ true → is_some place ≡ true
begin_some file kind None h = absurd (cc h)
begin_some file kind (Some p) h = refl

zero_some : (file : List ℕ) (place : Option ℕ) → is_zero (byte_of_file file place) ≡ true → is_some place ≡ true
zero_some file None h = absurd (cc h)
zero_some file (Some p) h = refl

second_free : (w : ℕ) (z s u : Bool) → ((w == 1) || z) ≡ true → (z ≡ true → s ≡ true) → u ≡ false → ((w == 1) || (s && not u)) ≡ true
second_free w z s u h f e =
    elim (w == 1) as (λ b. (b || z) ≡ true → (b || (s && not u)) ≡ true) [ true ↦ λ k. refl | false ↦ λ k. and_from s (not u) (f k) (not_from_false u e) ] h

second_zero : (kind : ℕ) (z : Bool) → ((width kind == 1) || z) ≡ true → ((width kind == 2) && not z) ≡ false
second_zero kind z h =
    elim ((kind == 1) || (kind == 2)) as (λ b. ((cond b 1 2 == 1) || z) ≡ true → ((cond b 1 2 == 2) && not z) ≡ false) [ true ↦ λ k. refl | false ↦ λ k. not_from_true z k ] h

free_forth : (at : ℕ) (file : List ℕ) (fixups : List Fixup) (x : Fixup) (first second : Option ℕ) (f : Option Fault) → f ≡ None → fixups_in_order (fixups ++ x ∷ []) ≡ true → may_begin x.kind (byte_of_file file first) ≡ true
    → ((width x.kind == 1) || is_zero (byte_of_file file second)) ≡ true → free_faults noted at file fixups x first second f ≡ None
free_forth at file fixups x first second f none ordered begins ends =
    let under : is_under fixups x.piece x.offset ≡ false = none_over fixups x x.offset ordered (omega arith) in
    let under_next : is_under fixups x.piece (x.offset + 1) ≡ false = none_over fixups x (x.offset + 1) ordered (omega arith) in
    let second_part = (width x.kind == 1) || (is_some second && not (is_under fixups x.piece (x.offset + 1))) in
    let ok : stands_free fixups x first second ≡ true =
    and_from (is_some first && not (is_under fixups x.piece x.offset)) second_part (and_from (is_some first) (not (is_under fixups x.piece x.offset)) (begin_some file x.kind first begins) (not_from_false (is_under fixups x.piece x.offset) under))
    (second_free (width x.kind) (is_zero (byte_of_file file second)) (is_some second) (is_under fixups x.piece (x.offset + 1)) ends (zero_some file second) under_next) in
    let bad = not (may_begin x.kind (byte_of_file file first)) in
    let wrong = (width x.kind == 2) && not (is_zero (byte_of_file file second)) in
    let c1 = clear_noted f bad (place_or_zero first) 4 none (not_from_true (may_begin x.kind (byte_of_file file first)) begins) in
    let quiet : byte_faults noted file x first second f ≡ None = clear_noted (noted f bad (place_or_zero first) 4) wrong (place_or_zero second) 4 c1 (second_zero x.kind (is_zero (byte_of_file file second)) ends) in
    ap (λ b. cond b (byte_faults noted file x first second f) (noted f true (at + 2) 3)) ok ∙ quiet

pub record NumberForth (at : ℕ) (file : List ℕ) (r : Read) (x : Fixup) : Type 0 where
  pub size : length (fixup_body x) ≡ 10
  pub again : fixup_at (fixup_body x) ≡ x
  pub clear : fixup_faults noted at file (fixup_body x) r ≡ None

pub number_forth : (at : ℕ) (file : List ℕ) (r : Read) (x : Fixup) → r.fault ≡ None → PlacesHold file r.contents r.starts → fixup_is_sound r.segments r.externals x ≡ true → fixup_fits x ≡ true → fixups_in_order (r.fixups ++ x ∷ []) ≡ true → has_room r.contents x ≡ true → NumberForth at file r x
unfolding fixups_in_order
number_forth at file r x none hold sound narrow ordered room =
    let s2 = and_parts (nat_lt x.piece (length r.segments) && nat_le x.kind 4) (target_exists r.segments r.externals x.kind x.target) sound in
    let s1 = and_parts (nat_lt x.piece (length r.segments)) (nat_le x.kind 4) s2.0 in
    let n3 = and_parts (nat_lt x.piece 0x10000 && nat_lt x.offset 0x10000 && target_fits x.target) (nat_lt x.addend 0x10000) narrow in
    let n2 = and_parts (nat_lt x.piece 0x10000 && nat_lt x.offset 0x10000) (target_fits x.target) n3.0 in
    let n1 = and_parts (nat_lt x.piece 0x10000) (nat_lt x.offset 0x10000) n2.0 in
    let rm = and_parts (may_begin x.kind (content_at r.contents x.piece x.offset)) ((width x.kind == 1) || is_zero (content_at r.contents x.piece (x.offset + 1))) room in
    let t : TargetForth r.segments r.externals x.kind x.target = target_forth r.segments r.externals x.kind x.target s2.1 n2.1 in
    let body = word_bytes x.piece ++ word_bytes x.offset ++ (x.kind ∷ t.code ∷ word_bytes t.index) ++ word_bytes x.addend in
    let shape : fixup_body x ≡ body = ap (λ b. word_bytes x.piece ++ word_bytes x.offset ++ (x.kind ∷ b) ++ word_bytes x.addend) t.bytes in
    let p : word_at body 0 ≡ x.piece = word_back x.piece (ltb-true x.piece 0x10000 n1.0) in
    let o : word_at body 2 ≡ x.offset = word_back x.offset (ltb-true x.offset 0x10000 n1.1) in
    let i : word_at body 6 ≡ t.index = word_back t.index t.low in
    let e : word_at body 8 ≡ x.addend = word_back x.addend (ltb-true x.addend 0x10000 n3.1) in
    let again : fixup_at body ≡ x = λ n. record { piece = p n; offset = o n; kind = x.kind; target = (ap (target_of t.code) i ∙ t.again) n; addend = e n } in
    let pieces = length r.segments in
    let before = last_of r.fixups in
    let late = fixup_not_late before x (ordered_last fixup_follows fixups_in_order refl (λ x y xs. refl) r.fixups x [] ordered) in
    let first = nat_le 2 (length body) && nat_le pieces (word_at body 0) in
    let second = nat_le 2 (length body) && fixup_piece_falls before (word_at body 0) in
    let third = nat_le 4 (length body) && fixup_falls before (word_at body 0) (word_at body 2) in
    let fourth = nat_le 5 (length body) && nat_lt 4 x.kind in
    let c1 = clear_noted r.fault first at 3 none (and_right (nat_le 2 (length body)) (nat_le pieces (word_at body 0)) (ap (nat_le pieces) p ∙ lt-leb pieces x.piece (ltb-true x.piece pieces s1.0))) in
    let c2 = clear_noted (noted r.fault first at 3) second at 4 c1 (and_right (nat_le 2 (length body)) (fixup_piece_falls before (word_at body 0)) (ap (fixup_piece_falls before) p ∙ late.0)) in
    let c3 = clear_noted (noted (noted r.fault first at 3) second at 4) third (at + 2) 4 c2 (and_right (nat_le 4 (length body)) (fixup_falls before (word_at body 0) (word_at body 2)) ((λ n. fixup_falls before (p n) (o n)) ∙ late.1)) in
    let place = fixup_place_faults noted at before pieces body r.fault in
    let c4 : place ≡ None = clear_noted (noted (noted (noted r.fault first at 3) second at 4) third (at + 2) 4) fourth (at + 4) 3 c3 (and_right (nat_le 5 (length body)) (nat_lt 4 x.kind) (le-ltb 4 x.kind (leb-true x.kind 4 s1.1))) in
    let begins : may_begin x.kind (byte_of_file file (place_of r.contents r.starts x.piece x.offset)) ≡ true = ap (may_begin x.kind) (hold x.piece x.offset) ∙ rm.0 in
    let ends : ((width x.kind == 1) || is_zero (byte_of_file file (place_of r.contents r.starts x.piece (x.offset + 1)))) ≡ true = ap (λ y. (width x.kind == 1) || is_zero y) (hold x.piece (x.offset + 1)) ∙ rm.1 in
    let free : free_faults noted at file r.fixups x (place_of r.contents r.starts x.piece x.offset) (place_of r.contents r.starts x.piece (x.offset + 1)) place ≡ None = free_forth at file r.fixups x (place_of r.contents r.starts x.piece x.offset) (place_of r.contents r.starts x.piece (x.offset + 1)) place c4 ordered begins ends in
    let free_body : free_faults noted at file r.fixups (fixup_at body) (place_of r.contents r.starts (word_at body 0) (word_at body 2)) (place_of r.contents r.starts (word_at body 0) (word_at body 2 + 1)) place ≡ None =
    (λ n. free_faults noted at file r.fixups (again n) (place_of r.contents r.starts (p n) (o n)) (place_of r.contents r.starts (p n) (o n + 1)) place) ∙ free in
    let under = under_faults noted at file pieces r.contents r.starts r.fixups body place in
    let under_clear : under ≡ None = either (nat_le 5 (length body) && nat_le x.kind 4 && nat_lt (word_at body 0) pieces) (free_faults noted at file r.fixups (fixup_at body) (place_of r.contents r.starts (word_at body 0) (word_at body 2)) (place_of r.contents r.starts (word_at body 0) (word_at body 2 + 1)) place) place free_body c4 in
    let bad = nat_lt 2 t.code || ((t.code == 2) && nat_lt x.kind 2) in
    let wrong = bad_index pieces (length r.externals) t.code (word_at body 6) in
    let c5 = clear_noted under (nat_le 6 (length body) && bad) (at + 5) 3 under_clear (and_right (nat_le 6 (length body)) bad t.known) in
    let c6 : fixup_faults noted at file body r ≡ None = clear_noted (noted under (nat_le 6 (length body) && bad) (at + 5) 3) (nat_le 8 (length body) && wrong) (at + 6) 3 c5 (and_right (nat_le 8 (length body)) wrong (ap (bad_index pieces (length r.externals) t.code) i ∙ t.exact)) in
    record { size = ap length shape; again = ap fixup_at shape ∙ again; clear = ap (λ b. fixup_faults noted at file b r) shape ∙ c6 }
  where
    either : (b : Bool) (f g : Option Fault) → f ≡ None → g ≡ None → cond b f g ≡ None
    either true f g h k = h
    either false f g h k = k

-- ---- 07

long_back : (n : ℕ) → n < 0x100000000 → n % 256 + 256 * (n / 256 % 256) + 65536 * (n / 65536 % 256 + 256 * (n / 65536 / 256 % 256)) ≡ n
long_back n h = omega arith

pub line_not_late : (before : Option Lines) (l : Lines) → AfterLast line_follows before l → entry_falls before l ≡ false
line_not_late None l h = refl
line_not_late (Some b) l h = and_right (b.piece == l.piece) (not (line_follows b l)) (not_from_true (line_follows b l) h)

record EntryForth (at : ℕ) (before : Option Lines) (segment : Option Segment) (piece : ℕ) (l : Lines) (rest : List ℕ) (f : Option Fault) : Type 0 where
  pub again : entry_at piece (entry_bytes l ++ rest) ≡ l
  pub clear : entry_faults noted at before segment piece (entry_bytes l ++ rest) f ≡ None

entry_forth : (at : ℕ) (before : Option Lines) (segments : List Segment) (piece : ℕ) (l : Lines) (rest : List ℕ) (f : Option Fault) → f ≡ None → l.piece ≡ piece → line_is_sound segments l ≡ true → line_fits l ≡ true → AfterLast line_follows before l
    → EntryForth at before (slice_get segments piece) piece l rest f
entry_forth at before segments piece l rest f none same sound narrow follows =
    let body = entry_bytes l ++ rest in
    let segment = slice_get segments piece in
    let s1 = and_parts (has_code (slice_get segments l.piece) (l.offset + 1)) (nat_lt 0 l.line) sound in
    let n2 = and_parts (nat_lt l.piece 0x10000 && nat_lt l.offset 0x10000) (nat_lt l.line 0x100000000) narrow in
    let n1 = and_parts (nat_lt l.piece 0x10000) (nat_lt l.offset 0x10000) n2.0 in
    let o : word_at body 0 ≡ l.offset = word_back l.offset (ltb-true l.offset 0x10000 n1.1) in
    let n : long_at body 2 ≡ l.line = long_back l.line (ltb-true l.line 0x100000000 n2.1) in
    let again : entry_at piece body ≡ l = λ i. record { piece = sym same i; offset = o i; line = n i } in
    let inside : has_code segment (word_at body 0 + 1) ≡ true = (λ i. has_code (slice_get segments (sym same i)) (o i + 1)) ∙ s1.0 in
    let positive : (long_at body 2 == 0) ≡ false = ap (λ k. k == 0) n ∙ not_zero l.line (ltb-true 0 l.line s1.1) in
    let first = nat_le 2 (length body) && has_code segment 0 && not (has_code segment (word_at body 0 + 1)) in
    let second = nat_le 2 (length body) && entry_falls before (entry_at piece body) in
    let third = nat_le 6 (length body) && (long_at body 2 == 0) in
    let c1 = clear_noted f first at 3 none (and_right (nat_le 2 (length body) && has_code segment 0) (not (has_code segment (word_at body 0 + 1))) (not_from_true (has_code segment (word_at body 0 + 1)) inside)) in
    let c2 = clear_noted (noted f first at 3) second at 4 c1 (and_right (nat_le 2 (length body)) (entry_falls before (entry_at piece body)) (ap (entry_falls before) again ∙ line_not_late before l follows)) in
    record { again = again; clear = clear_noted (noted (noted f first at 3) second at 4) third (at + 2) 3 c2 (and_right (nat_le 6 (length body)) (long_at body 2 == 0) positive) }
  where
    not_zero : (k : ℕ) → 0 < k → (k == 0) ≡ false
    not_zero k h = grind (arith, nat_tests)

pub entries_forth : (ls : List Lines) (at piece : ℕ) (r : Read) → r.fault ≡ None → list_all (λ l. l.piece == piece) ls ≡ true → list_all (line_is_sound r.segments) ls ≡ true → list_all line_fits ls ≡ true → lines_in_order (r.lines ++ ls) ≡ true
    → after_entries noted (length ls) at (slice_get r.segments piece) piece (flat_map entry_bytes ls) r ≡ record r { lines = r.lines ++ ls }
unfolding after_entries lines_in_order
entries_forth [] at piece r none same sound narrow ordered = λ i. record r { lines = sym (append-nil r.lines) i }
entries_forth (l ∷ ls) at piece r none same sound narrow ordered =
    let rest = flat_map entry_bytes ls in
    let s = and_parts (l.piece == piece) (list_all (λ l. l.piece == piece) ls) same in
    let so = and_parts (line_is_sound r.segments l) (list_all (line_is_sound r.segments) ls) sound in
    let na = and_parts (line_fits l) (list_all line_fits ls) narrow in
    let e : EntryForth at (last_of r.lines) (slice_get r.segments piece) piece l rest r.fault = entry_forth at (last_of r.lines) r.segments piece l rest r.fault none (eqb-true l.piece piece s.0) so.0 na.0 (ordered_last line_follows lines_in_order refl (λ x y xs. refl) r.lines l ls ordered) in
    let shape : (r.lines ++ l ∷ []) ++ ls ≡ r.lines ++ l ∷ ls = append_assoc r.lines (l ∷ []) ls in
    let now = record r { lines = r.lines ++ l ∷ [] } in
    let one : after_entry noted at (slice_get r.segments piece) piece (entry_bytes l ++ rest) r ≡ now = λ i. record r { lines = r.lines ++ e.again i ∷ []; fault = (e.clear ∙ sym none) i } in
    ap (λ q. after_entries noted (length ls) (at + 6) (slice_get r.segments piece) piece rest q) one
    ∙ entries_forth ls (at + 6) piece now none s.1 so.1 na.1 (ap lines_in_order shape ∙ ordered)
    ∙ (λ i. record r { lines = shape i })

pub record BlockForth (at : ℕ) (r : Read) (body : List ℕ) (ls : List Lines) : Type 0 where
  pub fit : fits_lines (length body) ≡ true
  pub size : length body ≡ 2 + 6 * length ls
  pub read : after_block noted at (length body) body r ≡ record r { lines = r.lines ++ ls; block = length ls }

entries_size : (ls : List Lines) → length (flat_map entry_bytes ls) ≡ 6 * length ls
entries_size [] = refl
entries_size (l ∷ ls) = let ih = entries_size ls in omega arith

pub block_forth : (at : ℕ) (r : Read) (l : Lines) (ls : List Lines) (piece : ℕ) → r.fault ≡ None → piece < 0x10000 → list_all (λ k. k.piece == piece) (l ∷ ls) ≡ true → list_all (line_is_sound r.segments) (l ∷ ls) ≡ true → list_all line_fits (l ∷ ls) ≡ true
    → lines_in_order (r.lines ++ l ∷ ls) ≡ true → length (l ∷ ls) ≤ 1024 → block_falls (last_of r.lines) r.block piece ≡ false → BlockForth at r (word_bytes piece ++ flat_map entry_bytes (l ∷ ls)) (l ∷ ls)
block_forth at r l ls piece none low same sound narrow ordered few begins =
    let body = word_bytes piece ++ flat_map entry_bytes (l ∷ ls) in
    let n = length (l ∷ ls) in
    let size : length body ≡ 2 + 6 * n = omega (arith, entries_size (l ∷ ls)) in
    let count : (length body - 2) / 6 ≡ n = omega arith in
    let back : (length body - 2) / 6 * 6 ≡ length body - 2 = omega arith in
    let p : word_at body 0 ≡ piece = word_back piece low in
    let segment = slice_get r.segments piece in
    let here = and_parts (l.piece == piece) (list_all (λ k. k.piece == piece) ls) same in
    let first_sound = and_parts (line_is_sound r.segments l) (list_all (line_is_sound r.segments) ls) sound in
    let code_here : has_code (slice_get r.segments l.piece) (l.offset + 1) ≡ true = (and_parts (has_code (slice_get r.segments l.piece) (l.offset + 1)) (nat_lt 0 l.line) first_sound.0).0 in
    let code : has_code (slice_get r.segments (word_at body 0)) 0 ≡ true = ap (λ q. has_code (slice_get r.segments q) 0) (p ∙ sym (eqb-true l.piece piece here.0)) ∙ code_shorter (slice_get r.segments l.piece) (l.offset + 1) code_here in
    let first = nat_le 2 (length body) && not (has_code (slice_get r.segments (word_at body 0)) 0) in
    let second = nat_le 2 (length body) && block_falls (last_of r.lines) r.block (word_at body 0) in
    let c1 = clear_noted r.fault first at 3 none (and_right (nat_le 2 (length body)) (not (has_code (slice_get r.segments (word_at body 0)) 0)) (not_from_true (has_code (slice_get r.segments (word_at body 0)) 0) code)) in
    let c2 : opened_faults noted at body r ≡ None = clear_noted (noted r.fault first at 3) second at 4 c1 (and_right (nat_le 2 (length body)) (block_falls (last_of r.lines) r.block (word_at body 0)) (ap (block_falls (last_of r.lines) r.block) p ∙ begins)) in
    let opened : opened_block noted at body r ≡ r = λ i. record r { fault = (c2 ∙ sym none) i } in
    let entries : after_entries noted ((length body - 2) / 6) (at + 2) (slice_get r.segments (word_at body 0)) (word_at body 0) (flat_map entry_bytes (l ∷ ls)) (opened_block noted at body r) ≡ record r { lines = r.lines ++ l ∷ ls } =
    (λ i. after_entries noted (count i) (at + 2) (slice_get r.segments (p i)) (p i) (flat_map entry_bytes (l ∷ ls)) (opened i)) ∙ entries_forth (l ∷ ls) (at + 2) piece r none same sound narrow ordered in
    record {
      fit = and_from (nat_le 8 (length body) && ((length body - 2) / 6 * 6 == length body - 2)) (nat_le ((length body - 2) / 6) 1024) (and_from (nat_le 8 (length body)) ((length body - 2) / 6 * 6 == length body - 2) (le-leb 8 (length body) (omega arith)) (eq-eqb ((length body - 2) / 6 * 6) (length body - 2) back)) (le-leb ((length body - 2) / 6) 1024 (omega arith));
      size = size;
      read = λ i. record (entries i) { block = count i };
    }
  where
    code_shorter : (s : Option Segment) (end : ℕ) → has_code s end ≡ true → has_code s 0 ≡ true
    code_shorter None end h = absurd (cc h)
    code_shorter (Some s) end h = and_from _ (nat_le 0 s.length) (and_parts _ (nat_le end s.length) h).0 (le-leb 0 s.length (omega arith))
