-- No fault at a record of contents or relocations: what its fields then are.
use Rattle.std.proofs.Common.{◌≡◌, ℕ, zero, suc, ◌+◌, ◌-◌, ◌*◌, ◌<◌, ◌≤◌, Bool, true, false, not, ◌&&◌, ◌||◌, cond, eqb, List, [], ◌∷◌, ◌++◌, length, Option, Some, None, refl, sym, ap, ◌∙◌, subst, arith}
use Rattle.std.specs.Prelude.{slice_index, slice_get, nat_lt, nat_le, ◌==◌, is_some}
use Rattle.std.proofs.lemmas.Bool.{and_parts, and_from, not-true, not-false, eqb-true, ltb-false, leb-true, leb-false, lt-ltb, le-leb}
use Rattle.std.proofs.lemmas.Bool.Decides.{nat_tests}
use Rattle.kc_obj_module.specs.declared.parts.Segment.{Segment}
use Rattle.kc_obj_module.specs.declared.parts.Taken.{Taken}
use Rattle.kc_obj_module.specs.declared.parts.Content.{Content}
use Rattle.kc_obj_module.specs.declared.parts.Fixup.{Fixup}
use Rattle.kc_obj_module.specs.Pieces.{has_code}
use Rattle.kc_obj_module.specs.Contents.{content_is_sound, content_follows, content_at}
use Rattle.kc_obj_module.specs.Numbers.{width}
use Rattle.kc_obj_module.specs.Fixups.{target_exists, fixup_is_sound, fixup_follows, fills, may_begin, is_zero, has_room}
use Rattle.kc_obj_module.specs.Spelling.{content_body, target_bytes, fixup_body}
use Rattle.kc_obj_fields.specs.declared.faults.Fault.{Fault}
use Rattle.kc_obj_fields.specs.Fields.{word_at, noted}
use Rattle.kc_base.specs.Bytes.{IsBytes}
use Rattle.kc_obj_module.specs.Widths.{target_fits, fixup_fits}
use Rattle.kc_obj_fields.specs.Records.{run_at, run_piece_falls, run_falls, run_faults, target_of, fixup_at, fixup_piece_falls, fixup_falls, bad_index, fixup_place_faults, place_of, is_under, byte_of_file, place_or_zero, byte_faults, stands_free, free_faults, under_faults}
use Rattle.kc_obj.specs.Reading.{Read, fixup_faults}
use Rattle.kc_obj_fields.specs.Fields.{last_of}
use Rattle.kc_obj.proofs.Bytes.{word_again, word_below}
use Rattle.kc_obj.proofs.Clear.{noted_none, asked, asked2}
use Rattle.kc_obj.proofs.Order.{AfterLast, none_last}

-- ---- 03

pub record Run (before : Option Content) (segments : List Segment) (body : List ℕ) : Type 0 where
  pub sound : content_is_sound segments (run_at body) ≡ true
  pub narrow : (nat_lt (run_at body).piece 0x10000 && nat_lt (run_at body).offset 0x10000) ≡ true
  pub spelled : content_body (run_at body) ≡ body
  pub follows : AfterLast content_follows before (run_at body)

pub leaves : (p q : ℕ) (rest : Bool) → nat_lt q p ≡ false → ((p == q) && not (nat_lt p q || ((p == q) && rest))) ≡ false → (nat_lt p q || ((p == q) && rest)) ≡ true
leaves p q true h k = grind (arith, nat_tests)
leaves p q false h k = grind (arith, nat_tests)

run_after : (before : Option Content) (c : Content) → run_piece_falls before c.piece ≡ false → run_falls before c.piece c.offset ≡ false → AfterLast content_follows before c
run_after None c h k = tt
run_after (Some b) c h k = leaves b.piece c.piece (nat_lt (b.offset + length b.bytes) c.offset || ((b.offset + length b.bytes == c.offset) && (length b.bytes == 1024))) h k

pub run_clear : (at : ℕ) (before : Option Content) (segments : List Segment) (len : ℕ) (body : List ℕ) (f : Option Fault) → (nat_le 5 len && nat_le len 1028) ≡ true → length body ≡ len → IsBytes body
    → run_faults noted at before (slice_get segments (word_at body 0)) len body f ≡ None → (f ≡ None) × Run before segments body
run_clear at before segments len [] f fit is h clear = absurd (omega (arith, leb-true, (and_parts (nat_le 5 len) (nat_le len 1028) fit).0))
run_clear at before segments len (a ∷ []) f fit is h clear = absurd (omega (arith, leb-true, (and_parts (nat_le 5 len) (nat_le len 1028) fit).0))
run_clear at before segments len (a ∷ b ∷ []) f fit is h clear = absurd (omega (arith, leb-true, (and_parts (nat_le 5 len) (nat_le len 1028) fit).0))
run_clear at before segments len (a ∷ b ∷ c ∷ []) f fit is h clear = absurd (omega (arith, leb-true, (and_parts (nat_le 5 len) (nat_le len 1028) fit).0))
run_clear at before segments len (a ∷ b ∷ c ∷ d ∷ xs) f fit is h clear =
    let body = a ∷ b ∷ c ∷ d ∷ xs in
    let p = a + 256 * b in
    let o = c + 256 * d in
    let piece = slice_get segments p in
    let size = and_parts (nat_le 5 len) (nat_le len 1028) fit in
    let low : 5 ≤ len = leb-true 5 len size.0 in
    let high : len ≤ 1028 = leb-true len 1028 size.1 in
    let n4 = noted_none (noted (noted (noted f (nat_le 2 (length body) && not (has_code piece 0)) at 3) (nat_le 2 (length body) && run_piece_falls before p) at 4) (nat_le 4 (length body) && has_code piece 0 && not (has_code piece (o + (len - 4)))) (at + 2) 3) (nat_le 4 (length body) && run_falls before p o) (at + 2) 4 clear in
    let n3 = noted_none (noted (noted f (nat_le 2 (length body) && not (has_code piece 0)) at 3) (nat_le 2 (length body) && run_piece_falls before p) at 4) (nat_le 4 (length body) && has_code piece 0 && not (has_code piece (o + (len - 4)))) (at + 2) 3 n4.0 in
    let n2 = noted_none (noted f (nat_le 2 (length body) && not (has_code piece 0)) at 3) (nat_le 2 (length body) && run_piece_falls before p) at 4 n3.0 in
    let n1 = noted_none f (nat_le 2 (length body) && not (has_code piece 0)) at 3 n2.0 in
    let two : nat_le 2 (length body) ≡ true = le-leb 2 (length body) (omega arith) in
    let more : nat_le 4 (length body) ≡ true = le-leb 4 (length body) (omega arith) in
    let code : has_code piece 0 ≡ true = not-false (has_code piece 0) (asked (nat_le 2 (length body)) (not (has_code piece 0)) two n1.1) in
    let falls = asked (nat_le 2 (length body)) (run_piece_falls before p) two n2.1 in
    let within : has_code piece (o + (len - 4)) ≡ true = not-false (has_code piece (o + (len - 4))) (asked (has_code piece 0) (not (has_code piece (o + (len - 4)))) code (asked2 (nat_le 4 (length body)) (has_code piece 0) (not (has_code piece (o + (len - 4)))) more n3.1)) in
    let late = asked (nat_le 4 (length body)) (run_falls before p o) more n4.1 in
    let end : o + (len - 4) ≡ o + length xs = omega arith in
    let inside : has_code piece (o + length xs) ≡ true = ap (has_code piece) (sym end) ∙ within in (
      n1.0,
      record {
        sound = and_from (nat_lt 0 (length xs) && nat_le (length xs) 1024) (has_code piece (o + length xs)) (and_from (nat_lt 0 (length xs)) (nat_le (length xs) 1024) (lt-ltb 0 (length xs) (omega arith)) (le-leb (length xs) 1024 (omega arith))) inside;
        narrow = and_from (nat_lt p 0x10000) (nat_lt o 0x10000) (lt-ltb p 0x10000 (word_below a b h.0 h.1.0)) (lt-ltb o 0x10000 (word_below c d h.1.1.0 h.1.1.1.0));
        spelled = λ i. word_again a b h.0 h.1.0 i ++ word_again c d h.1.1.0 h.1.1.1.0 i ++ xs;
        follows = run_after before (run_at body) falls late;
      },
    )

-- ---- 04

pub ten : (xs : List ℕ) → length xs ≡ 10 → xs ≡ slice_index xs 0 ∷ slice_index xs 1 ∷ slice_index xs 2 ∷ slice_index xs 3 ∷ slice_index xs 4 ∷ slice_index xs 5 ∷ slice_index xs 6 ∷ slice_index xs 7 ∷ slice_index xs 8 ∷ slice_index xs 9 ∷ []
ten [] h = absurd (omega arith)
ten (a ∷ []) h = absurd (omega arith)
ten (a ∷ b ∷ []) h = absurd (omega arith)
ten (a ∷ b ∷ c ∷ []) h = absurd (omega arith)
ten (a ∷ b ∷ c ∷ d ∷ []) h = absurd (omega arith)
ten (a ∷ b ∷ c ∷ d ∷ e ∷ []) h = absurd (omega arith)
ten (a ∷ b ∷ c ∷ d ∷ e ∷ g ∷ []) h = absurd (omega arith)
ten (a ∷ b ∷ c ∷ d ∷ e ∷ g ∷ k ∷ []) h = absurd (omega arith)
ten (a ∷ b ∷ c ∷ d ∷ e ∷ g ∷ k ∷ l ∷ []) h = absurd (omega arith)
ten (a ∷ b ∷ c ∷ d ∷ e ∷ g ∷ k ∷ l ∷ m ∷ []) h = absurd (omega arith)
ten (a ∷ b ∷ c ∷ d ∷ e ∷ g ∷ k ∷ l ∷ m ∷ n ∷ []) h = refl
ten (a ∷ b ∷ c ∷ d ∷ e ∷ g ∷ k ∷ l ∷ m ∷ n ∷ o ∷ xs) h = absurd (omega arith)

pub record Number (segments : List Segment) (externals : List Taken) (contents : List Content) (before : Option Fixup) (body : List ℕ) : Type 0 where
  pub sound : fixup_is_sound segments externals (fixup_at body) ≡ true
  pub narrow : fixup_fits (fixup_at body) ≡ true
  pub spelled : fixup_body (fixup_at body) ≡ body
  pub follows : AfterLast fixup_follows before (fixup_at body)
  pub room : has_room contents (fixup_at body) ≡ true

-- the bytes of the contents as they stand in the file
abbrev pub PlacesHold : List ℕ → List Content → List ℕ → Type 0
PlacesHold file contents starts = (p o : ℕ) → byte_of_file file (place_of contents starts p o) ≡ content_at contents p o

pub free_clear : (at : ℕ) (file : List ℕ) (fixups : List Fixup) (x : Fixup) (first second : Option ℕ) (f : Option Fault) → free_faults noted at file fixups x first second f ≡ None
    → (f ≡ None) × (is_under fixups x.piece x.offset ≡ false) × (may_begin x.kind (byte_of_file file first) ≡ true) × (((width x.kind == 2) && not (is_zero (byte_of_file file second))) ≡ false)
free_clear at file fixups x first second f clear =
    elim (stands_free fixups x first second) as (λ b. stands_free fixups x first second ≡ b → cond b (byte_faults noted file x first second f) (noted f true (at + 2) 3) ≡ None → (f ≡ None) × (is_under fixups x.piece x.offset ≡ false) × (may_begin x.kind (byte_of_file file first) ≡ true) × (((width x.kind == 2) && not (is_zero (byte_of_file file second))) ≡ false)) [
      | true ↦ λ e quiet.
          let o = x.offset in
          let begins = may_begin x.kind (byte_of_file file first) in
          let wrong = (width x.kind == 2) && not (is_zero (byte_of_file file second)) in
          let both = and_parts (is_some first && not (is_under fixups x.piece o)) ((width x.kind == 1) || (is_some second && not (is_under fixups x.piece (o + 1)))) e in
          let one = and_parts (is_some first) (not (is_under fixups x.piece o)) both.0 in
          let n2 = noted_none (noted f (not begins) (place_or_zero first) 4) wrong (place_or_zero second) 4 quiet in
          let n1 = noted_none f (not begins) (place_or_zero first) 4 n2.0 in
          (n1.0, not-true (is_under fixups x.piece o) one.1, not-false begins n1.1, n2.1)
      | false ↦ λ e quiet. absurd (cc quiet)
    ] refl clear

width_cases : (kind : ℕ) (z : Bool) → ((width kind == 2) && not z) ≡ false → ((width kind == 1) || z) ≡ true
width_cases kind z h =
    elim ((kind == 1) || (kind == 2)) as (λ b. ((cond b 1 2 == 2) && not z) ≡ false → ((cond b 1 2 == 1) || z) ≡ true) [ true ↦ λ k. refl | false ↦ λ k. not-false z k ] h

over_next : (p q o r w : ℕ) → nat_lt q p ≡ false → ((p == q) && nat_le r o) ≡ false → ((p == q) && nat_le o r && nat_lt r (o + w)) ≡ false → (nat_lt p q || ((p == q) && nat_le (o + w) r)) ≡ true
over_next p q o r w h k l = grind (arith, nat_tests)

fixup_after : (fixups : List Fixup) (before : Option Fixup) (x : Fixup) → last_of fixups ≡ before → fixup_piece_falls before x.piece ≡ false → fixup_falls before x.piece x.offset ≡ false → is_under fixups x.piece x.offset ≡ false → AfterLast fixup_follows before x
fixup_after fixups None x last h k under = tt
fixup_after fixups (Some b) x last h k under = over_next b.piece x.piece b.offset x.offset (width b.kind) h k (none_last (fills x.piece x.offset) fixups b under last)

target_exact : (segments : List Segment) (externals : List Taken) (kind t i j : ℕ) → i < 256 → j < 256 → (nat_lt 2 t || ((t == 2) && nat_lt kind 2)) ≡ false → bad_index (length segments) (length externals) t (i + 256 * j) ≡ false
    → (target_exists segments externals kind (target_of t (i + 256 * j)) ≡ true) × (target_bytes (target_of t (i + 256 * j)) ≡ t ∷ i ∷ j ∷ []) × (target_fits (target_of t (i + 256 * j)) ≡ true)
target_exact segments externals kind zero i j hi hj h k =
    (lt-ltb (i + 256 * j) (length segments) (leb-false (length segments) (i + 256 * j) k), (λ n. 0 ∷ word_again i j hi hj n), lt-ltb (i + 256 * j) 0x10000 (word_below i j hi hj))
target_exact segments externals kind (suc zero) i j hi hj h k =
    (lt-ltb (i + 256 * j) (length externals) (leb-false (length externals) (i + 256 * j) k), (λ n. 1 ∷ word_again i j hi hj n), lt-ltb (i + 256 * j) 0x10000 (word_below i j hi hj))
target_exact segments externals kind (suc (suc zero)) i j hi hj h k =
    let e : i + 256 * j ≡ 0 = eqb-true (i + 256 * j) 0 (not-false (eqb (i + 256 * j) 0) k) in
    let zero_i : 0 ≡ i = omega arith in
    let zero_j : 0 ≡ j = omega arith in
    (le-leb 2 kind (ltb-false kind 2 h), (λ n. 2 ∷ zero_i n ∷ zero_j n ∷ []), refl)
target_exact segments externals kind (suc (suc (suc t))) i j hi hj h k = absurd (grind (arith, nat_tests))

module _ (at : ℕ) (file : List ℕ) (r : Read) (a b c d k t i j e g : ℕ) (bytes : IsBytes (a ∷ b ∷ c ∷ d ∷ k ∷ t ∷ i ∷ j ∷ e ∷ g ∷ [])) (hold : PlacesHold file r.contents r.starts)
    (clear : fixup_faults noted at file (a ∷ b ∷ c ∷ d ∷ k ∷ t ∷ i ∷ j ∷ e ∷ g ∷ []) r ≡ None) where
  abbrev body : List ℕ
  body = a ∷ b ∷ c ∷ d ∷ k ∷ t ∷ i ∷ j ∷ e ∷ g ∷ []

  abbrev x : Fixup
  x = fixup_at body

  abbrev pieces : ℕ
  pieces = length r.segments

  abbrev place : Option Fault
  place = fixup_place_faults noted at (last_of r.fixups) pieces body r.fault

  abbrev under : Option Fault
  under = under_faults noted at file pieces r.contents r.starts r.fixups body place

  abbrev first : Option ℕ
  first = place_of r.contents r.starts x.piece x.offset

  abbrev second : Option ℕ
  second = place_of r.contents r.starts x.piece (x.offset + 1)

  target_clear : (under ≡ None) × ((nat_lt 2 t || ((t == 2) && nat_lt k 2)) ≡ false) × (bad_index pieces (length r.externals) t (i + 256 * j) ≡ false)
  target_clear =
      let n2 = noted_none (noted under (nat_lt 2 t || ((t == 2) && nat_lt k 2)) (at + 5) 3) (bad_index pieces (length r.externals) t (i + 256 * j)) (at + 6) 3 clear in
      let n1 = noted_none under (nat_lt 2 t || ((t == 2) && nat_lt k 2)) (at + 5) 3 n2.0 in
      (n1.0, n1.1, n2.1)

  -- a kind or a piece that there is not is reported by itself
  place_none : (asked_for : Bool) → cond asked_for (free_faults noted at file r.fixups x first second place) place ≡ None → place ≡ None
  place_none true h = (free_clear at file r.fixups x first second place h).0
  place_none false h = h

  place_clear : (r.fault ≡ None) × (nat_le pieces x.piece ≡ false) × (fixup_piece_falls (last_of r.fixups) x.piece ≡ false) × (fixup_falls (last_of r.fixups) x.piece x.offset ≡ false) × (nat_lt 4 k ≡ false)
  place_clear =
      let p = a + 256 * b in
      let o = c + 256 * d in
      let before = last_of r.fixups in
      let n4 = noted_none (noted (noted (noted r.fault (nat_le pieces p) at 3) (fixup_piece_falls before p) at 4) (fixup_falls before p o) (at + 2) 4) (nat_lt 4 k) (at + 4) 3 (place_none (nat_le k 4 && nat_lt p pieces) target_clear.0) in
      let n3 = noted_none (noted (noted r.fault (nat_le pieces p) at 3) (fixup_piece_falls before p) at 4) (fixup_falls before p o) (at + 2) 4 n4.0 in
      let n2 = noted_none (noted r.fault (nat_le pieces p) at 3) (fixup_piece_falls before p) at 4 n3.0 in
      let n1 = noted_none r.fault (nat_le pieces p) at 3 n2.0 in
      (n1.0, n1.1, n2.1, n3.1, n4.1)

  in_pieces : nat_lt x.piece pieces ≡ true
  in_pieces = lt-ltb x.piece pieces (leb-false pieces x.piece place_clear.1)

  known : nat_le k 4 ≡ true
  known = le-leb k 4 (ltb-false 4 k place_clear.4)

  free : free_faults noted at file r.fixups x first second place ≡ None
  free = (λ n. cond (sym known n && sym in_pieces n) (free_faults noted at file r.fixups x first second place) place) ∙ target_clear.0

  pub number_here : (r.fault ≡ None) × Number r.segments r.externals r.contents (last_of r.fixups) body
  number_here =
      let quiet = free_clear at file r.fixups x first second place free in
      let exact = target_exact r.segments r.externals k t i j bytes.1.1.1.1.1.1.0 bytes.1.1.1.1.1.1.1.0 target_clear.1 target_clear.2 in
      let begins : may_begin k (content_at r.contents x.piece x.offset) ≡ true = ap (may_begin k) (sym (hold x.piece x.offset)) ∙ quiet.2 in
      let ends : ((width k == 1) || is_zero (content_at r.contents x.piece (x.offset + 1))) ≡ true = ap (λ y. (width k == 1) || is_zero y) (sym (hold x.piece (x.offset + 1))) ∙ width_cases k (is_zero (byte_of_file file second)) quiet.3 in
      let p_narrow : nat_lt x.piece 0x10000 ≡ true = lt-ltb x.piece 0x10000 (word_below a b bytes.0 bytes.1.0) in
      let o_narrow : nat_lt x.offset 0x10000 ≡ true = lt-ltb x.offset 0x10000 (word_below c d bytes.1.1.0 bytes.1.1.1.0) in
      let e_narrow : nat_lt x.addend 0x10000 ≡ true = lt-ltb x.addend 0x10000 (word_below e g bytes.1.1.1.1.1.1.1.1.0 bytes.1.1.1.1.1.1.1.1.1.0) in (
        place_clear.0,
        record {
          sound = and_from (nat_lt x.piece pieces && nat_le k 4) (target_exists r.segments r.externals k x.target) (and_from (nat_lt x.piece pieces) (nat_le k 4) in_pieces known) exact.0;
          narrow = and_from (nat_lt x.piece 0x10000 && nat_lt x.offset 0x10000 && target_fits x.target) (nat_lt x.addend 0x10000) (and_from (nat_lt x.piece 0x10000 && nat_lt x.offset 0x10000) (target_fits x.target) (and_from (nat_lt x.piece 0x10000) (nat_lt x.offset 0x10000) p_narrow o_narrow) exact.2) e_narrow;
          spelled = λ n. word_again a b bytes.0 bytes.1.0 n ++ word_again c d bytes.1.1.0 bytes.1.1.1.0 n ++ (k ∷ exact.1 n) ++ word_again e g bytes.1.1.1.1.1.1.1.1.0 bytes.1.1.1.1.1.1.1.1.1.0 n;
          follows = fixup_after r.fixups (last_of r.fixups) x refl place_clear.2 place_clear.3 quiet.1;
          room = and_from (may_begin k (content_at r.contents x.piece x.offset)) ((width k == 1) || is_zero (content_at r.contents x.piece (x.offset + 1))) begins ends;
        },
      )

pub number_clear : (at : ℕ) (file : List ℕ) (r : Read) (body : List ℕ) → length body ≡ 10 → IsBytes body → PlacesHold file r.contents r.starts → fixup_faults noted at file body r ≡ None
    → (r.fault ≡ None) × Number r.segments r.externals r.contents (last_of r.fixups) body
number_clear at file r body len h hold clear =
    let same = ten body len in
    let bytes = subst IsBytes same h in
    let quiet = subst (λ (b : List ℕ). fixup_faults noted at file b r ≡ None) same clear in
    subst (λ (b : List ℕ). (r.fault ≡ None) × Number r.segments r.externals r.contents (last_of r.fixups) b) (sym same) (number_here at file r _ _ _ _ _ _ _ _ _ _ bytes hold quiet)
