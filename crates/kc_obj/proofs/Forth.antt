-- The bodies of records as they are spelled: the fields read again, and no fault.
use Rattle.std.proofs.Common.{◌≡◌, ℕ, suc, ◌+◌, ◌-◌, ◌*◌, ◌/◌, ◌%◌, ◌<◌, ◌≤◌, ◌⊎◌, inl, inr, Bool, true, false, not, ◌&&◌, ◌||◌, cond, List, [], ◌∷◌, ◌++◌, length, take, drop, length-append, Option, Some, None, refl, sym, ap, ◌∙◌, append_assoc, arith}
use Rattle.std.specs.Prelude.{slice_index, slice_get, nat_lt, nat_le, ◌==◌}
use Rattle.std.specs.List.{list_all}
use Rattle.std.proofs.lemmas.Bool.{and_parts, and_from, and_right, or_from, not-true, not_from_true, ne_eqb, ltb-true, leb-true, le-leb, lt-leb}
use Rattle.std.proofs.lemmas.Bool.Decides.{nat_tests}
use Rattle.std.proofs.lemmas.List.{take_at, drop_at, append-nil}
use Rattle.kc_obj_module.specs.declared.parts.SegKind.{SegKind}
use Rattle.kc_obj_module.specs.declared.parts.SegKind.TheVariants.{Reg, Code, Ram, Stack}
use Rattle.kc_obj_module.specs.declared.parts.Segment.{Segment}
use Rattle.kc_obj_module.specs.declared.parts.Taken.{Taken}
use Rattle.kc_obj_module.specs.declared.parts.Given.{Given}
use Rattle.kc_obj_module.specs.declared.parts.Content.{Content}
use Rattle.kc_obj_module.specs.Names.{is_digit, is_name_char, begins_name, is_name, is_stack_name, is_below}
use Rattle.kc_obj_module.specs.Pieces.{kind_number, lies_in, in_region, based_well, is_placed, may_follow, segment_follows, is_relocatable, has_code}
use Rattle.kc_obj_module.specs.Rules.{names_piece, given_is_sound}
use Rattle.kc_obj_module.specs.Contents.{content_is_sound, content_follows}
use Rattle.kc_obj_module.specs.Spelling.{word_bytes, name_bytes, tag_of, piece_number, segment_body, taken_body, given_body, content_body}
use Rattle.kc_obj_fields.specs.declared.faults.Fault.{Fault}
use Rattle.kc_obj_fields.specs.Fields.{word_at, noted, name_at, begins_digit, is_bad_name}
use Rattle.kc_obj_fields.specs.Records.{kind_of, segment_at, kind_falls, comes_late, bad_base, bad_length, kind_faults, flag_faults, segment_faults, head_faults, taken_at, taken_faults, piece_of, given_at, name_falls, given_faults, run_at, run_piece_falls, run_falls, run_faults}
use Rattle.kc_obj.proofs.Order.{AfterLast}
use Rattle.kc_obj.proofs.Clear.{behind}

pub clear_noted : (f : Option Fault) (b : Bool) (at code : ℕ) → f ≡ None → b ≡ false → noted f b at code ≡ None
clear_noted f b at code h e = rw (e, h) refl

pub word_back : (n : ℕ) → n < 0x10000 → n % 256 + 256 * (n / 256 % 256) ≡ n
word_back n h = omega arith

-- ---- 02

kind_back : (kind : SegKind) → kind_of (kind_number kind) ≡ kind
kind_back Reg = refl
kind_back Code = refl
kind_back Ram = refl
kind_back Stack = refl

kind_known : (kind : SegKind) → nat_lt 3 (kind_number kind) ≡ false
kind_known Reg = refl
kind_known Code = refl
kind_known Ram = refl
kind_known Stack = refl

lies_shorter : (low high base len : ℕ) → lies_in low high base len ≡ true → lies_in low high base 0 ≡ true
lies_shorter low high base len h =
    let both = and_parts (nat_le low base && nat_le base high) (nat_le (base + len) (high + 1)) h in
    let le : base ≤ high = leb-true base high (and_parts (nat_le low base) (nat_le base high) both.0).1 in
    and_from (nat_le low base && nat_le base high) (nat_le (base + 0) (high + 1)) both.0 (le-leb (base + 0) (high + 1) (omega arith))

lies_narrow : (low high base len : ℕ) → high < 0x10000 → lies_in low high base len ≡ true → base < 0x10000
lies_narrow low high base len lt h =
    let both = and_parts (nat_le low base && nat_le base high) (nat_le (base + len) (high + 1)) h in
    let le : base ≤ high = leb-true base high (and_parts (nat_le low base) (nat_le base high) both.0).1 in
    omega arith

region_shorter : (kind : SegKind) (base len : ℕ) → in_region kind base len ≡ true → (in_region kind base 0 ≡ true) × (base < 0x10000)
region_shorter Reg base len h = (lies_shorter 0 0x1FF base len h, lies_narrow 0 0x1FF base len (omega arith) h)
region_shorter Code base len h = (lies_shorter 0x2000 0xFFFF base len h, lies_narrow 0x2000 0xFFFF base len (omega arith) h)
region_shorter Ram base len h =
    elim (lies_in 0x200 0x1FFD base len) as (λ b. lies_in 0x200 0x1FFD base len ≡ b → (b || lies_in 0x6000 0xFFFF base len) ≡ true → (in_region Ram base 0 ≡ true) × (base < 0x10000)) [
      | true ↦ λ e k. (ap (λ b. b || lies_in 0x6000 0xFFFF base 0) (lies_shorter 0x200 0x1FFD base len e), lies_narrow 0x200 0x1FFD base len (omega arith) e)
      | false ↦ λ e k. (or_second (lies_in 0x200 0x1FFD base 0) (lies_in 0x6000 0xFFFF base 0) (lies_shorter 0x6000 0xFFFF base len k), lies_narrow 0x6000 0xFFFF base len (omega arith) k)
    ] refl h
  where
    or_second : (x y : Bool) → y ≡ true → (x || y) ≡ true
    or_second true y h = refl
    or_second false y h = h
region_shorter Stack base len h = absurd (cc h)

falls_not : (before : Option Segment) (s : Segment) → AfterLast segment_follows before s → (kind_falls before s ≡ false) × (comes_late before s ≡ false)
falls_not None s h = (refl, refl)
falls_not (Some b) s h = plain b.at s.at (kind_number b.kind) (kind_number s.kind) h
  where
    plain : (x y : Option ℕ) (k n : ℕ) → may_follow x y k n ≡ true → ((is_relocatable x && is_relocatable y && nat_le n k) ≡ false) × ((not (is_relocatable x) && is_relocatable y) ≡ false)
    plain None None k n h = (lt-leb n k (ltb-true k n h), refl)
    plain None (Some y) k n h = (refl, refl)
    plain (Some x) None k n h = absurd (cc h)
    plain (Some x) (Some y) k n h = (refl, refl)

-- a relocatable or an absolute piece
record Based (s : Segment) : Type 0 where
  pub length : length (segment_body s) ≡ 6
  pub again : segment_at (segment_body s) ≡ s
  pub flag : (nat_lt 1 (slice_index (segment_body s) 1) || ((slice_index (segment_body s) 1 == 1) && (slice_index (segment_body s) 0 == 3))) ≡ false
  pub base : bad_base s (word_at (segment_body s) 2) ≡ false
  pub end : bad_length s (word_at (segment_body s) 2) ≡ false

not_stack : (kind : SegKind) (base len : ℕ) → in_region kind base len ≡ true → (kind_number kind == 3) ≡ false
not_stack Reg base len h = refl
not_stack Code base len h = refl
not_stack Ram base len h = refl
not_stack Stack base len h = absurd (cc h)

based_forth : (kind : SegKind) (at : Option ℕ) (len : ℕ) → based_well kind len at ≡ true → len < 0x10000 → Based (record { kind = kind; at = at; length = len })
based_forth kind None len placed narrow =
    record { length = refl; again = λ i. record { kind = kind_back kind i; at = None; length = word_back len narrow i }; flag = refl; base = refl; end = refl }
based_forth kind (Some base) len placed narrow =
    let short = region_shorter kind base len placed in
    let word = word_back base short.1 in
    record {
      length = refl;
      again = λ i. record { kind = kind_back kind i; at = Some (word i); length = word_back len narrow i };
      flag = not_stack kind base len placed;
      base = ap (λ b. not (in_region kind b 0)) word ∙ not_from_true (in_region kind base 0) short.0;
      end = ap (λ b. in_region kind b 0 && not (in_region kind b len)) word ∙ and_right (in_region kind base 0) (not (in_region kind base len)) (not_from_true (in_region kind base len) placed);
    }

pub record PieceForth (at : ℕ) (before : Option Segment) (s : Segment) (f : Option Fault) : Type 0 where
  pub length : length (segment_body s) ≡ 6
  pub again : segment_at (segment_body s) ≡ s
  pub clear : segment_faults noted at before (segment_body s) f ≡ None

pub piece_forth : (at : ℕ) (before : Option Segment) (s : Segment) (f : Option Fault) → is_placed s ≡ true → nat_lt s.length 0x10000 ≡ true → AfterLast segment_follows before s → f ≡ None → PieceForth at before s f
piece_forth at before s f placed narrow follows none =
    let body = segment_body s in
    let b : Based s = based_forth s.kind s.at s.length placed (ltb-true s.length 0x10000 narrow) in
    let falls = falls_not before s follows in
    let c1 = clear_noted f (nat_le 1 (length body) && nat_lt 3 (slice_index body 0)) at 3 none (and_right (nat_le 1 (length body)) (nat_lt 3 (slice_index body 0)) (kind_known s.kind)) in
    let c2 = clear_noted (noted f (nat_le 1 (length body) && nat_lt 3 (slice_index body 0)) at 3) (nat_le 2 (length body) && kind_falls before (segment_at body)) at 4 c1 (and_right (nat_le 2 (length body)) (kind_falls before (segment_at body)) (ap (kind_falls before) b.again ∙ falls.0)) in
    let kind = kind_faults noted at before body f in
    let broken = nat_lt 1 (slice_index body 1) || ((slice_index body 1 == 1) && (slice_index body 0 == 3)) in
    let c3 = clear_noted kind (nat_le 2 (length body) && broken) (at + 1) 3 c2 (and_right (nat_le 2 (length body)) broken b.flag) in
    let c4 = clear_noted (noted kind (nat_le 2 (length body) && broken) (at + 1) 3) (nat_le 2 (length body) && comes_late before (segment_at body)) (at + 1) 4 c3 (and_right (nat_le 2 (length body)) (comes_late before (segment_at body)) (ap (comes_late before) b.again ∙ falls.1)) in
    let flag = flag_faults noted at before body kind in
    let base = bad_base (segment_at body) (word_at body 2) in
    let end = bad_length (segment_at body) (word_at body 2) in
    let c5 = clear_noted flag (nat_le 4 (length body) && base) (at + 2) 3 c4 (and_right (nat_le 4 (length body)) base (ap (λ t. bad_base t (word_at body 2)) b.again ∙ b.base)) in
    let c6 = clear_noted (noted flag (nat_le 4 (length body) && base) (at + 2) 3) (nat_le 6 (length body) && end) (at + 4) 3 c5 (and_right (nat_le 6 (length body)) end (ap (λ t. bad_length t (word_at body 2)) b.again ∙ b.end)) in
    record { length = b.length; again = b.again; clear = c6 }

-- ---- names

pub record NameForth (public : Bool) (name rest : List ℕ) : Type 0 where
  pub size : length name % 256 ≡ length name
  pub short : length name ≤ 31
  pub again : name_at (name_bytes name ++ rest) ≡ name
  pub sound : is_bad_name public (name_bytes name ++ rest) ≡ false

begins_no_digit : (name : List ℕ) → begins_name name ≡ true → (begins_digit name ≡ false) × (1 ≤ length name)
begins_no_digit [] h = absurd (cc h)
begins_no_digit (c ∷ cs) h = (not-true (is_digit c) h, omega arith)

pub name_forth : (public : Bool) (name rest : List ℕ) → is_name name ≡ true → (public && is_stack_name name) ≡ false → NameForth public name rest
name_forth public name rest h stack =
    let both = and_parts (begins_name name && nat_le (length name) 31) (list_all is_name_char name) h in
    let one = and_parts (begins_name name) (nat_le (length name) 31) both.0 in
    let short : length name ≤ 31 = leb-true (length name) 31 one.1 in
    let begins = begins_no_digit name one.0 in
    let n = length name % 256 in
    let size : n ≡ length name = omega arith in
    let again : take n (name ++ rest) ≡ name = ap (λ k. take k (name ++ rest)) size ∙ take_at name rest (length name) refl in
    let nm = take n (name ++ rest) in
    let low : (nat_le 1 n && nat_le n 31) ≡ true = and_from (nat_le 1 n) (nat_le n 31) (le-leb 1 n (omega (arith, begins.1))) (le-leb n 31 (omega arith)) in
    record {
      size = size;
      short = short;
      again = again;
      sound =
          or_from (not (nat_le 1 n && nat_le n 31) || begins_digit nm || not (list_all is_name_char nm)) (public && (n == 5) && is_stack_name nm)
          (or_from (not (nat_le 1 n && nat_le n 31) || begins_digit nm) (not (list_all is_name_char nm))
          (or_from (not (nat_le 1 n && nat_le n 31)) (begins_digit nm) (not_from_true (nat_le 1 n && nat_le n 31) low) (ap begins_digit again ∙ begins.0))
          (not_from_true (list_all is_name_char nm) (ap (list_all is_name_char) again ∙ both.1)))
          (stack_plain public (n == 5) (is_stack_name nm) (ap (λ t. public && is_stack_name t) again ∙ stack));
    }
  where
    stack_plain : (p q s : Bool) → (p && s) ≡ false → (p && q && s) ≡ false
    stack_plain true true s h = h
    stack_plain true false s h = refl
    stack_plain false q s h = refl

-- ---- 01

pub head_forth : (at v : ℕ) (name : List ℕ) (f : Option Fault) → ((v ≡ 1) ⊎ (v ≡ 2)) → is_name name ≡ true → f ≡ None → head_faults noted at (v ∷ name_bytes name) f ≡ None
head_forth at v name f version h none =
    let body = v ∷ name_bytes name in
    let n : NameForth false name [] = name_forth false name [] h refl in
    let sound : is_bad_name false (name_bytes name) ≡ false = ap (is_bad_name false) (sym (append-nil (name_bytes name))) ∙ n.sound in
    let known : not ((v == 1) || (v == 2)) ≡ false = elim version [ inl e ↦ rw e refl | inr e ↦ rw e refl ] in
    let c1 = clear_noted f (nat_le 1 (length body) && not ((v == 1) || (v == 2))) at 3 none (and_right (nat_le 1 (length body)) (not ((v == 1) || (v == 2))) known) in
    clear_noted (noted f (nat_le 1 (length body) && not ((v == 1) || (v == 2))) at 3) (nat_le 2 (length body) && is_bad_name false (name_bytes name)) (at + 1) 6 c1 (and_right (nat_le 2 (length body)) (is_bad_name false (name_bytes name)) sound)

-- ---- 05

pub record ExternalForth (at : ℕ) (t : Taken) (f : Option Fault) : Type 0 where
  pub size : length (taken_body t) ≡ slice_index (taken_body t) 0 + 1 + 1
  pub again : taken_at (taken_body t) ≡ t
  pub clear : taken_faults noted at (taken_body t) f ≡ None

tag_small : (r : Bool) → (nat_lt 1 (tag_of r) ≡ false) × ((tag_of r == 0) ≡ r)
tag_small true = (refl, refl)
tag_small false = (refl, refl)

pub external_forth : (at : ℕ) (t : Taken) (f : Option Fault) → is_name t.name ≡ true → f ≡ None → ExternalForth at t f
external_forth at t f h none =
    let rest = tag_of t.register ∷ [] in
    let body = taken_body t in
    let n = length t.name % 256 in
    let name : NameForth false t.name rest = name_forth false t.name rest h refl in
    let tag : slice_index body (n + 1) ≡ tag_of t.register = behind n n (n + 1) 0 (t.name ++ rest) (omega arith) ∙ ap (λ k. slice_index (drop k (t.name ++ rest)) 0) name.size ∙ ap (λ l. slice_index l 0) (drop_at t.name rest (length t.name) refl) in
    let small = tag_small t.register in
    let c1 = clear_noted f (nat_le 1 (length body) && is_bad_name false body) at 6 none (and_right (nat_le 1 (length body)) (is_bad_name false body) name.sound) in
    record {
      size = omega (arith, length-append t.name rest, name.size);
      again = λ i. record { name = name.again i; register = (ap (λ k. k == 0) tag ∙ small.1) i };
      clear = clear_noted (noted f (nat_le 1 (length body) && is_bad_name false body) at 6) (nat_le (n + 2) (length body) && nat_lt 1 (slice_index body (n + 1))) (at + n + 1) 3 c1 (and_right (nat_le (n + 2) (length body)) (nat_lt 1 (slice_index body (n + 1))) (ap (nat_lt 1) tag ∙ small.0));
    }

-- ---- 06

pub record PublicForth (at : ℕ) (before : Option Given) (count : ℕ) (g : Given) (f : Option Fault) : Type 0 where
  pub size : length (given_body g) ≡ slice_index (given_body g) 0 + 1 + 4
  pub again : given_at (given_body g) ≡ g
  pub clear : given_faults noted at before count (given_body g) f ≡ None

piece_back : (count : ℕ) (piece : Option ℕ) → names_piece count piece ≡ true → (piece_number piece < 0x10000) × (piece_of (piece_number piece) ≡ piece) × ((not (piece_number piece == 0xFFFF) && not (nat_lt (piece_number piece) count)) ≡ false)
piece_back count None h = (omega arith, refl, refl)
piece_back count (Some p) h =
    let both = and_parts (nat_lt p count) (nat_lt p 0xFFFF) h in
    let low : p < 0xFFFF = ltb-true p 0xFFFF both.1 in
    let other : (p == 0xFFFF) ≡ false = ne_eqb p 0xFFFF (λ e. absurd (omega arith)) in
    (omega arith, ap (λ b. cond b None (Some p)) other, and_right (not (p == 0xFFFF)) (not (nat_lt p count)) (not_from_true (nat_lt p count) both.0))

name_not_late : (before : Option Given) (g : Given) → AfterLast (λ g h. is_below g.name h.name) before g → name_falls before g.name ≡ false
name_not_late None g h = refl
name_not_late (Some b) g h = not_from_true (is_below b.name g.name) h

pub public_forth : (at : ℕ) (before : Option Given) (count : ℕ) (g : Given) (f : Option Fault) → given_is_sound count g ≡ true → nat_lt g.value 0x10000 ≡ true → AfterLast (λ g h. is_below g.name h.name) before g → f ≡ None → PublicForth at before count g f
public_forth at before count g f h narrow follows none =
    let both = and_parts (is_name g.name && not (is_stack_name g.name)) (names_piece count g.piece) h in
    let one = and_parts (is_name g.name) (not (is_stack_name g.name)) both.0 in
    let words = word_bytes (piece_number g.piece) ++ word_bytes g.value in
    let body = given_body g in
    let shape : body ≡ name_bytes g.name ++ words = append_assoc (name_bytes g.name) (word_bytes (piece_number g.piece)) (word_bytes g.value) in
    let n = length g.name % 256 in
    let xs = g.name ++ words in
    let name : NameForth true g.name words = name_forth true g.name words one.0 (not-true (is_stack_name g.name) one.1) in
    let place : (k j : ℕ) → k ≡ suc (n + j) → slice_index body k ≡ slice_index words j =
    λ k j e. ap (λ l. slice_index l k) shape ∙ behind n n k j xs e ∙ ap (λ m. slice_index (drop m xs) j) name.size ∙ ap (λ l. slice_index l j) (drop_at g.name words (length g.name) refl) in
    let piece = piece_back count g.piece both.1 in
    let value_low : g.value < 0x10000 = ltb-true g.value 0x10000 narrow in
    let p : word_at body (n + 1) ≡ piece_number g.piece = (λ i. place (n + 1) 0 (omega arith) i + 256 * place (n + 1 + 1) 1 (omega arith) i) ∙ word_back (piece_number g.piece) piece.0 in
    let v : word_at body (n + 3) ≡ g.value = (λ i. place (n + 3) 2 (omega arith) i + 256 * place (n + 3 + 1) 3 (omega arith) i) ∙ word_back g.value value_low in
    let bad : is_bad_name true body ≡ false = ap (is_bad_name true) shape ∙ name.sound in
    let again : name_at body ≡ g.name = ap name_at shape ∙ name.again in
    let late : name_falls before (name_at body) ≡ false = ap (name_falls before) again ∙ name_not_late before g follows in
    let first = nat_le 1 (length body) && is_bad_name true body in
    let second = nat_le (n + 1) (length body) && name_falls before (name_at body) in
    let unknown = not (word_at body (n + 1) == 0xFFFF) && not (nat_lt (word_at body (n + 1)) count) in
    let known : unknown ≡ false = ap (λ q. not (q == 0xFFFF) && not (nat_lt q count)) p ∙ piece.2 in
    let c1 = clear_noted f first at 6 none (and_right (nat_le 1 (length body)) (is_bad_name true body) bad) in
    let c2 = clear_noted (noted f first at 6) second at 4 c1 (and_right (nat_le (n + 1) (length body)) (name_falls before (name_at body)) late) in
    record {
      size = ap length shape ∙ omega (arith, length-append g.name words, name.size);
      again = λ i. record { name = again i; piece = (ap piece_of p ∙ piece.1) i; value = v i };
      clear = clear_noted (noted (noted f first at 6) second at 4) (nat_le (n + 3) (length body) && not (word_at body (n + 1) == 0xFFFF) && not (nat_lt (word_at body (n + 1)) count)) (at + n + 1) 3 c2 (three (nat_le (n + 3) (length body)) (not (word_at body (n + 1) == 0xFFFF)) (not (nat_lt (word_at body (n + 1)) count)) known);
    }
  where
    three : (a b c : Bool) → (b && c) ≡ false → (a && b && c) ≡ false
    three true b c h = h
    three false b c h = refl

-- ---- 03

pub record RunForth (at : ℕ) (before : Option Content) (segments : List Segment) (c : Content) (f : Option Fault) : Type 0 where
  pub size : length (content_body c) ≡ 4 + length c.bytes
  pub fit : (nat_le 5 (length (content_body c)) && nat_le (length (content_body c)) 1028) ≡ true
  pub again : run_at (content_body c) ≡ c
  pub clear : run_faults noted at before (slice_get segments (word_at (content_body c) 0)) (length (content_body c)) (content_body c) f ≡ None

run_not_late : (before : Option Content) (c : Content) → AfterLast content_follows before c → (run_piece_falls before c.piece ≡ false) × (run_falls before c.piece c.offset ≡ false)
run_not_late None c h = (refl, refl)
run_not_late (Some b) c h = (ordered b.piece c.piece (nat_lt (b.offset + length b.bytes) c.offset || ((b.offset + length b.bytes == c.offset) && (length b.bytes == 1024))) h, and_right (b.piece == c.piece) (not (content_follows b c)) (not_from_true (content_follows b c) h))
  where
    ordered : (p q : ℕ) (rest : Bool) → (nat_lt p q || ((p == q) && rest)) ≡ true → nat_lt q p ≡ false
    ordered p q true h = grind (arith, nat_tests)
    ordered p q false h = grind (arith, nat_tests)

code_shorter : (s : Option Segment) (end : ℕ) → has_code s end ≡ true → has_code s 0 ≡ true
code_shorter None end h = absurd (cc h)
code_shorter (Some s) end h = let both = and_parts (kind_number s.kind == 1) (nat_le end s.length) h in and_from (kind_number s.kind == 1) (nat_le 0 s.length) both.0 (le-leb 0 s.length (omega arith))

pub run_forth : (at : ℕ) (before : Option Content) (segments : List Segment) (c : Content) (f : Option Fault) → content_is_sound segments c ≡ true → (nat_lt c.piece 0x10000 && nat_lt c.offset 0x10000) ≡ true → AfterLast content_follows before c → f ≡ None → RunForth at before segments c f
run_forth at before segments c f h narrow follows none =
    let body = content_body c in
    let both = and_parts (nat_lt 0 (length c.bytes) && nat_le (length c.bytes) 1024) (has_code (slice_get segments c.piece) (c.offset + length c.bytes)) h in
    let size = and_parts (nat_lt 0 (length c.bytes)) (nat_le (length c.bytes) 1024) both.0 in
    let low : 0 < length c.bytes = ltb-true 0 (length c.bytes) size.0 in
    let high : length c.bytes ≤ 1024 = leb-true (length c.bytes) 1024 size.1 in
    let fits = and_parts (nat_lt c.piece 0x10000) (nat_lt c.offset 0x10000) narrow in
    let p : word_at body 0 ≡ c.piece = word_back c.piece (ltb-true c.piece 0x10000 fits.0) in
    let o : word_at body 2 ≡ c.offset = word_back c.offset (ltb-true c.offset 0x10000 fits.1) in
    let len : length body ≡ 4 + length c.bytes = omega arith in
    let piece = slice_get segments (word_at body 0) in
    let same : slice_get segments c.piece ≡ piece = ap (slice_get segments) (sym p) in
    let end : word_at body 2 + (length body - 4) ≡ c.offset + length c.bytes = omega (arith, o, len) in
    let inside : has_code piece (word_at body 2 + (length body - 4)) ≡ true = ap (has_code piece) end ∙ ap (λ s. has_code s (c.offset + length c.bytes)) (sym same) ∙ both.1 in
    let code : has_code piece 0 ≡ true = code_shorter piece (word_at body 2 + (length body - 4)) inside in
    let late = run_not_late before c follows in
    let first = nat_le 2 (length body) && not (has_code piece 0) in
    let second = nat_le 2 (length body) && run_piece_falls before (word_at body 0) in
    let third = nat_le 4 (length body) && has_code piece 0 && not (has_code piece (word_at body 2 + (length body - 4))) in
    let fourth = nat_le 4 (length body) && run_falls before (word_at body 0) (word_at body 2) in
    let c1 = clear_noted f first at 3 none (and_right (nat_le 2 (length body)) (not (has_code piece 0)) (not_from_true (has_code piece 0) code)) in
    let c2 = clear_noted (noted f first at 3) second at 4 c1 (and_right (nat_le 2 (length body)) (run_piece_falls before (word_at body 0)) (ap (run_piece_falls before) p ∙ late.0)) in
    let c3 = clear_noted (noted (noted f first at 3) second at 4) third (at + 2) 3 c2 (and_right (nat_le 4 (length body) && has_code piece 0) (not (has_code piece (word_at body 2 + (length body - 4)))) (not_from_true (has_code piece (word_at body 2 + (length body - 4))) inside)) in
    record {
      size = len;
      fit = and_from (nat_le 5 (length body)) (nat_le (length body) 1028) (le-leb 5 (length body) (omega arith)) (le-leb (length body) 1028 (omega arith));
      again = λ i. record { piece = p i; offset = o i; bytes = c.bytes };
      clear = clear_noted (noted (noted (noted f first at 3) second at 4) third (at + 2) 3) fourth (at + 2) 4 c3 (and_right (nat_le 4 (length body)) (run_falls before (word_at body 0) (word_at body 2)) ((λ i. run_falls before (p i) (o i)) ∙ late.1));
    }
