-- No fault at a record: what its fields then are.
use Rattle.std.proofs.Common.{◌≡◌, ℕ, zero, suc, add-one, ◌+◌, ◌*◌, ◌%◌, ◌<◌, ◌≤◌, ◌⊎◌, inl, inr, Bool, true, false, not, ◌&&◌, ◌||◌, cond, eqb, ltb, List, [], ◌∷◌, ◌++◌, length, take, drop, get_or, Option, Some, None, refl, sym, ap, ◌∙◌, subst, append_assoc, arith}
use Rattle.std.specs.Prelude.{slice_index, nat_lt, nat_le, ◌==◌}
use Rattle.std.specs.List.{list_all}
use Rattle.std.proofs.lemmas.Bool.{and_parts, and_from, or_parts, not-false, not_from_false, eqb-true, eq-eqb, ltb-false, leb-true, leb-false, lt-ltb, le-leb}
use Rattle.std.proofs.lemmas.Bool.Decides.{nat_tests}
use Rattle.std.proofs.lemmas.List.{get_or-drop, length-take-le, length-drop, take-append-drop, take_all, take_more}
use Rattle.kc_obj_module.specs.declared.parts.SegKind.{SegKind}
use Rattle.kc_obj_module.specs.declared.parts.Segment.{Segment}
use Rattle.kc_obj_module.specs.declared.parts.Given.{Given}
use Rattle.kc_obj_module.specs.Names.{is_digit, is_name_char, begins_name, is_name, is_stack_name, is_below}
use Rattle.kc_obj_module.specs.Pieces.{kind_number, in_region, is_placed, may_follow, segment_follows, is_relocatable}
use Rattle.kc_obj_module.specs.Rules.{names_piece, given_is_sound}
use Rattle.kc_obj_module.specs.Spelling.{word_bytes, name_bytes, tag_of, piece_number, segment_body, taken_body, given_body}
use Rattle.kc_obj_fields.specs.declared.faults.Fault.{Fault}
use Rattle.kc_obj_fields.specs.Fields.{word_at, noted, name_at, begins_digit, is_bad_name}
use Rattle.kc_base.specs.Bytes.{IsBytes}
use Rattle.kc_obj_fields.specs.Records.{kind_of, segment_at, kind_falls, comes_late, bad_base, bad_length, kind_faults, flag_faults, segment_faults, head_faults, taken_at, taken_faults, piece_of, given_at, name_falls, given_faults}
use Rattle.kc_obj.proofs.Order.{AfterLast}
use Rattle.kc_obj.proofs.Bytes.{word_again, word_below, bytes_drop}

-- nothing was noted before, and nothing is here
pub noted_none : (f : Option Fault) (b : Bool) (at code : ℕ) → noted f b at code ≡ None → (f ≡ None) × (b ≡ false)
noted_none f true at code h = absurd (cc h)
noted_none f false at code h = (h, refl)

-- a test that is asked
pub asked : (b c : Bool) → b ≡ true → (b && c) ≡ false → c ≡ false
asked b c e h = rw e at h

pub asked2 : (b c d : Bool) → b ≡ true → (b && c && d) ≡ false → (c && d) ≡ false
asked2 b c d e h = rw e at h

-- ---- 02

six : (xs : List ℕ) → length xs ≡ 6 → xs ≡ slice_index xs 0 ∷ slice_index xs 1 ∷ slice_index xs 2 ∷ slice_index xs 3 ∷ slice_index xs 4 ∷ slice_index xs 5 ∷ []
six [] h = absurd (omega arith)
six (a ∷ []) h = absurd (omega arith)
six (a ∷ b ∷ []) h = absurd (omega arith)
six (a ∷ b ∷ c ∷ []) h = absurd (omega arith)
six (a ∷ b ∷ c ∷ d ∷ []) h = absurd (omega arith)
six (a ∷ b ∷ c ∷ d ∷ e ∷ []) h = absurd (omega arith)
six (a ∷ b ∷ c ∷ d ∷ e ∷ g ∷ []) h = refl
six (a ∷ b ∷ c ∷ d ∷ e ∷ g ∷ k ∷ xs) h = absurd (omega arith)

up_to_3 : (n : ℕ) → ltb 3 n ≡ false → ((n ≡ 0) ⊎ (n ≡ 1)) ⊎ ((n ≡ 2) ⊎ (n ≡ 3))
up_to_3 zero h = inl (inl refl)
up_to_3 (suc zero) h = inl (inr refl)
up_to_3 (suc (suc zero)) h = inr (inl refl)
up_to_3 (suc (suc (suc zero))) h = inr (inr refl)
up_to_3 (suc (suc (suc (suc n)))) h = absurd (omega (arith, ltb-false))

up_to_1 : (n : ℕ) → ltb 1 n ≡ false → (n ≡ 0) ⊎ (n ≡ 1)
up_to_1 zero h = inl refl
up_to_1 (suc zero) h = inr refl
up_to_1 (suc (suc n)) h = absurd (omega (arith, ltb-false))

pub record Piece (before : Option Segment) (body : List ℕ) : Type 0 where
  pub placed : is_placed (segment_at body) ≡ true
  pub narrow : nat_lt (segment_at body).length 0x10000 ≡ true
  pub spelled : segment_body (segment_at body) ≡ body
  pub follows : AfterLast segment_follows before (segment_at body)

follows_plain : (x y : Option ℕ) (k n : ℕ) → (is_relocatable x && is_relocatable y && nat_le n k) ≡ false → (not (is_relocatable x) && is_relocatable y) ≡ false → may_follow x y k n ≡ true
follows_plain None None k n h l = lt-ltb k n (leb-false n k h)
follows_plain None (Some y) k n h l = refl
follows_plain (Some x) None k n h l = absurd (cc l)
follows_plain (Some x) (Some y) k n h l = refl

piece_after : (before : Option Segment) (s : Segment) → kind_falls before s ≡ false → comes_late before s ≡ false → AfterLast segment_follows before s
piece_after None s h l = tt
piece_after (Some b) s h l = follows_plain b.at s.at (kind_number b.kind) (kind_number s.kind) h l

zeros : (c d : ℕ) → not (c + 256 * d == 0) ≡ false → (c ≡ 0) × (d ≡ 0)
zeros c d h = let e : c + 256 * d ≡ 0 = eqb-true (c + 256 * d) 0 (not-false (eqb (c + 256 * d) 0) h) in (omega arith, omega arith)

-- the base and the length of an absolute piece
based : (kind : SegKind) (base len : ℕ) → not (in_region kind base 0) ≡ false → (in_region kind base 0 && not (in_region kind base len)) ≡ false → in_region kind base len ≡ true
based kind base len h k = let e : in_region kind base 0 ≡ true = not-false (in_region kind base 0) h in not-false (in_region kind base len) (rw e at k)

kind_spelled : (a : ℕ) → ltb 3 a ≡ false → kind_number (kind_of a) ≡ a
kind_spelled a h =
    elim (up_to_3 a h) [
      | inl p ↦ elim p [ inl e ↦ rw e refl | inr e ↦ rw e refl ]
      | inr p ↦ elim p [ inl e ↦ rw e refl | inr e ↦ rw e refl ]
    ]

piece_here : (at : ℕ) (before : Option Segment) (a b c d e g : ℕ) (f : Option Fault) → IsBytes (a ∷ b ∷ c ∷ d ∷ e ∷ g ∷ []) → segment_faults noted at before (a ∷ b ∷ c ∷ d ∷ e ∷ g ∷ []) f ≡ None
    → (f ≡ None) × Piece before (a ∷ b ∷ c ∷ d ∷ e ∷ g ∷ [])
piece_here at before a b c d e g f h clear =
    let body = a ∷ b ∷ c ∷ d ∷ e ∷ g ∷ [] in
    let s = segment_at body in
    let n6 = noted_none (noted (flag_faults noted at before body (kind_faults noted at before body f)) (bad_base s (c + 256 * d)) (at + 2) 3) (bad_length s (c + 256 * d)) (at + 4) 3 clear in
    let n5 = noted_none (flag_faults noted at before body (kind_faults noted at before body f)) (bad_base s (c + 256 * d)) (at + 2) 3 n6.0 in
    let n4 = noted_none (noted (kind_faults noted at before body f) (nat_lt 1 b || ((b == 1) && (a == 3))) (at + 1) 3) (comes_late before s) (at + 1) 4 n5.0 in
    let n3 = noted_none (kind_faults noted at before body f) (nat_lt 1 b || ((b == 1) && (a == 3))) (at + 1) 3 n4.0 in
    let n2 = noted_none (noted f (nat_lt 3 a) at 3) (kind_falls before s) at 4 n3.0 in
    let n1 = noted_none f (nat_lt 3 a) at 3 n2.0 in
    let flag = (or_parts (nat_lt 1 b) ((b == 1) && (a == 3)) n3.1).0 in
    let kind : kind_number (kind_of a) ≡ a = kind_spelled a n1.1 in
    let narrow : nat_lt (e + 256 * g) 0x10000 ≡ true = lt-ltb (e + 256 * g) 0x10000 (word_below e g h.1.1.1.1.0 h.1.1.1.1.1.0) in
    let size : word_bytes (e + 256 * g) ≡ e ∷ g ∷ [] = word_again e g h.1.1.1.1.0 h.1.1.1.1.1.0 in
    let base : word_bytes (c + 256 * d) ≡ c ∷ d ∷ [] = word_again c d h.1.1.0 h.1.1.1.0 in
    let here : Piece before body =
    elim (up_to_1 b flag) [
      | inl e0 ↦
          let both = zeros c d (rw e0 at n5.1) in
          record {
            placed = rw e0 refl;
            narrow = narrow;
            spelled = rw (e0, both.0, both.1) (λ i. kind i ∷ 0 ∷ 0 ∷ 0 ∷ size i);
            follows = piece_after before s n2.1 n4.1;
          }
      | inr e1 ↦
          record {
            placed = rw e1 (based (kind_of a) (c + 256 * d) (e + 256 * g) (rw e1 at n5.1) (rw e1 at n6.1));
            narrow = narrow;
            spelled = rw e1 (λ i. kind i ∷ 1 ∷ (base i ++ size i));
            follows = piece_after before s n2.1 n4.1;
          }
    ] in
    (n1.0, here)

pub piece_clear : (at : ℕ) (before : Option Segment) (body : List ℕ) (f : Option Fault) → length body ≡ 6 → IsBytes body → segment_faults noted at before body f ≡ None → (f ≡ None) × Piece before body
piece_clear at before body f len h clear =
    let same = six body len in
    let bytes = subst IsBytes same h in
    let quiet = subst (λ (b : List ℕ). segment_faults noted at before b f ≡ None) same clear in
    subst (λ (b : List ℕ). (f ≡ None) × Piece before b) (sym same) (piece_here at before _ _ _ _ _ _ f bytes quiet)

-- ---- names

pub record Name (n : ℕ) (name : List ℕ) : Type 0 where
  pub sound : is_name name ≡ true
  pub spelled : name_bytes name ≡ n ∷ name

begins : (name : List ℕ) → 1 ≤ length name → begins_digit name ≡ false → begins_name name ≡ true
begins [] h e = absurd (omega arith)
begins (c ∷ cs) h e = not_from_false (is_digit c) e

name_good : (public : Bool) (n : ℕ) (xs : List ℕ) → n ≤ length xs → is_bad_name public (n ∷ xs) ≡ false → Name n (take n xs) × ((public && (n == 5) && is_stack_name (take n xs)) ≡ false)
name_good public n xs le h =
    let name = take n xs in
    let o3 = or_parts (not (nat_le 1 n && nat_le n 31) || begins_digit name || not (list_all is_name_char name)) (public && (n == 5) && is_stack_name name) h in
    let o2 = or_parts (not (nat_le 1 n && nat_le n 31) || begins_digit name) (not (list_all is_name_char name)) o3.0 in
    let o1 = or_parts (not (nat_le 1 n && nat_le n 31)) (begins_digit name) o2.0 in
    let size = and_parts (nat_le 1 n) (nat_le n 31) (not-false (nat_le 1 n && nat_le n 31) o1.0) in
    let low : 1 ≤ n = leb-true 1 n size.0 in
    let high : n ≤ 31 = leb-true n 31 size.1 in
    let len : length name ≡ n = length-take-le n xs le in
    let small : length name % 256 ≡ n = omega arith in (
      record {
        sound = and_from (begins_name name && nat_le (length name) 31) (list_all is_name_char name) (and_from (begins_name name) (nat_le (length name) 31) (begins name (omega arith) o1.1) (le-leb (length name) 31 (omega arith))) (not-false (list_all is_name_char name) o2.1);
        spelled = λ i. small i ∷ name;
      },
      o3.1,
    )

-- what stands behind a name
pub behind : (m n k j : ℕ) (xs : List ℕ) → k ≡ suc (n + j) → slice_index (m ∷ xs) k ≡ slice_index (drop n xs) j
behind m n k j xs e = ap (λ i. slice_index (m ∷ xs) i) e ∙ sym (get_or-drop n xs j 0)

-- ---- 01

pub record Head (body : List ℕ) : Type 0 where
  pub name : Name (slice_index body 1) (name_at (drop 1 body))
  pub version : (slice_index body 0 ≡ 1) ⊎ (slice_index body 0 ≡ 2)
  pub whole : body ≡ slice_index body 0 ∷ slice_index body 1 ∷ name_at (drop 1 body)

version_is : (v : ℕ) → not ((v == 1) || (v == 2)) ≡ false → (v ≡ 1) ⊎ (v ≡ 2)
version_is v h = grind (arith, nat_tests)

pub head_clear : (at : ℕ) (body : List ℕ) (f : Option Fault) → length body ≡ 1 + slice_index body 1 + 1 + 0 → head_faults noted at body f ≡ None → (f ≡ None) × Head body
head_clear at [] f len clear = absurd (omega arith)
head_clear at (v ∷ []) f len clear = absurd (omega arith)
head_clear at (v ∷ n ∷ xs) f len clear =
    let body = v ∷ n ∷ xs in
    let n2 = noted_none (noted f (nat_le 1 (length body) && not ((v == 1) || (v == 2))) at 3) (nat_le 2 (length body) && is_bad_name false (n ∷ xs)) (at + 1) 6 clear in
    let n1 = noted_none f (nat_le 1 (length body) && not ((v == 1) || (v == 2))) at 3 n2.0 in
    let good = name_good false n xs (omega arith) (asked (nat_le 2 (length body)) _ (le-leb 2 (length body) (omega arith)) n2.1) in
    let all : take n xs ≡ xs = take_all n xs (omega arith) in
    (n1.0, record { name = good.0; version = version_is v (asked (nat_le 1 (length body)) _ (le-leb 1 (length body) (omega arith)) n1.1); whole = λ i. v ∷ n ∷ sym all i })

-- ---- 05

pub record External (body : List ℕ) : Type 0 where
  pub name : is_name (taken_at body).name ≡ true
  pub spelled : taken_body (taken_at body) ≡ body

tag_again : (t : ℕ) → ltb 1 t ≡ false → tag_of (t == 0) ≡ t
tag_again zero h = refl
tag_again (suc zero) h = refl
tag_again (suc (suc t)) h = absurd (omega (arith, ltb-false))

pub external_clear : (at : ℕ) (body : List ℕ) (f : Option Fault) → length body ≡ slice_index body 0 + 1 + 1 → taken_faults noted at body f ≡ None → (f ≡ None) × External body
external_clear at [] f len clear = absurd (omega arith)
external_clear at (n ∷ xs) f len clear =
    let body = n ∷ xs in
    let t = slice_index body (n + 1) in
    let n2 = noted_none (noted f (nat_le 1 (length body) && is_bad_name false body) at 6) (nat_le (n + 2) (length body) && nat_lt 1 t) (at + n + 1) 3 clear in
    let n1 = noted_none f (nat_le 1 (length body) && is_bad_name false body) at 6 n2.0 in
    let good = name_good false n xs (omega arith) (asked (nat_le 1 (length body)) (is_bad_name false body) (le-leb 1 (length body) (omega arith)) n1.1) in
    let tag : tag_of (t == 0) ≡ t = tag_again t (asked (nat_le (n + 2) (length body)) (nat_lt 1 t) (le-leb (n + 2) (length body) (omega arith)) n2.1) in
    let last : t ≡ get_or xs n 0 = ap (λ i. slice_index (n ∷ xs) i) (add-one n) in
    let all : take n xs ++ get_or xs n 0 ∷ [] ≡ xs = sym (take_more xs n 0 (omega arith)) ∙ take_all (n + 1) xs (omega arith) in
    (n1.0, record { name = good.0.sound; spelled = (λ i. good.0.spelled i ++ (tag ∙ last) i ∷ []) ∙ (λ i. n ∷ all i) })

-- ---- 06

stack_is_five : (name : List ℕ) → is_stack_name name ≡ true → length name ≡ 5
stack_is_five [] h = absurd (cc h)
stack_is_five (a ∷ []) h = absurd (grind arith)
stack_is_five (a ∷ b ∷ []) h = absurd (grind arith)
stack_is_five (a ∷ b ∷ c ∷ []) h = absurd (grind arith)
stack_is_five (a ∷ b ∷ c ∷ d ∷ []) h = absurd (grind arith)
stack_is_five (a ∷ b ∷ c ∷ d ∷ e ∷ []) h = refl
stack_is_five (a ∷ b ∷ c ∷ d ∷ e ∷ g ∷ rest) h = absurd (grind arith)

no_stack : (n : ℕ) (name : List ℕ) → length name ≡ n → (true && (n == 5) && is_stack_name name) ≡ false → not (is_stack_name name) ≡ true
no_stack n name len h =
    elim (is_stack_name name) as (λ b. is_stack_name name ≡ b → not b ≡ true) [
      | true ↦ λ e. let five : (n == 5) ≡ true = eq-eqb n 5 (sym len ∙ stack_is_five name e) in absurd (let no : true ≡ false = (λ i. sym five i && sym e i) ∙ h in cc)
      | false ↦ λ e. refl
    ] refl

pub record Public (before : Option Given) (count : ℕ) (body : List ℕ) : Type 0 where
  pub sound : given_is_sound count (given_at body) ≡ true
  pub narrow : nat_lt (given_at body).value 0x10000 ≡ true
  pub spelled : given_body (given_at body) ≡ body
  pub follows : AfterLast (λ g h. is_below g.name h.name) before (given_at body)

name_after : (before : Option Given) (g : Given) → name_falls before g.name ≡ false → AfterLast (λ g h. is_below g.name h.name) before g
name_after None g h = tt
name_after (Some b) g h = not-false (is_below b.name g.name) h

pub four : (xs : List ℕ) → length xs ≡ 4 → xs ≡ slice_index xs 0 ∷ slice_index xs 1 ∷ slice_index xs 2 ∷ slice_index xs 3 ∷ []
four [] h = absurd (omega arith)
four (a ∷ []) h = absurd (omega arith)
four (a ∷ b ∷ []) h = absurd (omega arith)
four (a ∷ b ∷ c ∷ []) h = absurd (omega arith)
four (a ∷ b ∷ c ∷ d ∷ []) h = refl
four (a ∷ b ∷ c ∷ d ∷ e ∷ xs) h = absurd (omega arith)

piece_known : (count p : ℕ) → p < 0x10000 → (not (p == 0xFFFF) && not (nat_lt p count)) ≡ false → names_piece count (piece_of p) ≡ true
piece_known count p lt h =
    elim (eqb p 0xFFFF) as (λ b. eqb p 0xFFFF ≡ b → names_piece count (cond b None (Some p)) ≡ true) [
      | true ↦ λ e. refl
      | false ↦ λ e.
          let below : nat_lt p count ≡ true = not-false (nat_lt p count) (rw e at h) in
          and_from (nat_lt p count) (nat_lt p 0xFFFF) below (grind (arith, nat_tests))
    ] refl

piece_number_again : (p : ℕ) → piece_number (piece_of p) ≡ p
piece_number_again p =
    elim (eqb p 0xFFFF) as (λ b. eqb p 0xFFFF ≡ b → piece_number (cond b None (Some p)) ≡ p) [
      | true ↦ λ e. sym (eqb-true p 0xFFFF e)
      | false ↦ λ e. refl
    ] refl

pub public_clear : (at : ℕ) (before : Option Given) (count : ℕ) (body : List ℕ) (f : Option Fault) → length body ≡ slice_index body 0 + 1 + 4 → IsBytes body → given_faults noted at before count body f ≡ None → (f ≡ None) × Public before count body
public_clear at before count [] f len h clear = absurd (omega arith)
public_clear at before count (n ∷ xs) f len h clear =
    let body = n ∷ xs in
    let name = take n xs in
    let ys = drop n xs in
    let p = word_at body (n + 1) in
    let v = word_at body (n + 3) in
    let n3 = noted_none (noted (noted f (nat_le 1 (length body) && is_bad_name true body) at 6) (nat_le (n + 1) (length body) && name_falls before name) at 4) (nat_le (n + 3) (length body) && not (p == 0xFFFF) && not (nat_lt p count)) (at + n + 1) 3 clear in
    let n2 = noted_none (noted f (nat_le 1 (length body) && is_bad_name true body) at 6) (nat_le (n + 1) (length body) && name_falls before name) at 4 n3.0 in
    let n1 = noted_none f (nat_le 1 (length body) && is_bad_name true body) at 6 n2.0 in
    let good = name_good true n xs (omega arith) (asked (nat_le 1 (length body)) (is_bad_name true body) (le-leb 1 (length body) (omega arith)) n1.1) in
    let p_is : p ≡ word_at ys 0 = (λ i. behind n n (n + 1) 0 xs (omega arith) i + 256 * behind n n (n + 1 + 1) 1 xs (omega arith) i) in
    let v_is : v ≡ word_at ys 2 = (λ i. behind n n (n + 3) 2 xs (omega arith) i + 256 * behind n n (n + 3 + 1) 3 xs (omega arith) i) in
    let ys_four : length ys ≡ 4 = omega (arith, length-drop n xs) in
    let shape = four ys ys_four in
    let bytes : IsBytes (slice_index ys 0 ∷ slice_index ys 1 ∷ slice_index ys 2 ∷ slice_index ys 3 ∷ []) = subst IsBytes shape (bytes_drop n xs h.1) in
    let low : p < 0x10000 = omega (arith, p_is, bytes.0, bytes.1.0) in
    let piece : word_bytes (piece_number (piece_of p)) ≡ slice_index ys 0 ∷ slice_index ys 1 ∷ [] = ap word_bytes (piece_number_again p ∙ p_is) ∙ word_again _ _ bytes.0 bytes.1.0 in
    let value : word_bytes v ≡ slice_index ys 2 ∷ slice_index ys 3 ∷ [] = ap word_bytes v_is ∙ word_again _ _ bytes.1.1.0 bytes.1.1.1.0 in
    let unknown : (not (p == 0xFFFF) && not (nat_lt p count)) ≡ false = asked2 (nat_le (n + 3) (length body)) (not (p == 0xFFFF)) (not (nat_lt p count)) (le-leb (n + 3) (length body) (omega arith)) n3.1 in
    let order : name_falls before name ≡ false = asked (nat_le (n + 1) (length body)) (name_falls before name) (le-leb (n + 1) (length body) (omega arith)) n2.1 in (
      n1.0,
      record {
        sound = and_from (is_name name && not (is_stack_name name)) (names_piece count (piece_of p)) (and_from (is_name name) (not (is_stack_name name)) good.0.sound (no_stack n name (length-take-le n xs (omega arith)) good.1)) (piece_known count p low unknown);
        narrow = lt-ltb v 0x10000 (omega (arith, v_is, bytes.1.1.0, bytes.1.1.1.0));
        spelled = (λ i. good.0.spelled i ++ piece i ++ value i) ∙ append_assoc (n ∷ name) (slice_index ys 0 ∷ slice_index ys 1 ∷ []) (slice_index ys 2 ∷ slice_index ys 3 ∷ []) ∙ ap (λ (t : List ℕ). n ∷ (name ++ t)) (sym shape) ∙ ap (λ (t : List ℕ). n ∷ t) (take-append-drop n xs);
        follows = name_after before (given_at body) order;
      },
    )
