-- A library is read as its members, and nothing else is read.
use Rattle.std.proofs.Common.{◌≡◌, ℕ, zero, suc, ◌+◌, ◌-◌, ◌*◌, ◌/◌, ◌%◌, ◌^◌, ◌<◌, ◌≤◌, Bool, true, false, ◌&&◌, List, [], ◌∷◌, ◌++◌, length, take, drop, Option, Some, None, Result, Ok, Err, refl, sym, ap, subst, ◌∙◌, append_assoc, append-nil, arith}
use Rattle.std.specs.Prelude.{slice_index, nat_le, ◌==◌, if◌then◌else◌, All, is_none}
use Rattle.std.specs.List.{flat_map}
use Rattle.std.specs.Option.{option_or}
use Rattle.std.proofs.lemmas.Bool.{and_parts, and_from, le-leb, lt-leb, leb-true, eqb-true, eq-eqb, ne_eqb}
use Rattle.std.proofs.lemmas.List.{length-append, length-take-le, take_at, drop_at, take-append-drop, nil_from_length}
use Rattle.std.specs.Global.{Vec}
use Rattle.kc_base.specs.Bytes.{IsBytes}
use Rattle.kc_obj_module.specs.Object.{Object}
use Rattle.kc_obj_module.specs.Spelling.{long_bytes, spelling}
use Rattle.kc_obj_fields.specs.declared.faults.Fault.{Fault}
use Rattle.kc_obj_fields.specs.Fields.{long_at}
use Rattle.kc_obj.specs.Reading.{answer_of}
use Rattle.kc_obj_module.specs.Spelled.{IsSpelled}
use Rattle.kc_obj.proofs.Bytes.{bytes_drop, bytes_take}
use Rattle.kc_obj.proofs.Decoded.{decoded_spelled}
use Rattle.kc_obj.proofs.Spelled.{spelled_decoded}
use Rattle.kc_lib.specs.declared.faults.LibFault.{LibFault}
use Rattle.kc_lib.specs.declared.faults.LibFault.TheVariants.{At, Duplicate, TooMany, NoMemory}
use Rattle.kc_lib.specs.declared.faults.LibCode.TheVariants as code
use Rattle.kc_lib.specs.Names.{GivenOnce, second_of, doubled_behind, doubled}
use Rattle.kc_lib.specs.Format.{member_bytes, library_bytes, IsMember, IsLibrary, can_be_library}
use Rattle.kc_lib.specs.Reading.{heads, byte_fault, head_fault, member_size, lengths_fault, unless, and_then, second_fault, by_object, member_of, object_in, members, read_answer}
use Rattle.kc_lib.specs.Answers.{IsCause, IsPacked, ReportsPacked}
use Rattle.kc_lib.proofs.NameLemmas.{once_from_none, none_from_once}

-- ---- numbers of four bytes

pub long_of : (n : ℕ) (xs : List ℕ) → n < 2 ^ 32 → long_at (long_bytes n ++ xs) 0 ≡ n
long_of n xs h = omega arith

long_again : (a b c d : ℕ) → a < 256 → b < 256 → c < 256 → d < 256 → long_bytes (a + 256 * b + 65536 * (c + 256 * d)) ≡ a ∷ b ∷ c ∷ d ∷ []
long_again a b c d ha hb hc hd =
    let n = a + 256 * b + 65536 * (c + 256 * d) in
    let first : n % 256 ≡ a = omega arith in
    let second : n / 256 % 256 ≡ b = omega arith in
    let third : n / 65536 % 256 ≡ c = omega arith in
    let fourth : n / 65536 / 256 % 256 ≡ d = omega arith in
    λ i. first i ∷ second i ∷ third i ∷ fourth i ∷ []

-- ---- a fact of each element

all_head : {X : Type 0} (P : X → Type 0) (x : X) (xs : List X) → All P (x ∷ xs) → P x
all_head P x xs h = h 0 x (omega arith)

all_tail : {X : Type 0} (P : X → Type 0) (x : X) (xs : List X) → All P (x ∷ xs) → All P xs
all_tail P x xs h = λ k d l. h (suc k) d (omega (arith, l))

all_none : {X : Type 0} (P : X → Type 0) → All P []
all_none P = λ k d l. absurd (omega (arith, l))

all_more : {X : Type 0} (P : X → Type 0) (x : X) (xs : List X) → P x → All P xs → All P (x ∷ xs)
all_more P x xs here rest zero d l = here
all_more P x xs here rest (suc k) d l = rest k d (omega (arith, l))

-- ---- what was packed is read

size_is : (m : Object) (t : List ℕ) → IsMember m → member_size (member_bytes m ++ t) ≡ length (member_bytes m)
size_is m t is =
    let n : long_at (member_bytes m ++ t) 0 ≡ length (spelling m) = long_of (length (spelling m)) (spelling m ++ t) is.fits in
    omega (arith, n)

lengths_step : (all n : ℕ) (m : Object) (t : List ℕ) → IsMember m → lengths_fault all n t ≡ None → lengths_fault all (suc n) (member_bytes m ++ t) ≡ None
unfolding lengths_fault
lengths_step all n m t is rest =
    let size = size_is m t is in
    let within : nat_le (length (member_bytes m)) (length (member_bytes m ++ t)) ≡ true = le-leb (length (member_bytes m)) (length (member_bytes m ++ t)) (omega (arith, length-append (member_bytes m) t)) in
    let behind : drop (length (member_bytes m)) (member_bytes m ++ t) ≡ t = drop_at (member_bytes m) t (length (member_bytes m)) refl in
    rw (size, within, behind) rest

lengths_none : (all : ℕ) (ms : List Object) → All IsMember ms → lengths_fault all (length ms) (flat_map member_bytes ms) ≡ None
unfolding lengths_fault
lengths_none all [] h = refl
lengths_none all (m ∷ ms) h = lengths_step all (length ms) m (flat_map member_bytes ms) (all_head IsMember m ms h) (lengths_none all ms (all_tail IsMember m ms h))

-- no name of a module is given before it, nor one of those behind it
split_none : (before : List Object) (m : Object) (ms : List Object) → doubled_behind before (m ∷ ms) ≡ None → (second_of before m.publics ≡ None) × (doubled_behind (before ++ m ∷ []) ms ≡ None)
unfolding doubled_behind
split_none before m ms h = by (second_of before m.publics) refl h
  where
    by : (o : Option (List ℕ)) → second_of before m.publics ≡ o → option_or o (doubled_behind (before ++ m ∷ []) ms) ≡ None → (second_of before m.publics ≡ None) × (doubled_behind (before ++ m ∷ []) ms ≡ None)
    by None e k = (e, k)
    by (Some n) e k = absurd (cc k)

join_none : (before : List Object) (m : Object) (ms : List Object) → second_of before m.publics ≡ None → doubled_behind (before ++ m ∷ []) ms ≡ None → doubled_behind before (m ∷ ms) ≡ None
unfolding doubled_behind
join_none before m ms e k = rw e k

member_ok : (at : ℕ) (before : List Object) (m : Object) → IsMember m → second_of before m.publics ≡ None → member_of at before (spelling m) ≡ Ok m
member_ok at before m is none =
    let decoded : answer_of (spelling m) ≡ Ok m = spelled_decoded (spelling m) m is.is_object in
    rw (decoded, none) refl

members_step : (all n : ℕ) (before : List Object) (m : Object) (t : List ℕ) → IsMember m → second_of before m.publics ≡ None
    → members all (suc n) before (member_bytes m ++ t) ≡ members all n (before ++ m ∷ []) t
unfolding members
members_step all n before m t is none =
    let rest = member_bytes m ++ t in
    let size = size_is m t is in
    let prefix : take (length (member_bytes m)) rest ≡ member_bytes m = take_at (member_bytes m) t (length (member_bytes m)) refl in
    let behind : drop (length (member_bytes m)) rest ≡ t = drop_at (member_bytes m) t (length (member_bytes m)) refl in
    let object : object_in rest ≡ spelling m = ap (λ (n : ℕ). drop 4 (take n rest)) size ∙ ap (λ (l : List ℕ). drop 4 l) prefix in
    let ok : member_of (all - length rest) before (object_in rest) ≡ Ok m = ap (member_of (all - length rest) before) object ∙ member_ok (all - length rest) before m is none in
    let left : drop (member_size rest) rest ≡ t = ap (λ (n : ℕ). drop n rest) size ∙ behind in
    ap (λ (r : Result Object LibFault). and_then r (λ x. members all n (before ++ x ∷ []) (drop (member_size rest) rest))) ok ∙ ap (members all n (before ++ m ∷ [])) left

members_ok : (all : ℕ) (ms before : List Object) → All IsMember ms → doubled_behind before ms ≡ None → members all (length ms) before (flat_map member_bytes ms) ≡ Ok (before ++ ms)
unfolding members
members_ok all [] before h none = ap (λ (l : List Object). Ok l) (sym (append-nil before))
members_ok all (m ∷ ms) before h none =
    let both = split_none before m ms none in
    let step = members_step all (length ms) before m (flat_map member_bytes ms) (all_head IsMember m ms h) both.0 in
    step ∙ (members_ok all ms (before ++ m ∷ []) (all_tail IsMember m ms h) both.1 ∙ ap (λ (l : List Object). Ok l) (append_assoc before (m ∷ []) ms))

head_ok : (n : ℕ) (xs : List ℕ) → 1 ≤ n → n ≤ 64 → head_fault (0x4B ∷ 0x4C ∷ 0x01 ∷ n ∷ xs) ≡ None
head_ok n xs low high =
    let count : heads 3 n ≡ true = and_from (nat_le 1 n) (nat_le n 64) (le-leb 1 n low) (le-leb n 64 high) in
    rw count refl

pub library_is_read : (bytes : List ℕ) (ms : List Object) → IsLibrary bytes ms → read_answer bytes ≡ Ok ms
library_is_read bytes ms is =
    let all = length (library_bytes ms) in
    let body = flat_map member_bytes ms in
    let head : head_fault (library_bytes ms) ≡ None = head_ok (length ms) body is.some is.few in
    let lengths : lengths_fault all (length ms) body ≡ None = lengths_none all ms is.members in
    let whole : members all (length ms) [] body ≡ Ok ms = members_ok all ms [] is.members (none_from_once ms is.once) in
    subst (λ (b : List ℕ). read_answer b ≡ Ok ms) is.written (rw (head, lengths) whole)

pub packed_is_library : (ms : List Object) (r : Result (Vec ℕ) LibFault) → 0 < length ms → length ms ≤ 64 → All IsMember ms → IsPacked ms r → ReportsPacked ms r
packed_is_library ms (Ok bytes) some few members is = record { some = some; few = few; members = members; once = once_from_none ms is.0; written = sym is.1 }
packed_is_library ms (Err fault) some few members is = tt

-- ---- nothing else is read

-- what `unless` and `and_then` came from
unless_ok : {A : Type 0} (fault : Option LibFault) (r : Result A LibFault) (a : A) → unless fault r ≡ Ok a → (fault ≡ None) × (r ≡ Ok a)
unless_ok None r a h = (refl, h)
unless_ok (Some f) r a h = absurd (cc h)

record NextOk {A B : Type 0} (r : Result A LibFault) (next : A → Result B LibFault) (b : B) : Type 0 where
  pub value : A
  pub is : r ≡ Ok value
  pub rest : next value ≡ Ok b

next_ok : {A B : Type 0} (r : Result A LibFault) (next : A → Result B LibFault) (b : B) → and_then r next ≡ Ok b → NextOk r next b
next_ok (Ok a) next b h = record { value = a; is = refl; rest = h }
next_ok (Err f) next b h = absurd (cc h)

-- the bytes of a member where it stands, and those behind it
record MemberHere (rest : List ℕ) (m : Object) : Type 0 where
  pub is_member : IsMember m
  pub spelled : member_bytes m ++ drop (member_size rest) rest ≡ rest

object_spelled : (rest : List ℕ) (m : Object) → IsBytes rest → member_size rest ≤ length rest → IsSpelled (object_in rest) m → MemberHere rest m
object_spelled [] m h l is = absurd (omega (arith, l))
object_spelled (a ∷ []) m h l is = absurd (omega (arith, l))
object_spelled (a ∷ b ∷ []) m h l is = absurd (omega (arith, l))
object_spelled (a ∷ b ∷ c ∷ []) m h l is = absurd (omega (arith, l))
object_spelled (a ∷ b ∷ c ∷ d ∷ xs) m h l is =
    let rest = a ∷ b ∷ c ∷ d ∷ xs in
    let n = a + 256 * b + 65536 * (c + 256 * d) in
    let four : 4 + n ≡ suc (suc (suc (suc n))) = omega arith in
    let within : n ≤ length xs = omega (arith, l) in
    let object : object_in rest ≡ take n xs = ap (λ (k : ℕ). drop 4 (take k rest)) four in
    let behind : drop (member_size rest) rest ≡ drop n xs = ap (λ (k : ℕ). drop k rest) four in
    let spelled : spelling m ≡ take n xs = is.spelled ∙ object in
    let size : length (spelling m) ≡ n = ap (λ (l : List ℕ). length l) spelled ∙ length-take-le n xs within in
    let small : n < 2 ^ 32 = omega (arith, h.0, h.1.0, h.1.1.0, h.1.1.1.0) in
    record {
      is_member = record {
        is_object = record { sound = is.sound; numbers = is.numbers; spelled = refl };
        fits = omega (arith, size, small);
      };
      spelled =
          ap (λ (k : ℕ). (long_bytes k ++ spelling m) ++ drop (member_size rest) rest) size
          ∙ (ap (λ (l : List ℕ). (l ++ spelling m) ++ drop (member_size rest) rest) (long_again a b c d h.0 h.1.0 h.1.1.0 h.1.1.1.0)
          ∙ (ap (λ (l : List ℕ). ((a ∷ b ∷ c ∷ d ∷ []) ++ spelling m) ++ l) behind
          ∙ (ap (λ (l : List ℕ). a ∷ b ∷ c ∷ d ∷ (l ++ drop n xs)) spelled
          ∙ ap (λ (l : List ℕ). a ∷ b ∷ c ∷ d ∷ l) (take-append-drop n xs))));
    }

record ObjectOk (at : ℕ) (before : List Object) (object : List ℕ) (m : Object) : Type 0 where
  pub decoded : answer_of object ≡ Ok m
  pub none : second_of before m.publics ≡ None

object_ok : (at : ℕ) (before : List Object) (object : List ℕ) (m : Object) → member_of at before object ≡ Ok m → ObjectOk at before object m
object_ok at before object m h = by (answer_of object) refl h
  where
    by : (r : Result Object Fault) → answer_of object ≡ r → by_object at before r ≡ Ok m → ObjectOk at before object m
    by (Err f) e k = absurd (cc k)
    by (Ok x) e k =
        let both = unless_ok (second_fault at (second_of before x.publics)) (Ok x) m k in
        let same : x ≡ m = cc both.1 in
        record { decoded = e ∙ ap (λ (y : Object). Ok y) same; none = subst (λ (y : Object). second_of before y.publics ≡ None) same (none (second_of before x.publics) both.0) }
      where
        none : (o : Option (List ℕ)) → second_fault at o ≡ None → o ≡ None
        none None q = refl
        none (Some n) q = absurd (cc q)

-- members that were read, behind those before them
record ReadOn (n : ℕ) (before : List Object) (rest : List ℕ) (ms : List Object) : Type 0 where
  pub more : List Object
  pub is : ms ≡ before ++ more
  pub count : length more ≡ n
  pub once : doubled_behind before more ≡ None
  pub members : All IsMember more
  pub spelled : flat_map member_bytes more ≡ rest

lengths_more : (all n : ℕ) (rest : List ℕ) → lengths_fault all (suc n) rest ≡ None → (member_size rest ≤ length rest) × (lengths_fault all n (drop (member_size rest) rest) ≡ None)
unfolding lengths_fault
lengths_more all n rest h = by (nat_le (member_size rest) (length rest)) refl h
  where
    by : (b : Bool) → nat_le (member_size rest) (length rest) ≡ b → (if b then lengths_fault all n (drop (member_size rest) rest) else Some (At all code.End)) ≡ None
        → (member_size rest ≤ length rest) × (lengths_fault all n (drop (member_size rest) rest) ≡ None)
    by true e k = (leb-true (member_size rest) (length rest) e, k)
    by false e k = absurd (cc k)

is_end : (b : Bool) (fault : LibFault) → (if b then None else Some fault) ≡ None → b ≡ true
is_end true fault h = refl
is_end false fault h = absurd (cc h)

lengths_end : (all : ℕ) (rest : List ℕ) → lengths_fault all 0 rest ≡ None → rest ≡ []
unfolding lengths_fault
lengths_end all rest h = nil_from_length rest (eqb-true (length rest) 0 (is_end (length rest == 0) (At (all - length rest) code.Behind) h))

none_more : (before : List Object) → doubled_behind before [] ≡ None
unfolding doubled_behind
none_more before = refl

read_on : (all n : ℕ) (before : List Object) (rest : List ℕ) (ms : List Object) → IsBytes rest → lengths_fault all n rest ≡ None → members all n before rest ≡ Ok ms → ReadOn n before rest ms
unfolding members
read_on all zero before rest ms h lengths read =
    let same : before ≡ ms = cc read in
    record {
      more = [];
      is = sym same ∙ sym (append-nil before);
      count = refl;
      once = none_more before;
      members = all_none IsMember;
      spelled = sym (lengths_end all rest lengths);
    }
read_on all (suc n) before rest ms h lengths read =
    let both = lengths_more all n rest lengths in
    let left = drop (member_size rest) rest in
    let next = next_ok (member_of (all - length rest) before (object_in rest)) (λ m. members all n (before ++ m ∷ []) left) ms read in
    let m = next.value in
    let ok = object_ok (all - length rest) before (object_in rest) m next.is in
    let object : IsBytes (object_in rest) = bytes_drop 4 (take (member_size rest) rest) (bytes_take (member_size rest) rest h) in
    let here = object_spelled rest m h both.0 (decoded_spelled (object_in rest) m object ok.decoded) in
    let on = read_on all n (before ++ m ∷ []) left ms (bytes_drop (member_size rest) rest h) both.1 next.rest in
    record {
      more = m ∷ on.more;
      is = on.is ∙ append_assoc before (m ∷ []) on.more;
      count = ap suc on.count;
      once = join_none before m on.more ok.none on.once;
      members = all_more IsMember m on.more here.is_member on.members;
      spelled = ap (λ (l : List ℕ). member_bytes m ++ l) on.spelled ∙ here.spelled;
    }

-- the head of a library
record HeadIs (bytes : List ℕ) : Type 0 where
  pub some : 1 ≤ slice_index bytes 3
  pub few : slice_index bytes 3 ≤ 64
  pub is : bytes ≡ 0x4B ∷ 0x4C ∷ 0x01 ∷ slice_index bytes 3 ∷ drop 4 bytes

byte_ok : (at b : ℕ) → byte_fault at (Some b) ≡ None → heads at b ≡ true
byte_ok at b h = by (heads at b) h
  where
    by : (t : Bool) → (if t then None else Some (At at code.Head)) ≡ None → t ≡ true
    by true e = refl
    by false e = absurd (cc e)

or_parts : (a b : Option LibFault) → option_or a b ≡ None → (a ≡ None) × (b ≡ None)
or_parts None b h = (refl, h)
or_parts (Some f) b h = absurd (cc h)

head_is : (bytes : List ℕ) → head_fault bytes ≡ None → HeadIs bytes
head_is [] h = absurd (cc h)
head_is (a ∷ []) h = absurd (let k = (or_parts (byte_fault 0 (Some a)) (Some (At 1 code.End)) h).1 in cc k)
head_is (a ∷ b ∷ []) h = absurd (let k = (or_parts (byte_fault 1 (Some b)) (Some (At 2 code.End)) (or_parts (byte_fault 0 (Some a)) (option_or (byte_fault 1 (Some b)) (Some (At 2 code.End))) h).1).1 in cc k)
head_is (a ∷ b ∷ c ∷ []) h =
    let last = Some (At 3 code.End) in
    let k0 = or_parts (byte_fault 0 (Some a)) (option_or (byte_fault 1 (Some b)) (option_or (byte_fault 2 (Some c)) last)) h in
    let k1 = or_parts (byte_fault 1 (Some b)) (option_or (byte_fault 2 (Some c)) last) k0.1 in
    let k2 = (or_parts (byte_fault 2 (Some c)) last k1.1).1 in
    absurd (cc k2)
head_is (a ∷ b ∷ c ∷ n ∷ xs) h =
    let last = byte_fault 3 (Some n) in
    let k0 = or_parts (byte_fault 0 (Some a)) (option_or (byte_fault 1 (Some b)) (option_or (byte_fault 2 (Some c)) last)) h in
    let k1 = or_parts (byte_fault 1 (Some b)) (option_or (byte_fault 2 (Some c)) last) k0.1 in
    let k2 = or_parts (byte_fault 2 (Some c)) last k1.1 in
    let count = and_parts (nat_le 1 n) (nat_le n 64) (byte_ok 3 n k2.1) in
    let first : a ≡ 0x4B = eqb-true a 0x4B (byte_ok 0 a k0.0) in
    let second : b ≡ 0x4C = eqb-true b 0x4C (byte_ok 1 b k1.0) in
    let third : c ≡ 0x01 = eqb-true c 0x01 (byte_ok 2 c k2.0) in
    record { some = leb-true 1 n count.0; few = leb-true n 64 count.1; is = λ i. first i ∷ second i ∷ third i ∷ n ∷ xs }

pub read_is_library : (bytes : List ℕ) (ms : List Object) → IsBytes bytes → read_answer bytes ≡ Ok ms → IsLibrary bytes ms
read_is_library bytes ms h read =
    let all = length bytes in
    let count = slice_index bytes 3 in
    let body = drop 4 bytes in
    let head = unless_ok (head_fault bytes) (unless (lengths_fault all count body) (members all count [] body)) ms read in
    let lengths = unless_ok (lengths_fault all count body) (members all count [] body) ms head.1 in
    let top = head_is bytes head.0 in
    let on = read_on all count [] body ms (bytes_drop 4 bytes h) lengths.0 lengths.1 in
    let same : ms ≡ on.more = on.is in
    let size : length ms ≡ count = ap (λ (l : List Object). length l) same ∙ on.count in
    record {
      some = omega (arith, size, top.some);
      few = omega (arith, size, top.few);
      members = subst (λ (l : List Object). All IsMember l) (sym same) on.members;
      once = once_from_none ms (ap doubled same ∙ on.once);
      written =
          ap (λ (k : ℕ). (0x4B ∷ 0x4C ∷ 0x01 ∷ k ∷ []) ++ flat_map member_bytes ms) size
          ∙ (ap (λ (l : List ℕ). (0x4B ∷ 0x4C ∷ 0x01 ∷ count ∷ []) ++ l) (ap (flat_map member_bytes) same ∙ on.spelled) ∙ sym top.is);
    }

-- modules that were read can be a library
pub read_can_be : (bytes : List ℕ) (ms : List Object) → IsBytes bytes → read_answer bytes ≡ Ok ms → can_be_library ms ≡ true
read_can_be bytes ms h read =
    let is = read_is_library bytes ms h read in
    let none : is_none (doubled ms) ≡ true = ap (λ (o : Option (List ℕ)). is_none o) (none_from_once ms is.once) in
    and_from (nat_le 1 (length ms) && nat_le (length ms) 64) (is_none (doubled ms)) (and_from (nat_le 1 (length ms)) (nat_le (length ms) 64) (le-leb 1 (length ms) is.some) (le-leb (length ms) 64 is.few)) none

-- ---- the code's steps (n members are left, of which k behind the next one)

pub lengths_next : (all n k : ℕ) (rest : List ℕ) → n ≡ suc k → member_size rest ≤ length rest → lengths_fault all n rest ≡ lengths_fault all k (drop (member_size rest) rest)
unfolding lengths_fault
lengths_next all n k rest e l = ap (λ (i : ℕ). lengths_fault all i rest) e ∙ rw (le-leb (member_size rest) (length rest) l) refl

pub lengths_stop : (all n k : ℕ) (rest : List ℕ) → n ≡ suc k → length rest < member_size rest → lengths_fault all n rest ≡ Some (At all code.End)
unfolding lengths_fault
lengths_stop all n k rest e l = ap (λ (i : ℕ). lengths_fault all i rest) e ∙ rw (lt-leb (member_size rest) (length rest) l) refl

pub lengths_done : (all n : ℕ) (rest : List ℕ) → n ≡ 0 → length rest ≡ 0 → lengths_fault all n rest ≡ None
unfolding lengths_fault
lengths_done all n rest e l = ap (λ (i : ℕ). lengths_fault all i rest) e ∙ rw (eq-eqb (length rest) 0 l) refl

pub lengths_behind : (all n : ℕ) (rest : List ℕ) → n ≡ 0 → (length rest ≡ 0 → ⊥) → lengths_fault all n rest ≡ Some (At (all - length rest) code.Behind)
unfolding lengths_fault
lengths_behind all n rest e l = ap (λ (i : ℕ). lengths_fault all i rest) e ∙ rw (ne_eqb (length rest) 0 l) refl

pub lengths_whole : (all n k : ℕ) (rest : List ℕ) → n ≡ suc k → lengths_fault all n rest ≡ None → (member_size rest ≤ length rest) × (lengths_fault all k (drop (member_size rest) rest) ≡ None)
lengths_whole all n k rest e h = lengths_more all k rest (ap (λ (i : ℕ). lengths_fault all i rest) (sym e) ∙ h)

pub members_next : (all n k : ℕ) (before : List Object) (rest : List ℕ) (m : Object) → n ≡ suc k → member_of (all - length rest) before (object_in rest) ≡ Ok m
    → members all n before rest ≡ members all k (before ++ m ∷ []) (drop (member_size rest) rest)
unfolding members
members_next all n k before rest m e ok =
    ap (λ (i : ℕ). members all i before rest) e
    ∙ ap (λ (r : Result Object LibFault). and_then r (λ x. members all k (before ++ x ∷ []) (drop (member_size rest) rest))) ok

pub members_stop : (all n k : ℕ) (before : List Object) (rest : List ℕ) (fault : LibFault) → n ≡ suc k → member_of (all - length rest) before (object_in rest) ≡ Err fault → members all n before rest ≡ Err fault
unfolding members
members_stop all n k before rest fault e wrong =
    ap (λ (i : ℕ). members all i before rest) e
    ∙ ap (λ (r : Result Object LibFault). and_then r (λ x. members all k (before ++ x ∷ []) (drop (member_size rest) rest))) wrong

pub members_done : (all n : ℕ) (before : List Object) (rest : List ℕ) → n ≡ 0 → members all n before rest ≡ Ok before
unfolding members
members_done all n before rest e = ap (λ (i : ℕ). members all i before rest) e

-- ---- what a call of reading reports

pub cause_by : (fault : LibFault) (P Q : Type 0) → (P → Q) → IsCause fault P → IsCause fault Q
cause_by (At at c) P Q f h = f h
cause_by (Duplicate name) P Q f h = f h
cause_by TooMany P Q f h = f h
cause_by NoMemory P Q f h = h

pub reported_no_library : (bytes : List ℕ) (fault : LibFault) → IsCause fault (read_answer bytes ≡ Err fault) → IsCause fault ((ms : List Object) → IsLibrary bytes ms → ⊥)
reported_no_library bytes fault h =
    cause_by fault (read_answer bytes ≡ Err fault) ((ms : List Object) → IsLibrary bytes ms → ⊥)
    (λ no ms is. let ok : read_answer bytes ≡ Ok ms = library_is_read bytes ms is in cc (ok, no)) h

-- a library gives each name once
pub once_of : (ms : List Object) → can_be_library ms ≡ true → GivenOnce ms
once_of ms h =
    let none : is_none (doubled ms) ≡ true = (and_parts (nat_le 1 (length ms) && nat_le (length ms) 64) (is_none (doubled ms)) h).1 in
    once_from_none ms (is (doubled ms) none)
  where
    is : (o : Option (List ℕ)) → is_none o ≡ true → o ≡ None
    is None e = refl
    is (Some name) e = absurd (cc e)
