-- Libraries that are refused: what reading reports of a library is a place in it.
use Rattle.std.proofs.Common.{◌≡◌, ℕ, zero, suc, ◌-◌, ◌==◌, Bool, true, false, cond, List, [], ◌∷◌, ◌++◌, length, drop, Option, Some, None, Result, Ok, Err, subst}
use Rattle.std.specs.Prelude.{nat_le, slice_get, slice_index}
use Rattle.std.specs.Option.{option_or}
use Rattle.kc_obj_module.specs.Object.{Object}
use Rattle.kc_obj_fields.specs.declared.faults.Fault.{Fault}
use Rattle.kc_obj.specs.Reading.{answer_of}
use Rattle.kc_lib.specs.declared.faults.LibFault.{LibFault}
use Rattle.kc_lib.specs.declared.faults.LibFault.TheVariants as faults
use Rattle.kc_lib.specs.declared.faults.LibCode.TheVariants as code
use Rattle.kc_lib.specs.Answers.{IsCause}
use Rattle.kc_lib.specs.Names.{second_of}
use Rattle.kc_lib.specs.Reading.{heads, byte_fault, head_fault, member_size, lengths_fault, unless, and_then, second_fault, by_object, member_of, object_in, members, read_answer}

abbrev HasPlace : LibFault → Type 0
HasPlace (faults.At at code) = Unit {0}
HasPlace _ = ⊥

abbrev SomeHasPlace : Option LibFault → Type 0
SomeHasPlace None = Unit {0}
SomeHasPlace (Some fault) = HasPlace fault

abbrev ErrHasPlace : {A : Type 0} → Result A LibFault → Type 0
ErrHasPlace (Ok a) = Unit {0}
ErrHasPlace (Err fault) = HasPlace fault

-- ---- steps

or-placed : (a b : Option LibFault) → SomeHasPlace a → SomeHasPlace b → SomeHasPlace (option_or a b)
or-placed None b h k = k
or-placed (Some fault) b h k = h

unless-placed : {A : Type 0} (found : Option LibFault) (r : Result A LibFault) → SomeHasPlace found → ErrHasPlace r → ErrHasPlace (unless found r)
unless-placed None r h k = k
unless-placed (Some fault) r h k = h

then-placed : {A B : Type 0} (r : Result A LibFault) (next : A → Result B LibFault) → ErrHasPlace r → ((a : A) → ErrHasPlace (next a)) → ErrHasPlace (and_then r next)
then-placed (Ok a) next h k = k a
then-placed (Err fault) next h k = h

if-placed : (b : Bool) (x y : Option LibFault) → SomeHasPlace x → SomeHasPlace y → SomeHasPlace (cond b x y)
if-placed true x y h k = h
if-placed false x y h k = k

-- ---- the parts of a library

byte-placed : (at : ℕ) (byte : Option ℕ) → SomeHasPlace (byte_fault at byte)
byte-placed at None = tt
byte-placed at (Some byte) = if-placed (heads at byte) None (Some (faults.At at code.Head)) tt tt

head-placed : (bytes : List ℕ) → SomeHasPlace (head_fault bytes)
head-placed bytes =
    let one = byte-placed 0 (slice_get bytes 0) in
    let two = byte-placed 1 (slice_get bytes 1) in
    let three = byte-placed 2 (slice_get bytes 2) in
    let four = byte-placed 3 (slice_get bytes 3) in
    or-placed (byte_fault 0 (slice_get bytes 0)) _ one
    (or-placed (byte_fault 1 (slice_get bytes 1)) _ two
    (or-placed (byte_fault 2 (slice_get bytes 2)) (byte_fault 3 (slice_get bytes 3)) three four))

lengths-placed : (all n : ℕ) (rest : List ℕ) → SomeHasPlace (lengths_fault all n rest)
unfolding lengths_fault
lengths-placed all zero rest = if-placed (length rest == 0) None (Some (faults.At (all - length rest) code.Behind)) tt tt
lengths-placed all (suc n) rest =
    if-placed (nat_le (member_size rest) (length rest)) (lengths_fault all n (drop (member_size rest) rest)) (Some (faults.At all code.End)) (lengths-placed all n (drop (member_size rest) rest)) tt

second-placed : (at : ℕ) (name : Option (List ℕ)) → SomeHasPlace (second_fault at name)
second-placed at None = tt
second-placed at (Some name) = tt

object-placed : (at : ℕ) (before : List Object) (read : Result Object Fault) → ErrHasPlace (by_object at before read)
object-placed at before (Err fault) = tt
object-placed at before (Ok m) = unless-placed (second_fault at (second_of before m.publics)) (Ok m) (second-placed at (second_of before m.publics)) tt

members-placed : (all n : ℕ) (before : List Object) (rest : List ℕ) → ErrHasPlace (members all n before rest)
unfolding members
members-placed all zero before rest = tt
members-placed all (suc n) before rest =
    then-placed (member_of (all - length rest) before (object_in rest)) (λ m. members all n (before ++ m ∷ []) (drop (member_size rest) rest))
    (object-placed (all - length rest) before (answer_of (object_in rest))) (λ m. members-placed all n (before ++ m ∷ []) (drop (member_size rest) rest))

-- ---- the whole

read-placed : (bytes : List ℕ) → ErrHasPlace (read_answer bytes)
read-placed bytes =
    let all = length bytes in
    let count = slice_index bytes 3 in
    unless-placed (head_fault bytes) _ (head-placed bytes)
    (unless-placed (lengths_fault all count (drop 4 bytes)) (members all count [] (drop 4 bytes)) (lengths-placed all count (drop 4 bytes)) (members-placed all count [] (drop 4 bytes)))

fault-placed : (bytes : List ℕ) (fault : LibFault) → read_answer bytes ≡ Err fault → HasPlace fault
fault-placed bytes fault e = subst ErrHasPlace e (read-placed bytes)

abbrev MayBeRead : List ℕ → LibFault → Type 0
MayBeRead bytes fault = IsCause fault (read_answer bytes ≡ Err fault)

-- faults of packing and of taking have no place
pub not-duplicate : (bytes : List ℕ) (fault : LibFault) (name : List ℕ) → MayBeRead bytes fault → fault ≡ faults.Duplicate name → ⊥
not-duplicate bytes fault name c e = fault-placed bytes (faults.Duplicate name) (subst (MayBeRead bytes) e c)

pub not-too_many : (bytes : List ℕ) (fault : LibFault) → MayBeRead bytes fault → fault ≡ faults.TooMany → ⊥
not-too_many bytes fault c e = fault-placed bytes faults.TooMany (subst (MayBeRead bytes) e c)
