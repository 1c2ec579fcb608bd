-- A library read: its members, or the first fault. The head and the lengths are checked first, and then member by member
-- (this kit's own format and codes).
use Rattle.std.specs.Prelude.{ℕ, zero, suc, Bool, ◌+◌, ◌-◌, ◌==◌, ◌&&◌, nat_le, if◌then◌else◌, Option, Some, None, Result, Ok, Err, List, [], ◌∷◌, ◌++◌, length, take, drop, slice_get, slice_index}
use Rattle.std.specs.Option.{option_or}
use Rattle.kc_obj_module.specs.Object.{Object}
use Rattle.kc_obj_fields.specs.declared.faults.Fault.{Fault}
use Rattle.kc_obj_fields.specs.Fields.{long_at}
use Rattle.kc_obj.specs.Reading.{answer_of}
use Rattle.kc_lib.specs.declared.faults.LibFault.{LibFault}
use Rattle.kc_lib.specs.declared.faults.LibFault.TheVariants.{At}
use Rattle.kc_lib.specs.declared.faults.LibCode.TheVariants as code
use Rattle.kc_lib.specs.Names.{second_of}

-- ---- the head: three bytes that are always the same, and the number of members

abbrev pub heads : ℕ → ℕ → Bool
heads at byte =
    if at == 0 then byte == 0x4B else (if at == 1 then byte == 0x4C else (if at == 2 then byte == 0x01
    else nat_le 1 byte && nat_le byte 64))

abbrev pub byte_fault : ℕ → Option ℕ → Option LibFault
byte_fault at None = Some (At at code.End)
byte_fault at (Some byte) = if heads at byte then None else Some (At at code.Head)

abbrev pub head_fault : List ℕ → Option LibFault
head_fault bytes =
    option_or (byte_fault 0 (slice_get bytes 0)) (option_or (byte_fault 1 (slice_get bytes 1))
    (option_or (byte_fault 2 (slice_get bytes 2)) (byte_fault 3 (slice_get bytes 3))))

-- ---- the lengths (all: how many bytes the library has; rest: those that it has from a member on)

abbrev pub member_size : List ℕ → ℕ
member_size rest = 4 + long_at rest 0

-- the members end where the library ends
unfoldable pub lengths_fault : ℕ → ℕ → List ℕ → Option LibFault
lengths_fault all zero rest = if length rest == 0 then None else Some (At (all - length rest) code.Behind)
lengths_fault all (suc n) rest = if nat_le (member_size rest) (length rest) then lengths_fault all n (drop (member_size rest) rest) else Some (At all code.End)

-- ---- the members

abbrev pub unless : {A : Type 0} → Option LibFault → Result A LibFault → Result A LibFault
unless None result = result
unless (Some fault) result = Err fault

abbrev pub and_then : {A B : Type 0} → Result A LibFault → (A → Result B LibFault) → Result B LibFault
and_then (Ok a) next = next a
and_then (Err fault) next = Err fault

abbrev pub second_fault : ℕ → Option (List ℕ) → Option LibFault
second_fault at None = None
second_fault at (Some name) = Some (At at code.SecondName)

abbrev pub by_object : ℕ → List Object → Result Object Fault → Result Object LibFault
by_object at before (Err fault) = Err (At (at + 4 + fault.at) code.NoObject)
by_object at before (Ok m) = unless (second_fault at (second_of before m.publics)) (Ok m)

-- (at: where the member's length stands; before: the members before it)
abbrev pub member_of : ℕ → List Object → List ℕ → Result Object LibFault
member_of at before object = by_object at before (answer_of object)

abbrev pub object_in : List ℕ → List ℕ
object_in rest = drop 4 (take (member_size rest) rest)

unfoldable pub members : ℕ → ℕ → List Object → List ℕ → Result (List Object) LibFault
members all zero before rest = Ok before
members all (suc n) before rest =
    and_then (member_of (all - length rest) before (object_in rest)) (λ m. members all n (before ++ m ∷ []) (drop (member_size rest) rest))

abbrev pub read_answer : List ℕ → Result (List Object) LibFault
read_answer bytes =
    unless (head_fault bytes)
    (unless (lengths_fault (length bytes) (slice_index bytes 3) (drop 4 bytes))
    (members (length bytes) (slice_index bytes 3) [] (drop 4 bytes)))
