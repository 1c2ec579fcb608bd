-- The fields of a record's body, and how the faults of an object are reported (this kit's own format and codes).
use Rattle.std.specs.Prelude.{◌≡◌, ℕ, Bool, false, not, All, Contains, ◌+◌, ◌-◌, ◌*◌, ◌==◌, ◌&&◌, ◌||◌, nat_lt, nat_le, if◌then◌else◌, Option, Some, None, List, [], ◌∷◌, length, take, drop, slice_index, slice_get}
use Rattle.std.specs.List.{list_all}
use Rattle.kc_obj_fields.specs.declared.faults.Fault.{Fault}
use Rattle.kc_obj_module.specs.Names.{is_digit, is_name_char, is_stack_name}

abbrev pub last_of : {X : Type 0} → List X → Option X
last_of xs = slice_get xs (length xs - 1)

-- ---- numbers; a byte past the end of the body counts as 0

abbrev pub word_at : List ℕ → ℕ → ℕ
word_at body i = slice_index body i + 256 * slice_index body (i + 1)

abbrev pub long_at : List ℕ → ℕ → ℕ
long_at body i = word_at body i + 65536 * word_at body (i + 2)

-- ---- names: a length byte and so many characters, of which the last may be cut off

abbrev pub name_at : List ℕ → List ℕ
name_at body = take (slice_index body 0) (drop 1 body)

abbrev pub begins_digit : List ℕ → Bool
begins_digit [] = false
begins_digit (c ∷ cs) = is_digit c

-- no name has this length byte and these characters; STACK is no name of a public
abbrev pub is_bad_name : Bool → List ℕ → Bool
is_bad_name public body =
    not (nat_le 1 (slice_index body 0) && nat_le (slice_index body 0) 31)
    || begins_digit (name_at body)
    || not (list_all is_name_char (name_at body))
    || (public && (slice_index body 0 == 5) && is_stack_name (name_at body))

-- ---- faults: the first by offset, of two at one offset the lesser code

abbrev pub is_lesser : Fault → Fault → Bool
is_lesser a b = nat_lt a.at b.at || ((a.at == b.at) && nat_lt a.code b.code)

abbrev pub first_of_both : Option Fault → Fault → Fault
first_of_both None b = b
first_of_both (Some a) b = if is_lesser b a then b else a

abbrev pub fault_at : ℕ → ℕ → Fault
fault_at at code = record { at = at; code = code }

-- ---- how faults are taken down: what was found before, whether a rule is broken, the offset and the code

abbrev pub Noting : Type 0 → Type 0
Noting C = C → Bool → ℕ → ℕ → C

-- the first alone
abbrev pub noted : Noting (Option Fault)
noted fault broken at code = if broken then Some (first_of_both fault (fault_at at code)) else fault

-- each
abbrev pub listed : Noting (List Fault)
listed faults broken at code = if broken then fault_at at code ∷ faults else faults

-- a fault is one of these, and none of them comes before it
pub record IsFirst (fault : Fault) (faults : List Fault) : Type 0 where
  pub is_one : Contains faults fault
  pub least : All (λ other. is_lesser other fault ≡ false) faults
