-- The value of an expression, or the one of its faults that has the least code: 7 for a name without value, 9 for a number
-- of over 16 bits, 11 for a division by 0, 13 for arithmetic on places (after the MCS-96 Macro Assembler User's Guide,
-- "Relocatable Expressions"; the codes are this kit's own). A name whose own definition has a fault has no value, but a use
-- of it is no fault of its own.
use Rattle.std.specs.Prelude.{◌≡◌, ℕ, ◌+◌, ◌-◌, ◌*◌, ◌/◌, ◌%◌, ◌^◌, Bool, true, false, not, ◌&&◌, ◌==◌, nat_lt, nat_le, if◌then◌else◌, List, [], ◌∷◌, Option, Some, None, Result, Ok, Err, bit_and, bit_or, bit_xor}
use Rattle.std.specs.FinMap.{get}
use Rattle.kc_lex.specs.declared.fault.SourceFault.{SourceFault}
use Rattle.kc_lex.specs.declared.fault.SourceFault.TheVariants as faults
use Rattle.kc_lex.specs.declared.fault.SourceCode.TheVariants as code
use Rattle.kc_lex.specs.Codes.{code_number, lesser_code}
use Rattle.kc_expr.specs.declared.values.Base.{Base}
use Rattle.kc_expr.specs.declared.values.Base.TheVariants.{Fixed, Absolute, Piece, External}
use Rattle.kc_expr.specs.declared.values.Tag.TheVariants.{Memory}
use Rattle.kc_expr.specs.declared.values.Value.{Value}
use Rattle.kc_expr.specs.declared.values.NoValue.{NoValue}
use Rattle.kc_expr.specs.declared.values.NoValue.TheVariants.{Fault, ReportedElsewhere}
use Rattle.kc_expr.specs.declared.expr.Unary.{Unary}
use Rattle.kc_expr.specs.declared.expr.Unary.TheVariants as unary
use Rattle.kc_expr.specs.declared.expr.Binary.{Binary}
use Rattle.kc_expr.specs.declared.expr.Binary.TheVariants as binary
use Rattle.kc_expr.specs.Tree.{Tree, Number, Chars, Name, Here, One, Two}
use Rattle.kc_expr.specs.Names.{NameMap}

abbrev pub Answer : Type 0
Answer = Result Value NoValue

-- a plain number
abbrev pub plain : ℕ → Value
plain n = record { base = Fixed; tag = Memory; number = n }

abbrev pub number_answer : ℕ → Answer
number_answer n = if nat_lt n (2 ^ 16) then Ok (plain n) else Err (Fault code.BadNumber)

-- the first character is the high byte
abbrev pub chars_answer : List ℕ → Answer
chars_answer [] = Err (Fault code.BadNumber)
chars_answer (a ∷ []) = Ok (plain a)
chars_answer (a ∷ b ∷ []) = Ok (plain (256 * a + b))
chars_answer (a ∷ b ∷ c ∷ cs) = Err (Fault code.BadNumber)

abbrev pub found : Option Value → Answer
found None = Err (Fault code.NotDefined)
found (Some v) = Ok v

abbrev pub is_fixed : Base → Bool
is_fixed Fixed = true
is_fixed Absolute = false
is_fixed (Piece n) = false
is_fixed (External n) = false

abbrev pub same_base : Base → Base → Bool
same_base Absolute Absolute = true
same_base (Piece m) (Piece n) = m == n
same_base (External m) (External n) = m == n
same_base a b = false

abbrev pub truth : Bool → ℕ
truth b = if b then 65535 else 0

-- one number under an operator
unfoldable pub unary_number : Unary → ℕ → ℕ
unary_number unary.Low n = n % 256
unary_number unary.High n = n / 256
unary_number unary.Plus n = n
unary_number unary.Minus n = (65536 - n) % 65536
unary_number unary.Not n = 65535 - n

-- two numbers under an operator, modulo 65536; a division by 0 has none
unfoldable pub binary_number : Binary → ℕ → ℕ → Option ℕ
binary_number binary.Times a b = Some (a * b % 65536)
binary_number binary.Over a b = if b == 0 then None else Some (a / b)
binary_number binary.Mod a b = if b == 0 then None else Some (a % b)
binary_number binary.Shl a b = Some (a * 2 ^ b % 65536)
binary_number binary.Shr a b = Some (a / 2 ^ b)
binary_number binary.Plus a b = Some ((a + b) % 65536)
binary_number binary.Minus a b = Some ((a + 65536 - b) % 65536)
binary_number binary.Eq a b = Some (truth (a == b))
binary_number binary.Ne a b = Some (truth (not (a == b)))
binary_number binary.Lt a b = Some (truth (nat_lt a b))
binary_number binary.Le a b = Some (truth (nat_le a b))
binary_number binary.Gt a b = Some (truth (nat_lt b a))
binary_number binary.Ge a b = Some (truth (nat_le b a))
binary_number binary.And a b = Some (bit_and a b)
binary_number binary.Or a b = Some (bit_or a b)
binary_number binary.Xor a b = Some (bit_xor a b)

abbrev pub divided : Option ℕ → Answer
divided None = Err (Fault code.DivisionByZero)
divided (Some n) = Ok (plain n)

-- a place, moved by a plain number
abbrev pub moved : Binary → Value → ℕ → Answer
moved binary.Plus v n = Ok (record v { number = (v.number + n) % 65536 })
moved binary.Minus v n = Ok (record v { number = (v.number + 65536 - n) % 65536 })
moved op v n = Err (Fault code.NotRelocatable)

-- a plain number, and a place after it
abbrev pub moved_to : Binary → Value → ℕ → Answer
moved_to binary.Plus v n = Ok (record v { number = (v.number + n) % 65536 })
moved_to op v n = Err (Fault code.NotRelocatable)

-- two places of one base have a distance
abbrev pub distance : Binary → Value → Value → Answer
distance binary.Minus a b = if same_base a.base b.base then Ok (record { base = Absolute; tag = Memory; number = (a.number + 65536 - b.number) % 65536 }) else Err (Fault code.NotRelocatable)
distance op a b = Err (Fault code.NotRelocatable)

unfoldable pub on_one : Unary → Value → Answer
on_one op v = if is_fixed v.base then Ok (plain (unary_number op v.number)) else Err (Fault code.NotRelocatable)

unfoldable pub on_two : Binary → Value → Value → Answer
on_two op a b =
    if is_fixed a.base
    then (if is_fixed b.base then divided (binary_number op a.number b.number) else moved_to op b a.number)
    else (if is_fixed b.base then moved op a b.number else distance op a b)

-- a part that has a fault gives it
abbrev pub unary_answer : Unary → Answer → Answer
unary_answer op (Ok v) = on_one op v
unary_answer op (Err e) = Err e

-- of two faults the one of the lesser code; one that is reported elsewhere only where there is no other
abbrev pub lesser : NoValue → NoValue → NoValue
lesser (Fault c) (Fault d) = Fault (lesser_code c d)
lesser (Fault c) ReportedElsewhere = Fault c
lesser ReportedElsewhere other = other

-- of the faults of two parts the lesser
abbrev pub parts_answer : Binary → Answer → Answer → Answer
parts_answer op (Ok a) (Ok b) = on_two op a b
parts_answer op (Ok a) (Err e) = Err e
parts_answer op (Err e) (Ok b) = Err e
parts_answer op (Err d) (Err e) = Err (lesser d e)

abbrev pub is_division : Binary → Bool
is_division binary.Over = true
is_division binary.Mod = true
is_division op = false

abbrev pub divides_by_zero : Binary → Answer → Bool
divides_by_zero op (Ok b) = is_division op && is_fixed b.base && (b.number == 0)
divides_by_zero op (Err e) = false

-- a division by a fixed 0 is a fault whatever is divided
abbrev pub by_zero : Answer → Answer
by_zero (Ok a) = Err (Fault code.DivisionByZero)
by_zero (Err e) = Err (lesser e (Fault code.DivisionByZero))

unfoldable pub binary_answer : Binary → Answer → Answer → Answer
binary_answer op a b = if divides_by_zero op b then by_zero a else parts_answer op a b

-- the name of the place where a line stands
abbrev pub here : List ℕ
here = 36 ∷ []

-- the value over what each name answers
unfoldable pub answer_by : (List ℕ → Answer) → Tree → Answer
answer_by look (Number n) = number_answer n
answer_by look (Chars cs) = chars_answer cs
answer_by look (Name n) = look n
answer_by look Here = look here
answer_by look (One op e) = unary_answer op (answer_by look e)
answer_by look (Two op a b) = binary_answer op (answer_by look a) (answer_by look b)

-- a name answers its value
abbrev pub name_answer : NameMap → List ℕ → Answer
name_answer names name = found (get names name)

abbrev pub answer : Tree → NameMap → Answer
answer tree names = answer_by (name_answer names) tree

-- what a call answers at a line: where names have values or none, nothing is reported elsewhere
abbrev pub IsAnswerAt : ℕ → Answer → Result Value SourceFault → Type 0
IsAnswerAt line (Ok v) result = result ≡ Ok v
IsAnswerAt line (Err (Fault c)) result = result ≡ Err (faults.At line (code_number c))
IsAnswerAt line (Err ReportedElsewhere) result = ⊥
