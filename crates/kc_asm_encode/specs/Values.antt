-- The values that operands have (after the MCS-96 Macro Assembler User's Guide, "Operands").
use Rattle.std.specs.Prelude.{ℕ, Bool, true, false, ◌+◌, ◌%◌, ◌&&◌, ◌||◌, nat_lt, nat_le, if◌then◌else◌, Option, Some, None, List, slice_index_or}
use Rattle.kc_expr.specs.declared.values.Base.{Base}
use Rattle.kc_expr.specs.declared.values.Base.TheVariants.{Fixed, Absolute, Piece, External}
use Rattle.kc_expr.specs.declared.values.Tag.{Tag}
use Rattle.kc_expr.specs.declared.values.Tag.TheVariants.{Register, Memory}
use Rattle.kc_expr.specs.declared.values.Value.{Value}
use Rattle.kc_expr.specs.Meaning.{plain, is_fixed}
use Rattle.kc_asm_encode.specs.declared.argument.Argument.{Argument}
use Rattle.kc_asm_encode.specs.declared.argument.Argument.TheVariants.{Plain, Immediate, Indirect, Increment, Indexed}

abbrev pub is_external : Base → Bool
is_external Fixed = false
is_external Absolute = false
is_external (Piece p) = false
is_external (External e) = true

abbrev pub is_register : Tag → Bool
is_register Register = true
is_register Memory = false

-- some bytes behind a value
abbrev pub moved : Value → ℕ → Value
moved v n = record v { number = (v.number + n) % 65536 }

-- a value that is missing counts as 0
abbrev pub or_zero : Option Value → Value
or_zero None = plain 0
or_zero (Some v) = v

-- a plain operand that is in the register file
abbrev pub is_direct : Option Value → Bool
is_direct None = false
is_direct (Some v) = (is_fixed v.base && nat_lt v.number 256) || is_register v.tag

-- an index of one byte: from -128 to 127
abbrev pub is_short : Option Value → Bool
is_short None = false
is_short (Some v) = is_fixed v.base && (nat_lt v.number 128 || nat_le 65408 v.number)

-- the operand at a place, or 0
abbrev pub argument : List Argument → ℕ → Argument
argument args n = slice_index_or args n (Plain None)

-- the value of an operand, of `x[reg]` that of x
abbrev pub value_of : Argument → Value
value_of (Plain x) = or_zero x
value_of (Immediate x) = or_zero x
value_of (Indirect r) = or_zero r
value_of (Increment r) = or_zero r
value_of (Indexed x r) = or_zero x

-- a number of three bits, 0 where it is not fixed
abbrev pub bit_of : Argument → ℕ
bit_of a = let v = value_of a in if is_fixed v.base then v.number % 8 else 0
