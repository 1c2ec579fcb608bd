-- The operand S: `x`, `#x`, `[reg]`, `[reg]+` or `x[reg]`. Alone, x names a register if it is a fixed number of one byte or a label
-- of a register segment, and else a place in memory, which is written as an index behind register 0 (80C196KC User's Manual,
-- "Addressing Modes"; MCS-96 Macro Assembler User's Guide, "Operands").
use Rattle.std.specs.Prelude.{ℕ, ◌%◌, if◌then◌else◌, Option}
use Rattle.std.specs.Int.{w8, cast_signed}
use Rattle.kc_expr.specs.declared.values.Value.{Value}
use Rattle.kc_expr.specs.Meaning.{plain}
use Rattle.kc_asm_encode.specs.declared.argument.Argument.{Argument}
use Rattle.kc_asm_encode.specs.declared.argument.Argument.TheVariants as arguments
use Rattle.kc_asm_encode.specs.declared.word.Word.{Word}
use Rattle.kc_asm_encode.specs.declared.word.Word.TheVariants.{Register, Immediate, Indirect, Increment, Short, Long}
use Rattle.kc_asm_encode.specs.Values.{or_zero, is_direct, is_short}

-- the two low bits of the opcode: register, number, pointer, index
abbrev pub mode : Argument → ℕ
mode (arguments.Plain x) = if is_direct x then 0 else 3
mode (arguments.Immediate x) = 1
mode (arguments.Indirect r) = 2
mode (arguments.Increment r) = 2
mode (arguments.Indexed x r) = 3

abbrev pub plain_source : Option Value → Word
plain_source x = if is_direct x then Register (or_zero x) else Long (plain 0) (or_zero x)

abbrev pub indexed_source : Option Value → Option Value → Word
indexed_source x r =
    if is_short x then Short (or_zero r) (cast_signed w8 ((or_zero x).number % 256)) else Long (or_zero r) (or_zero x)

abbrev pub source : Argument → Word
source (arguments.Plain x) = plain_source x
source (arguments.Immediate x) = Immediate (or_zero x)
source (arguments.Indirect r) = Indirect (or_zero r)
source (arguments.Increment r) = Increment (or_zero r)
source (arguments.Indexed x r) = indexed_source x r
