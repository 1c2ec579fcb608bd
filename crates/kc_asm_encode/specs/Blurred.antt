-- Operands without the numbers that are not fixed: those change while the places of labels are sought.
use Rattle.std.specs.Prelude.{if◌then◌else◌, Option, Some, None}
use Rattle.kc_expr.specs.declared.values.Value.{Value}
use Rattle.kc_expr.specs.Meaning.{is_fixed}
use Rattle.kc_asm_encode.specs.declared.argument.Argument.{Argument}
use Rattle.kc_asm_encode.specs.declared.argument.Argument.TheVariants.{Plain, Immediate, Indirect, Increment, Indexed}

abbrev pub blurred_value : Option Value → Option Value
blurred_value None = None
blurred_value (Some v) = if is_fixed v.base then Some v else Some (record v { number = 0 })

abbrev pub blurred : Argument → Argument
blurred (Plain x) = Plain (blurred_value x)
blurred (Immediate x) = Immediate (blurred_value x)
blurred (Indirect r) = Indirect (blurred_value r)
blurred (Increment r) = Increment (blurred_value r)
blurred (Indexed x r) = Indexed (blurred_value x) (blurred_value r)
