-- The values of a statement's expressions, over what each name answers
-- (after the MCS-96 Macro Assembler User's Guide, "Expressions" and "Operands").
use Rattle.std.specs.Prelude.{ℕ, Bool, ◌&&◌, List, map, if◌then◌else◌, Option, Some, None, Ok, Err}
use Rattle.std.specs.Option.{is_some}
use Rattle.kc_expr.specs.declared.values.Value.{Value}
use Rattle.kc_expr.specs.Tree.{Tree}
use Rattle.kc_expr.specs.Meaning.{Answer, answer_by, is_fixed}
use Rattle.kc_source_statement.specs.Trees.{ArgTree}
use Rattle.kc_source_statement.specs.Trees as trees
use Rattle.kc_asm_encode.specs.declared.argument.Argument.{Argument}
use Rattle.kc_asm_encode.specs.declared.argument.Argument.TheVariants.{Plain, Immediate, Indirect, Increment, Indexed}

-- what each name answers
abbrev pub Look : Type 0
Look = List ℕ → Answer

-- the value, where there is no fault
abbrev pub value_in : Answer → Option Value
value_in (Ok v) = Some v
value_in (Err fault) = None

abbrev pub value_of : Look → Tree → Option Value
value_of look x = value_in (answer_by look x)

-- the number, where it counts from nothing
abbrev pub fixed_in : Answer → Option ℕ
fixed_in (Ok v) = if is_fixed v.base then Some v.number else None
fixed_in (Err fault) = None

abbrev pub fixed_of : Look → Tree → Option ℕ
fixed_of look x = fixed_in (answer_by look x)

-- an operand with the values of its expressions
abbrev pub argument : Look → ArgTree → Argument
argument look (trees.Plain x) = Plain (value_of look x)
argument look (trees.Immediate x) = Immediate (value_of look x)
argument look (trees.Indirect r) = Indirect (value_of look r)
argument look (trees.Increment r) = Increment (value_of look r)
argument look (trees.Indexed x r) = Indexed (value_of look x) (value_of look r)

abbrev pub arguments : Look → List ArgTree → List Argument
arguments look args = map (argument look) args

-- whether each of its expressions has a value
abbrev pub has_values : Argument → Bool
has_values (Plain v) = is_some v
has_values (Immediate v) = is_some v
has_values (Indirect r) = is_some r
has_values (Increment r) = is_some r
has_values (Indexed v r) = is_some v && is_some r
