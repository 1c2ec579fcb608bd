-- Faults of operands: 10 where the number of a bit or of shifts is not fixed; 12 where a bit is over 7, a count over 15, or where
-- S has a pointer or an index whose number is odd or that is an external: the low bit of such a byte reports the modes apart, and
-- of an external nobody knows it (after the MCS-96 Macro Assembler User's Guide, "Operands"; the codes are this kit's own).
use Rattle.std.specs.Prelude.{ℕ, not, ◌%◌, ◌==◌, ◌||◌, nat_lt, if◌then◌else◌, Option, Some, None, List, [], ◌∷◌}
use Rattle.kc_expr.specs.declared.values.Value.{Value}
use Rattle.kc_lex.specs.declared.words.Operands.{Operands}
use Rattle.kc_lex.specs.declared.words.Operands.TheVariants as operands
use Rattle.kc_lex.specs.Words.{operands_for}
use Rattle.kc_lex.specs.Codes.{not_fixed, does_not_fit}
use Rattle.kc_asm_encode.specs.declared.argument.Argument.{Argument}
use Rattle.kc_asm_encode.specs.declared.argument.Argument.TheVariants.{Plain, Immediate, Indirect, Increment, Indexed}
use Rattle.kc_expr.specs.Meaning.{is_fixed}
use Rattle.kc_asm_encode.specs.Values.{is_external, argument}

-- a number that has to be fixed, and is at most a bound
abbrev pub number_fault : ℕ → Option Value → Option ℕ
number_fault most None = None
number_fault most (Some v) = if is_fixed v.base then (if nat_lt most v.number then Some does_not_fit else None) else Some not_fixed

abbrev pub pointer_fault : Option Value → Option ℕ
pointer_fault None = None
pointer_fault (Some r) = if not (r.number % 2 == 0) || is_external r.base then Some does_not_fit else None

abbrev pub source_fault : Argument → Option ℕ
source_fault (Plain x) = None
source_fault (Immediate x) = None
source_fault (Indirect r) = pointer_fault r
source_fault (Increment r) = pointer_fault r
source_fault (Indexed x r) = pointer_fault r

-- `#n` of a shift
abbrev pub count_fault : Argument → Option ℕ
count_fault (Immediate n) = number_fault 15 n
count_fault a = None

-- the number of a bit
abbrev pub bit_fault : Argument → Option ℕ
bit_fault (Plain n) = number_fault 7 n
bit_fault a = None

-- BR and TIJMP have no S, and any register as pointer
abbrev pub operands_fault : Operands → List Argument → Option ℕ
operands_fault operands.Source args = source_fault (argument args 0)
operands_fault operands.Place args = source_fault (argument args 0)
operands_fault operands.Two args = source_fault (argument args 1)
operands_fault operands.TwoOrThree (a ∷ b ∷ []) = source_fault b
operands_fault operands.TwoOrThree args = source_fault (argument args 2)
operands_fault operands.Store args = source_fault (argument args 1)
operands_fault operands.Exchange args = source_fault (argument args 1)
operands_fault operands.Shift args = count_fault (argument args 1)
operands_fault operands.Triple args = bit_fault (argument args 1)
operands_fault form args = None

-- the code of the fault of an operation's operands
unfoldable pub fault_of : List ℕ → List Argument → Option ℕ
fault_of word args = elim (operands_for word) [ None ↦ None | Some form ↦ operands_fault form args ]
