-- The codes of the faults of a source (this kit's own), by their numbers and as definitions name them.
use Rattle.std.specs.Prelude.{ℕ, min, nat_lt, if◌then◌else◌, Option, Some, None}
use Rattle.kc_lex.specs.declared.fault.SourceCode.{SourceCode}
use Rattle.kc_lex.specs.declared.fault.SourceCode.TheVariants as source

abbrev pub code_number : SourceCode → ℕ
code_number source.NoStatement = 1
code_number source.NoEnd = 2
code_number source.LongLine = 3
code_number source.ManyLines = 4
code_number source.TooDeep = 5
code_number source.DefinedTwice = 6
code_number source.NotDefined = 7
code_number source.ManyNames = 8
code_number source.BadNumber = 9
code_number source.NotFixed = 10
code_number source.DivisionByZero = 11
code_number source.DoesNotFit = 12
code_number source.NotRelocatable = 13
code_number source.OtherOperands = 14
code_number source.NoMatch = 15
code_number source.ManyArguments = 16
code_number source.PastTheEnd = 17
code_number source.OutsideCode = 18
code_number source.OutOfReach = 19
code_number source.NotPublic = 20
code_number source.NotExternal = 21
code_number source.OutsideRegion = 22
code_number source.SecondModule = 23
code_number source.NoLabel = 24

-- of two codes the lesser one, and the same of numbers of codes, where there are any
unfoldable pub lesser_code : SourceCode → SourceCode → SourceCode
lesser_code c d = if nat_lt (code_number d) (code_number c) then d else c

abbrev pub lesser_number : Option ℕ → Option ℕ → Option ℕ
lesser_number None b = b
lesser_number (Some m) None = Some m
lesser_number (Some m) (Some n) = Some (min m n)

abbrev pub no_statement : ℕ
no_statement = code_number source.NoStatement

abbrev pub no_end : ℕ
no_end = code_number source.NoEnd

abbrev pub long_line : ℕ
long_line = code_number source.LongLine

abbrev pub many_lines : ℕ
many_lines = code_number source.ManyLines

abbrev pub too_deep : ℕ
too_deep = code_number source.TooDeep

abbrev pub defined_twice : ℕ
defined_twice = code_number source.DefinedTwice

abbrev pub not_defined : ℕ
not_defined = code_number source.NotDefined

abbrev pub many_names : ℕ
many_names = code_number source.ManyNames

abbrev pub bad_number : ℕ
bad_number = code_number source.BadNumber

abbrev pub not_fixed : ℕ
not_fixed = code_number source.NotFixed

abbrev pub division_by_zero : ℕ
division_by_zero = code_number source.DivisionByZero

abbrev pub does_not_fit : ℕ
does_not_fit = code_number source.DoesNotFit

abbrev pub not_relocatable : ℕ
not_relocatable = code_number source.NotRelocatable

abbrev pub other_operands : ℕ
other_operands = code_number source.OtherOperands

abbrev pub no_match : ℕ
no_match = code_number source.NoMatch

abbrev pub many_arguments : ℕ
many_arguments = code_number source.ManyArguments

abbrev pub past_the_end : ℕ
past_the_end = code_number source.PastTheEnd

abbrev pub outside_code : ℕ
outside_code = code_number source.OutsideCode

abbrev pub out_of_reach : ℕ
out_of_reach = code_number source.OutOfReach

abbrev pub not_public : ℕ
not_public = code_number source.NotPublic

abbrev pub not_external : ℕ
not_external = code_number source.NotExternal

abbrev pub outside_region : ℕ
outside_region = code_number source.OutsideRegion

abbrev pub second_module : ℕ
second_module = code_number source.SecondModule

abbrev pub no_label : ℕ
no_label = code_number source.NoLabel
