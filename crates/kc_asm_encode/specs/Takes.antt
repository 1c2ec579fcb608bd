-- Operations with operands that they take.
use Rattle.std.specs.Prelude.{ℕ, Bool, List, map}
use Rattle.kc_lex.specs.declared.words.Notation.{Notation}
use Rattle.kc_lex.specs.declared.words.Notation.TheVariants as notations
use Rattle.kc_lex.specs.Words.{operands_for}
use Rattle.kc_lex.specs.Takes.{suits}
use Rattle.kc_asm_encode.specs.declared.argument.Argument.{Argument}
use Rattle.kc_asm_encode.specs.declared.argument.Argument.TheVariants.{Plain, Immediate, Indirect, Increment, Indexed}

-- how an operand is written
abbrev pub notation : Argument → Notation
notation (Plain x) = notations.Plain
notation (Immediate x) = notations.Immediate
notation (Indirect r) = notations.Indirect
notation (Increment r) = notations.Increment
notation (Indexed x r) = notations.Indexed

-- a statement of the language: the word is an operation and takes these operands
abbrev pub is_operation : List ℕ → List Argument → Bool
is_operation word args = suits (operands_for word) (map notation args)
