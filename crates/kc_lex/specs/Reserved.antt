-- What an entry of the index of reserved words says of its word, and what no entry says.
use Rattle.std.specs.Prelude.{ℕ, List, map, Bool, true, false, Option, Some, None}
use Rattle.kc_lex.specs.declared.reserved.Word.{Word}
use Rattle.kc_lex.specs.declared.reserved.Word.TheVariants as found
use Rattle.kc_lex.specs.declared.reserved.TheConstants.{WORDS}
use Rattle.kc_lex.specs.declared.words.Directive.{Directive}
use Rattle.kc_lex.specs.declared.words.Operands.{Operands}
use Rattle.kc_lex.specs.declared.words.Operands.TheVariants as operands

-- the words of the index
abbrev pub word_list : List (List ℕ × Word)
word_list = map (λ entry. (entry.0.now, entry.1)) WORDS

abbrev pub is_operator : Option Word → Bool
is_operator (Some found.Operator) = true
is_operator word = false

abbrev pub is_condition : Option Word → Bool
is_condition (Some found.Condition) = true
is_condition word = false

abbrev pub operands_in : Option Word → Option Operands
operands_in (Some found.Condition) = Some operands.One
operands_in (Some (found.Branch form)) = Some form
operands_in word = None

abbrev pub directive_in : Option Word → Option Directive
directive_in (Some (found.Directive directive)) = Some directive
directive_in word = None

abbrev pub is_stack : Option Word → Bool
is_stack (Some found.Stack) = true
is_stack word = false
