-- Which operands an operation takes, by how each is written (after the MCS-96 Macro Assembler User's Guide, "Operands").
use Rattle.std.specs.Prelude.{Bool, true, false, not, ◌&&◌, ◌||◌, List, [], ◌∷◌, Option, Some, None}
use Rattle.kc_lex.specs.declared.words.Notation.{Notation}
use Rattle.kc_lex.specs.declared.words.Notation.TheVariants as notations
use Rattle.kc_lex.specs.declared.words.Operands.{Operands}
use Rattle.kc_lex.specs.declared.words.Operands.TheVariants as operands

abbrev pub is_plain : Notation → Bool
is_plain notations.Plain = true
is_plain a = false

abbrev pub is_immediate : Notation → Bool
is_immediate notations.Immediate = true
is_immediate a = false

abbrev pub is_indirect : Notation → Bool
is_indirect notations.Indirect = true
is_indirect a = false

abbrev pub is_indexed : Notation → Bool
is_indexed notations.Indexed = true
is_indexed a = false

abbrev pub takes_none : Operands → Bool
takes_none operands.Nothing = true
takes_none form = false

abbrev pub takes_one : Operands → Notation → Bool
takes_one operands.One a = is_plain a
takes_one operands.Source a = true
takes_one operands.Place a = not (is_immediate a)
takes_one operands.Branch a = is_plain a || is_indirect a
takes_one operands.Key a = is_immediate a
takes_one form a = false

abbrev pub takes_two : Operands → Notation → Notation → Bool
takes_two operands.Two a b = is_plain a
takes_two operands.TwoOrThree a b = is_plain a
takes_two operands.Store a b = is_plain a && not (is_immediate b)
takes_two operands.Exchange a b = is_plain a && (is_plain b || is_indexed b)
takes_two operands.Shift a b = is_plain a && (is_plain b || is_immediate b)
takes_two operands.Pair a b = is_plain a && is_plain b
takes_two form a b = false

abbrev pub takes_three : Operands → Notation → Notation → Notation → Bool
takes_three operands.TwoOrThree a b c = is_plain a && is_plain b
takes_three operands.Triple a b c = is_plain a && is_plain b && is_plain c
takes_three operands.Table a b c = is_plain a && is_indirect b && is_immediate c
takes_three form a b c = false

abbrev pub takes : Operands → List Notation → Bool
takes form [] = takes_none form
takes form (a ∷ []) = takes_one form a
takes form (a ∷ b ∷ []) = takes_two form a b
takes form (a ∷ b ∷ c ∷ []) = takes_three form a b c
takes form (a ∷ b ∷ c ∷ d ∷ rest) = false

-- some form takes them
abbrev pub suits : Option Operands → List Notation → Bool
suits None written = false
suits (Some form) written = takes form written
