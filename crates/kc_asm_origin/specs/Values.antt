-- The name that a statement is refused for: the first name of its expressions that means nothing there, or the first public
-- name that counts from an external (after the MCS-96 Macro Assembler User's Guide, "Expressions" and "PUBLIC").
use Rattle.std.specs.Prelude.{ℕ, Bool, true, false, ◌==◌, if◌then◌else◌, List, [], ◌∷◌, Option, Some, None, Err}
use Rattle.std.specs.Option.{option_or}
use Rattle.kc_lex.specs.declared.fault.SourceCode.TheVariants.{NotDefined}
use Rattle.kc_lex.specs.Codes.{not_defined, not_public}
use Rattle.kc_expr.specs.declared.values.NoValue.TheVariants.{Fault}
use Rattle.kc_expr.specs.Tree.{Tree, Number, Chars, Name, Here, One, Two}
use Rattle.kc_expr.specs.Meaning.{Answer}
use Rattle.kc_source_statement.specs.Trees.{ActionTree}
use Rattle.kc_source_statement.specs.Formed.{given_names}
use Rattle.kc_asm_symbols.specs.Located.{Located}
use Rattle.kc_asm_symbols.specs.Externals.{action_trees}
use Rattle.kc_asm_symbols.specs.Meanings.{meaning, in_all}
use Rattle.kc_asm_emit.specs.Arguments.{Look}
use Rattle.kc_asm_check.specs.Codes.{counts_from_external}

abbrev pub means_nothing : Answer → Bool
means_nothing (Err (Fault NotDefined)) = true
means_nothing answer = false

-- the first name of an expression, from the left, that means nothing
unfoldable pub unknown_in : Look → Tree → Option (List ℕ)
unknown_in look (Number n) = None
unknown_in look (Chars cs) = None
unknown_in look (Name n) = if means_nothing (look n) then Some n else None
unknown_in look Here = None
unknown_in look (One op e) = unknown_in look e
unknown_in look (Two op a b) = option_or (unknown_in look a) (unknown_in look b)

unfoldable pub unknown_among : Look → List Tree → Option (List ℕ)
unknown_among look [] = None
unknown_among look (x ∷ xs) = option_or (unknown_in look x) (unknown_among look xs)

-- the first of some names that counts from an external
unfoldable pub foreign_among : Look → List (List ℕ) → Option (List ℕ)
foreign_among last [] = None
foreign_among last (n ∷ ns) = if counts_from_external (last n) then Some n else foreign_among last ns

-- ---- a statement, by what names mean in it and what they mean by all statements

abbrev pub symbol_in : ℕ → Look → Look → ActionTree → Option (List ℕ)
symbol_in code look last action =
    if code == not_defined then unknown_among look (action_trees action)
    else if code == not_public then foreign_among last (given_names action)
    else None

abbrev pub symbol_on : ℕ → ℕ → List Located → List Located → Located → Option (List ℕ)
symbol_on line code all before l = if l.line == line then symbol_in code (meaning all before l) (in_all all) l.action else None

-- that of the first of these statements that has one, behind others, the latest first
unfoldable pub symbol_from : ℕ → ℕ → List Located → List Located → List Located → Option (List ℕ)
symbol_from line code all before [] = None
symbol_from line code all before (l ∷ ls) = option_or (symbol_on line code all before l) (symbol_from line code all (l ∷ before) ls)

abbrev pub symbol_at : ℕ → ℕ → List Located → Option (List ℕ)
symbol_at line code all = symbol_from line code all [] all
