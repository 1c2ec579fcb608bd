-- The values that an expansion sees: those of fixed EQU and SET names of earlier lines (after the MCS-96 Macro Assembler
-- User's Guide, "Conditional Assembly").
use Rattle.std.specs.Prelude.{ℕ, Bool, false, ◌&&◌, ◌||◌, if◌then◌else◌, List, [], ◌∷◌, drop, Option, Some, None, Result, Ok, Err, codes}
use Rattle.std.specs.FinMap as fm
use Rattle.kc_lex.specs.declared.token.Token.{Token}
use Rattle.kc_lex.specs.Kinds.{is_free_name, begins_word}
use Rattle.kc_lex.specs.Lists.{first_text}
use Rattle.kc_lex.specs.Codes.{code_number, not_fixed}
use Rattle.kc_expr.specs.declared.values.NoValue.TheVariants.{Fault, ReportedElsewhere}
use Rattle.kc_expr.specs.declared.expr.Expr.{Expr}
use Rattle.kc_expr.specs.Tree.{Tree, tree_of}
use Rattle.kc_expr.specs.Names.{NameMap}
use Rattle.kc_expr.specs.Meaning.{Answer, answer, is_fixed}
use Rattle.kc_expr.specs.Grammar.{parsed}

-- the expression that tokens are as a whole
abbrev pub without_rest : Tree → List Token → Option Tree
without_rest tree [] = Some tree
without_rest tree (t ∷ ts) = None

abbrev pub whole_reading : Option (Tree × List Token) → Option Tree
whole_reading None = None
whole_reading (Some p) = without_rest p.0 p.1

unfoldable pub whole_tree : List Token → Option Tree
whole_tree ts = whole_reading (parsed ts)

abbrev pub seen_tree : Option Expr → Option Tree
seen_tree None = None
seen_tree (Some e) = Some (tree_of e)

-- the value of an operand, which must be fixed; here, where names have values or none, nothing is reported elsewhere
abbrev pub fixed_value : Answer → Result ℕ ℕ
fixed_value (Ok v) = if is_fixed v.base then Ok v.number else Err not_fixed
fixed_value (Err (Fault code)) = Err (code_number code)
fixed_value (Err ReportedElsewhere) = Err not_fixed

abbrev pub tree_value : Option Tree → NameMap → Result ℕ ℕ
tree_value None values = Err not_fixed
tree_value (Some tree) values = fixed_value (answer tree values)

abbrev pub operand : List Token → NameMap → Result ℕ ℕ
operand ts values = tree_value (whole_tree ts) values

abbrev pub number_of : Result ℕ ℕ → ℕ
number_of (Ok n) = n
number_of (Err code) = 0

-- ---- EQU and SET

-- the value that EQU or SET gives to a name; a malformed line gives none, and a value that is not fixed takes the earlier one
-- away
abbrev pub fixed_name : List ℕ → Answer → NameMap → NameMap
fixed_name n (Err fault) values = fm.remove values n
fixed_name n (Ok v) values = if is_fixed v.base then fm.insert values n v else fm.remove values n

abbrev pub named_by : List ℕ → Option Tree → NameMap → NameMap
named_by n None values = values
named_by n (Some tree) values = fixed_name n (answer tree values) values

abbrev pub is_valued : List Token → Bool
is_valued [] = false
is_valued (n ∷ ts) = is_free_name n && (begins_word (codes "EQU") ts || begins_word (codes "SET") ts)

unfoldable pub noted : List Token → NameMap → NameMap
noted ts values = if is_valued ts then named_by (first_text ts) (whole_tree (drop 2 ts)) values else values
