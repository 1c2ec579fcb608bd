-- What the lines of a source keep on their way to its statements: their characters are bytes, and each has the number of
-- a line of the text (this kit's own).
use Rattle.std.specs.Prelude.{◌≡◌, ℕ, Bool, true, ◌&&◌, nat_lt, nat_le, List, length, Some, Ok}
use Rattle.std.specs.List.{list_all}
use Rattle.kc_lex.specs.declared.token.Token.{Token}
use Rattle.kc_lex.specs.declared.token.Line.{Line}
use Rattle.kc_lex.specs.Lines.{lines_of}
use Rattle.kc_macro.specs.Expansion.{expanded}
use Rattle.kc_source_statement.specs.declared.statement.Stmt.{Stmt}
use Rattle.kc_source_statement.specs.Trees.{action_tree}
use Rattle.kc_source.specs.Faults.{AreStatements}
use Rattle.kc_source_laws.specs.Strings.{action_passes}

abbrev pub are_bytes : List ℕ → Bool
are_bytes cs = list_all (λ c. nat_lt c 256) cs

abbrev pub has_bytes : Token → Bool
has_bytes t = are_bytes t.text

-- its number passes a test, and its characters are bytes
abbrev pub is_good : (ℕ → Bool) → Line → Bool
is_good numbers l = numbers l.number && list_all has_bytes l.tokens

abbrev pub is_good_statement : (ℕ → Bool) → Stmt → Bool
is_good_statement numbers s = numbers s.line && action_passes are_bytes (action_tree s.action)

-- a text has at most as many lines as characters; the first is line 1
abbrev pub is_line_of : List ℕ → ℕ → Bool
is_line_of text n = nat_lt 0 n && nat_le n (length text)

abbrev pub LinesAreOfTheText : Type 0
LinesAreOfTheText = (text : List ℕ) (lines : List Line) → lines_of text ≡ Ok lines → list_all (is_good (is_line_of text)) lines ≡ true

-- macros, repetitions and conditions bring no other numbers and characters
abbrev pub ExpansionKeepsLines : Type 0
ExpansionKeepsLines =
    (numbers : ℕ → Bool) (lines out : List Line) → list_all (is_good numbers) lines ≡ true → expanded lines ≡ Some (Ok out)
    → list_all (is_good numbers) out ≡ true

abbrev pub StatementsKeepLines : Type 0
StatementsKeepLines =
    (numbers : ℕ → Bool) (lines : List Line) (stmts : List Stmt) → list_all (is_good numbers) lines ≡ true → AreStatements stmts lines
    → list_all (is_good_statement numbers) stmts ≡ true

-- all the way
abbrev pub StatementsAreOfTheText : Type 0
StatementsAreOfTheText =
    (text : List ℕ) (lines out : List Line) (stmts : List Stmt) → lines_of text ≡ Ok lines → expanded lines ≡ Some (Ok out) → AreStatements stmts out
    → list_all (is_good_statement (is_line_of text)) stmts ≡ true
