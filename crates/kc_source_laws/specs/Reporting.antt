-- An object can report each statement of a text: lines are numbered from 1, and a statement takes its names from the words of its
-- line, which are names of at most 31 characters (after the MCS-96 Macro Assembler User's Guide, "Symbols").
use Rattle.std.specs.Prelude.{◌≡◌, ℕ, Bool, true, nat_lt, List, Some, Ok}
use Rattle.std.specs.List.{list_all}
use Rattle.kc_lex.specs.declared.token.Line.{Line}
use Rattle.kc_lex.specs.Lines.{lines_of}
use Rattle.kc_macro.specs.Expansion.{expanded}
use Rattle.kc_macro_laws.specs.Kept.{line_passes}
use Rattle.kc_macro_laws.specs.MadeNames.{is_named}
use Rattle.kc_source_statement.specs.declared.statement.Stmt.{Stmt}
use Rattle.kc_source.specs.Faults.{AreStatements}
use Rattle.kc_asm_symbols.specs.Reported.{is_reported}

-- a line with a number, and with names as words
abbrev pub is_reported_line : Line → Bool
is_reported_line l = line_passes (nat_lt 0) is_named l

-- of the lines of a source with all that macros, repetitions and conditions stand for
abbrev pub TextsAreReported : Type 0
TextsAreReported =
    (source : List ℕ) (lines text : List Line) → lines_of source ≡ Ok lines → expanded lines ≡ Some (Ok text) → list_all is_reported_line text ≡ true

abbrev pub StatementsAreReported : Type 0
StatementsAreReported =
    (lines : List Line) (stmts : List Stmt) → list_all is_reported_line lines ≡ true → AreStatements stmts lines → list_all is_reported stmts ≡ true
