-- The statements of a source without a fault of lines, macros, statements and names are those that an object can report, with
-- instructions and data in code: the check of values and places has no code for others.
use Rattle.std.specs.Prelude.{◌≡◌, ℕ, List, Some, Ok}
use Rattle.kc_lex.specs.declared.token.Line.{Line}
use Rattle.kc_lex.specs.Lines.{lines_of}
use Rattle.kc_macro.specs.Expansion.{expanded}
use Rattle.kc_source_statement.specs.declared.statement.Stmt.{Stmt}
use Rattle.kc_source.specs.Faults.{AreStatements}
use Rattle.kc_asm_symbols.specs.Reported.{AreReadWell}

abbrev pub SourcesAreReadWell : Type 0
SourcesAreReadWell =
    (source : List ℕ) (lines text : List Line) (stmts : List Stmt) → lines_of source ≡ Ok lines → expanded lines ≡ Some (Ok text)
    → AreStatements stmts text → AreReadWell stmts
