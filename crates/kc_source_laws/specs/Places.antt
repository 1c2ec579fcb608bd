-- Instructions and data stand in segments of code: the pass over statements refuses all others (after the MCS-96 Macro Assembler
-- User's Guide, "Segments and the Location Counter").
use Rattle.std.specs.Prelude.{◌≡◌, ℕ, true, List}
use Rattle.std.specs.List.{list_all}
use Rattle.kc_lex.specs.declared.token.Line.{Line}
use Rattle.kc_expr.specs.declared.values.Value.{Value}
use Rattle.kc_source_statement.specs.declared.statement.Stmt.{Stmt}
use Rattle.kc_source.specs.Faults.{AreStatements}
use Rattle.kc_asm_symbols.specs.declared.segments.Segment.{Segment}
use Rattle.kc_asm_symbols.specs.Located.{located_by}
use Rattle.kc_asm_symbols.specs.Reported.{stands_well}

-- of each statement of a text, whatever the values of its places
abbrev pub BytesStandInCode : Type 0
BytesStandInCode =
    (lines : List Line) (stmts : List Stmt) → AreStatements stmts lines → (values : ℕ → Segment → Value)
    → list_all stands_well (located_by values stmts) ≡ true
