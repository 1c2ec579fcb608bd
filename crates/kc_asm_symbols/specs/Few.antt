-- A source without a fault has few externals: a module has 16,384 names at most, and STACK.
use Rattle.std.specs.Prelude.{ℕ, ◌≤◌, List, length}
use Rattle.kc_lex.specs.declared.token.Line.{Line}
use Rattle.kc_expr.specs.declared.values.Value.{Value}
use Rattle.kc_source_statement.specs.declared.statement.Stmt.{Stmt}
use Rattle.kc_source.specs.Faults.{AreStatements}
use Rattle.kc_asm_symbols.specs.declared.segments.Segment.{Segment}
use Rattle.kc_asm_symbols.specs.Located.{located_by}
use Rattle.kc_asm_symbols.specs.Externals.{externals}

abbrev pub ExternalsAreFew : Type 0
ExternalsAreFew = (ls : List Line) (stmts : List Stmt) (values : ℕ → Segment → Value) → AreStatements stmts ls → length (externals (located_by values stmts)) ≤ 16385
