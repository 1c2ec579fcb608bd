-- How many pieces a module has: at most one more than its source has statements (after the MCS-96 Macro Assembler User's Guide,
-- "Segments and the Location Counter"). Each absolute piece is opened by a statement of its own; the relocatable registers and data
-- are pieces only where a statement goes over to them, and the stack only where one asks for it; the relocatable code is in force
-- from the start.
use Rattle.std.specs.Prelude.{ℕ, ◌+◌, ◌≤◌, List, length}
use Rattle.kc_source_statement.specs.declared.statement.Stmt.{Stmt}
use Rattle.kc_asm_section.specs.declared.unlinked.UnlinkedModule.{UnlinkedModule}
use Rattle.kc_asm_section.specs.ModuleOf.{pieces_in}
use Rattle.kc_asm_unlinked_laws.specs.Collecting.{IsUnlinkedModuleOf}

abbrev pub PiecesAreFew : Type 0
PiecesAreFew = (stmts : List Stmt) (d : UnlinkedModule) → IsUnlinkedModuleOf stmts d → length (pieces_in d) ≤ length stmts + 1
