-- The statements of a source are read well.
use Rattle.std.specs.Prelude.{ℕ, List}
use Rattle.kc_source_statement.specs.declared.statement.Stmt.{Stmt}
use Rattle.kc_asm_symbols.specs.Reported.{AreReadWell}
use Rattle.kc_source_laws.specs.Read.{SourcesAreReadWell}
use Rattle.kc_asm.specs.Assembled.{AreSaid}

pub said_well : SourcesAreReadWell → (source : List ℕ) (stmts : List Stmt) → AreSaid source stmts → AreReadWell stmts
said_well law source stmts said = law source said.1.0 said.0 stmts said.1.1 said.1.2 said.2
