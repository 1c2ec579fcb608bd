-- The statement that a walk is at.
use Rattle.kc_source_statement.specs.declared.statement.Stmt.{Stmt}
use Rattle.kc_asm_symbols.specs.declared.segments.Segment.{Segment}
use Rattle.kc_asm_symbols.specs.Located.{Located, located_at, value_at}
use Rattle.kc_asm_layout.specs.declared.location.Location.{Location}

abbrev pub stood : Segment → Stmt → Location → Located
stood g stmt s = located_at g (value_at g s.place) stmt
