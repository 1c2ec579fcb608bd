-- How far a walk over the statements has come, and what it has there of the names.
use Rattle.std.specs.Prelude.{◌≡◌, ℕ, ◌||◌, if◌then◌else◌, List, map, Ok}
use Rattle.std.specs.Str.{bytes_eq}
use Rattle.kc_expr.specs.declared.values.Value.{Value}
use Rattle.kc_expr.specs.Meaning.{Answer, here}
use Rattle.kc_source_statement.specs.declared.statement.Stmt.{Stmt}
use Rattle.kc_asm_symbols.specs.declared.segments.Segment.{Segment}
use Rattle.kc_asm_symbols.specs.declared.names.Listed.{Listed}
use Rattle.kc_asm_symbols.specs.declared.names.Names.{Names}
use Rattle.kc_asm_symbols.specs.declared.earlier.Earlier.{Earlier}
use Rattle.kc_asm_symbols.specs.declared.meanings.Meanings.{Meanings}
use Rattle.kc_asm_symbols.specs.Tables.{answers, is_defined_by_set, label_number}
use Rattle.kc_asm_symbols.specs.Located.{Located, located_by}
use Rattle.kc_asm_symbols.specs.Meanings as spec

-- what the copies of names share
abbrev pub shared : Names → Listed
shared names = names.listed.value

-- what of the names of these statements is the same wherever they stand
pub record AreNamesOf (names : Names) (stmts : List Stmt) : Type 0 where
  pub labels : (shared names).labels.items ≡ map (λ s. label_number (shared names).numbers s.label) stmts
  pub set : (values : ℕ → Segment → Value) → is_defined_by_set (shared names).numbers ≡ spec.is_set (located_by values stmts)
  pub external : (values : ℕ → Segment → Value) → answers (shared names).numbers (shared names).taken ≡ spec.external_answer (located_by values stmts)

-- what names answer in a definition
abbrev pub at_definition : Earlier → List ℕ → Answer
at_definition e = spec.with_here e.here (answers (shared e.names).numbers e.latest)

-- what names answer in the statement that the walk is at
abbrev pub at_statement : Meanings → List ℕ → Answer
at_statement m name =
    let numbers = (shared m.earlier.names).numbers in
    if bytes_eq name here then Ok m.earlier.here
    else (if m.defines || is_defined_by_set numbers name then answers numbers m.earlier.latest name else answers numbers m.last name)

-- the statements before, the latest first, have been passed
pub record IsEarlier (e : Earlier) (all before : List Located) : Type 0 where
  pub external : answers (shared e.names).numbers (shared e.names).taken ≡ spec.external_answer all
  pub latest : answers (shared e.names).numbers e.latest ≡ spec.earlier all before

pub record IsBehind (m : Meanings) (all before : List Located) : Type 0 where
  pub earlier : IsEarlier m.earlier all before
  pub last : answers (shared m.earlier.names).numbers m.last ≡ spec.in_all all
  pub set : is_defined_by_set (shared m.earlier.names).numbers ≡ spec.is_set all

-- the walk is at a statement
pub record IsAt (m : Meanings) (all before : List Located) (l : Located) : Type 0 where
  pub behind : IsBehind m all before
  pub here : m.earlier.here ≡ l.here
  pub means : at_statement m ≡ spec.meaning all before l
