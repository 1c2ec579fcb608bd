-- What the passes behind expansion report first of a text: of statements and names, else of values and places (the order is this
-- kit's own).
use Rattle.std.specs.Prelude.{◌≡◌, ◌≢◌, ◌⊎◌, Bool, true, false, List, Option, Some}
use Rattle.kc_lex.specs.declared.token.Line.{Line}
use Rattle.kc_source_statement.specs.declared.statement.Stmt.{Stmt}
use Rattle.kc_source.specs.Faults.{Fault, AreStatements, faults_of, least}
use Rattle.kc_asm_check.specs.Checking.{first_fault}

abbrev pub ReportedOfStatements : List Line → Option Fault → Type 0
ReportedOfStatements text reported = (f : Fault) × (least (faults_of text) ≡ Some f) × (reported ≡ Some f)

abbrev pub ReportedOfValues : List Line → Option Fault → Type 0
ReportedOfValues text reported = (stmts : List Stmt) × AreStatements stmts text × (reported ≡ first_fault stmts)

abbrev pub IsReported : List Line → Option Fault → Type 0
IsReported text reported = ReportedOfStatements text reported ⊎ ReportedOfValues text reported

-- something else is reported first
abbrev pub IsNotReported : List Line → Fault → Type 0
IsNotReported text f = (reported : Option Fault) × IsReported text reported × (reported ≢ Some f)

abbrev pub Reports : List Line → Fault → Bool → Type 0
Reports text f true = IsReported text (Some f)
Reports text f false = IsNotReported text f
