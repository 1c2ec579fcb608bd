-- The module of a source, or its first fault: of the first pass that has one, there on the least line, there the least code.
-- The passes: lines; macros, repetitions and conditions; statements and names; values and places (after the MCS-96 Macro
-- Assembler User's Guide; passes and codes are this kit's own).
use Rattle.std.specs.Prelude.{◌≡◌, ◌⊎◌, ℕ, ◌≤◌, true, List, length, Some, None, Result, Ok, Err}
use Rattle.std.specs.List.{list_all}
use Rattle.kc_lex.specs.declared.token.Line.{Line}
use Rattle.kc_lex.specs.declared.fault.SourceFault.{SourceFault}
use Rattle.kc_lex.specs.declared.fault.SourceFault.TheVariants as faults
use Rattle.kc_lex.specs.Lines.{lines_of}
use Rattle.kc_macro.specs.Expansion.{expanded}
use Rattle.kc_source_statement.specs.declared.statement.Stmt.{Stmt}
use Rattle.kc_source.specs.Faults as names
use Rattle.kc_source.specs.Faults.{Fault, AreStatements}
use Rattle.kc_obj_module.specs.Object.{Object}
use Rattle.kc_asm_section.specs.declared.unlinked.UnlinkedModule.{UnlinkedModule}
use Rattle.kc_asm_section.specs.ModuleOf.{IsModuleOf, pieces_in}
use Rattle.kc_asm_check.specs.Checking.{first_fault}
use Rattle.kc_asm_unlinked_laws.specs.Collecting.{IsUnlinkedModuleOf}
use Rattle.kc_asm.specs.Characters.{has_bytes}

-- the text of a source with all that macros, repetitions and conditions stand for
abbrev pub IsText : List ℕ → List Line → Type 0
IsText source text = (lines : List Line) × (lines_of source ≡ Ok lines) × (expanded lines ≡ Some (Ok text))

-- its statements
abbrev pub AreSaid : List ℕ → List Stmt → Type 0
AreSaid source stmts = (text : List Line) × IsText source text × AreStatements stmts text

-- the faults of each pass where those before it have none
abbrev pub FaultOfLines : List ℕ → Fault → Type 0
FaultOfLines source f = lines_of source ≡ Err f

abbrev pub FaultOfMacros : List ℕ → Fault → Type 0
FaultOfMacros source f = (lines : List Line) × (lines_of source ≡ Ok lines) × (expanded lines ≡ Some (Err f))

abbrev pub FaultOfStatements : List ℕ → Fault → Type 0
FaultOfStatements source f = (text : List Line) × IsText source text × (names.least (names.faults_of text) ≡ Some f)

abbrev pub FaultOfValues : List ℕ → Fault → Type 0
FaultOfValues source f = (stmts : List Stmt) × AreSaid source stmts × (first_fault stmts ≡ Some f)

abbrev pub IsFirstFault : List ℕ → Fault → Type 0
IsFirstFault source f = FaultOfLines source f ⊎ (FaultOfMacros source f ⊎ (FaultOfStatements source f ⊎ FaultOfValues source f))

-- a source without a fault
abbrev pub IsFaultless : List ℕ → Type 0
IsFaultless source = (line code : ℕ) → ¬ IsFirstFault source (line, code)

-- the module of a source without a fault, whose pieces an object can number
pub record IsModule (source : List ℕ) (m : Object) : Type 0 where
  pub stmts : List Stmt
  pub said : AreSaid source stmts
  pub characters : list_all has_bytes stmts ≡ true
  pub sound : first_fault stmts ≡ None
  pub unlinked : UnlinkedModule
  pub collected : IsUnlinkedModuleOf stmts unlinked
  pub few : length (pieces_in unlinked) ≤ 65536
  pub made : IsModuleOf unlinked m

-- what assembling answers
abbrev pub IsAssembled : List ℕ → Result Object SourceFault → Type 0
IsAssembled source (Ok m) = IsModule source m
IsAssembled source (Err (faults.At line code)) = IsFirstFault source (line, code)
IsAssembled source (Err faults.NoMemory) = Unit {0}

-- the last pass over statements: their module, or the first fault
abbrev pub IsMade : List Stmt → Result Object Fault → Type 0
IsMade stmts (Ok m) =
    (d : UnlinkedModule) × (first_fault stmts ≡ None) × IsUnlinkedModuleOf stmts d × (length (pieces_in d) ≤ 65536) × IsModuleOf d m
IsMade stmts (Err f) = first_fault stmts ≡ Some f
