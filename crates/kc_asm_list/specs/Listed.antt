-- The listing of a source (this kit's own).
use Rattle.std.specs.Prelude.{◌≡◌, ◌⊎◌, ℕ, Bool, true, false, if◌then◌else◌, List, [], ◌∷◌, ◌++◌, Some, Result, Ok, Err}
use Rattle.std.specs.Global.{Vec}
use Rattle.kc_lex.specs.declared.token.Line.{Line}
use Rattle.kc_lex.specs.declared.fault.SourceFault.{SourceFault}
use Rattle.kc_lex.specs.declared.fault.SourceFault.TheVariants as faults
use Rattle.kc_lex.specs.Lines.{lines_of}
use Rattle.kc_macro.specs.Expansion.{expanded}
use Rattle.kc_asm_list.specs.Depths.{depths_of}
use Rattle.kc_source_statement.specs.declared.statement.Action.{Action}
use Rattle.kc_source_statement.specs.declared.statement.Action.TheVariants as action
use Rattle.kc_source_statement.specs.declared.statement.Stmt.{Stmt}
use Rattle.kc_source.specs.Faults.{Fault, AreStatements, faults_of, least}
use Rattle.kc_obj_module.specs.Object.{Object}
use Rattle.kc_asm_list.specs.declared.listed.Standing.{Standing}
use Rattle.kc_asm_list.specs.declared.spot.Spot.{Spot}
use Rattle.kc_asm_list.specs.Rows.{listing}
use Rattle.kc_asm_list.specs.Spots.{spots_of}

-- the lines of a source, and what they expand to
abbrev pub IsText : List ℕ → List Line → List Line → Type 0
IsText source lines text = (lines_of source ≡ Ok lines) × (expanded lines ≡ Some (Ok text))

-- the listing of a source with the bytes of a module
pub record IsListing (source : List ℕ) (m : Object) (listed : List ℕ) : Type 0 where
  pub lines : List Line
  pub text : List Line
  pub is_text : IsText source lines text
  pub depths : List ℕ
  pub deep : depths_of lines ≡ Some (Ok depths)
  pub stmts : List Stmt
  pub said : AreStatements stmts text
  pub reported : listed ≡ listing m source (spots_of text depths stmts)

-- a source without statements has a fault of its lines, of its macros, or of its statements and names
abbrev pub IsUnread : List ℕ → Fault → Type 0
IsUnread source f =
    (lines_of source ≡ Err f)
    ⊎ (((lines : List Line) × (lines_of source ≡ Ok lines) × (expanded lines ≡ Some (Err f)))
    ⊎ ((lines text : List Line) × IsText source lines text × (least (faults_of text) ≡ Some f)))

-- the first fault of a source, or that memory ran out
abbrev pub IsFaultOf : List ℕ → SourceFault → Type 0
IsFaultOf source (faults.At line code) = IsUnread source (line, code)
IsFaultOf source faults.NoMemory = Unit {0}

abbrev pub IsListed : List ℕ → Object → Result (Vec ℕ) SourceFault → Type 0
IsListed source m (Ok listed) = IsListing source m listed.items
IsListed source m (Err fault) = IsFaultOf source fault

-- ---- the instructions of a source

-- the statements of a source, and where they stand
pub record AreStanding (source : List ℕ) (spots : List Spot) (stmts : List Stmt) : Type 0 where
  pub lines : List Line
  pub text : List Line
  pub is_text : IsText source lines text
  pub depths : List ℕ
  pub deep : depths_of lines ≡ Some (Ok depths)
  pub said : AreStatements stmts text
  pub own : spots ≡ spots_of text depths stmts

abbrev pub IsStanding : List ℕ → Result Standing SourceFault → Type 0
IsStanding source (Ok read) = AreStanding source read.spots.items read.stmts.items
IsStanding source (Err fault) = IsFaultOf source fault

-- a statement is an instruction or a generic branch
abbrev pub is_operation : Action → Bool
is_operation (action.Operation name args) = true
is_operation _ = false

abbrev pub is_instruction : Stmt → Bool
is_instruction stmt = is_operation stmt.action

-- of the places of statements those of instructions
unfoldable pub instructions_of : List Spot → List Stmt → List Spot
instructions_of (spot ∷ spots) (stmt ∷ stmts) = (if is_instruction stmt then spot ∷ [] else []) ++ instructions_of spots stmts
instructions_of _ _ = []

-- where the instructions of a source stand
pub record AreInstructionsOf (source : List ℕ) (instructions : List Spot) : Type 0 where
  pub spots : List Spot
  pub stmts : List Stmt
  pub standing : AreStanding source spots stmts
  pub own : instructions ≡ instructions_of spots stmts

abbrev pub AreInstructions : List ℕ → Result (Vec Spot) SourceFault → Type 0
AreInstructions source (Ok instructions) = AreInstructionsOf source instructions.items
AreInstructions source (Err fault) = IsFaultOf source fault
