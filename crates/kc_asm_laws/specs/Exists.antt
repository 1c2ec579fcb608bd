-- A text without a fault has a module (this kit's own).
use Rattle.std.specs.Prelude.{◌≡◌, ℕ, List, None}
use Rattle.kc_lex.specs.declared.token.Line.{Line}
use Rattle.kc_source_statement.specs.declared.statement.Stmt.{Stmt}
use Rattle.kc_source.specs.Faults.{least, faults_of}
use Rattle.kc_obj_module.specs.Object.{Object}
use Rattle.kc_asm_section.specs.declared.unlinked.UnlinkedModule.{UnlinkedModule}
use Rattle.kc_asm_unlinked_laws.specs.Collecting.{IsUnlinkedModuleOf}
use Rattle.kc_asm.specs.Assembled.{IsText, AreSaid, IsFaultless, IsModule}

-- the lines that macros, repetitions and conditions leave of it, of which none has a fault
abbrev pub FaultlessAreRead : Type 0
FaultlessAreRead = (text : List ℕ) → IsFaultless text → (lines : List Line) × IsText text lines × (least (faults_of lines) ≡ None)

-- each unlinked module of what a text without a fault says has a module, which is the module of the text
abbrev pub FaultlessHaveModules : Type 0
FaultlessHaveModules =
    (text : List ℕ) (stmts : List Stmt) (d : UnlinkedModule) → IsFaultless text → AreSaid text stmts → IsUnlinkedModuleOf stmts d → (m : Object) × IsModule text m
