-- The unlinked module of a source without a fault can be made into a module, and its numbers fit.
use Rattle.std.specs.Prelude.{◌≡◌, ◌≤◌, List, length, None}
use Rattle.kc_source_statement.specs.declared.statement.Stmt.{Stmt}
use Rattle.kc_asm_symbols.specs.Reported.{AreReadWell}
use Rattle.kc_asm_section.specs.declared.unlinked.UnlinkedModule.{UnlinkedModule}
use Rattle.kc_asm_section.specs.UnlinkedModules.{IsUnlinkedModule}
use Rattle.kc_asm_section.specs.ModuleOf.{pieces_in}
use Rattle.kc_asm_unlinked_laws.specs.Settled.{IsWhole, IsSettled}
use Rattle.kc_asm_check.specs.Checking.{first_fault}
use Rattle.kc_asm_unlinked_laws.specs.Collecting.{IsUnlinkedModuleOf}

-- where an object can report its statements, and bytes stand in code
abbrev pub UnlinkedModulesAreUnlinked : Type 0
UnlinkedModulesAreUnlinked =
    (stmts : List Stmt) (d : UnlinkedModule) → AreReadWell stmts → first_fault stmts ≡ None → IsUnlinkedModuleOf stmts d
    → length (pieces_in d) ≤ 65536 → IsUnlinkedModule d

abbrev pub UnlinkedModulesAreWhole : Type 0
UnlinkedModulesAreWhole =
    (stmts : List Stmt) (d : UnlinkedModule) → first_fault stmts ≡ None → IsUnlinkedModuleOf stmts d → IsWhole d

abbrev pub UnlinkedModulesAreSettled : Type 0
UnlinkedModulesAreSettled =
    (stmts : List Stmt) (d : UnlinkedModule) → first_fault stmts ≡ None → IsUnlinkedModuleOf stmts d → IsSettled d
