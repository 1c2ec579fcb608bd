-- An unlinked module has at most one module.
use Rattle.std.specs.Prelude.{◌≡◌}
use Rattle.kc_obj_module.specs.Object.{Object}
use Rattle.kc_asm_section.specs.declared.unlinked.UnlinkedModule.{UnlinkedModule}
use Rattle.kc_asm_section.specs.ModuleOf.{IsModuleOf}

abbrev pub OneModule : Type 0
OneModule = (d : UnlinkedModule) (m n : Object) → IsModuleOf d m → IsModuleOf d n → m ≡ n
