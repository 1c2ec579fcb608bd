-- A module as seven values (this kit's own).
use Rattle.std.specs.Prelude.{ℕ, List, Option}
use Rattle.kc_obj_module.specs.declared.parts.Segment.{Segment}
use Rattle.kc_obj_module.specs.declared.parts.Taken.{Taken}
use Rattle.kc_obj_module.specs.declared.parts.Given.{Given}
use Rattle.kc_obj_module.specs.declared.parts.Content.{Content}
use Rattle.kc_obj_module.specs.declared.parts.Fixup.{Fixup}
use Rattle.kc_obj_module.specs.declared.parts.Lines.{Lines}

pub record Object : Type 0 where
  pub name : List ℕ
  pub segments : List Segment
  pub externals : List Taken
  pub publics : List Given
  pub contents : List Content
  pub fixups : List Fixup
  pub lines : Option (List Lines)

abbrev pub object_of : List ℕ → List Segment → List Taken → List Given → List Content → List Fixup → Option (List Lines) → Object
object_of name segments externals publics contents fixups lines =
    record { name = name; segments = segments; externals = externals; publics = publics; contents = contents; fixups = fixups; lines = lines }
