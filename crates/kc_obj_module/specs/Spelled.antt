-- A module and the bytes that are its one spelling (this kit's own format).
use Rattle.std.specs.Prelude.{◌≡◌, ℕ, true, List}
use Rattle.kc_obj_module.specs.Object.{Object}
use Rattle.kc_obj_module.specs.Rules.{is_module}
use Rattle.kc_obj_module.specs.Spelling.{spelling}
use Rattle.kc_obj_module.specs.Widths.{numbers_fit}

-- the module keeps the rules, and its numbers fit their fields
pub record IsSpelled (bytes : List ℕ) (m : Object) : Type 0 where
  pub sound : is_module m ≡ true
  pub numbers : numbers_fit m ≡ true
  pub spelled : spelling m ≡ bytes
