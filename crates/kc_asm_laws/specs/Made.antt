-- A text without a fault has a module, and placed modules of texts have an image and a line map (this kit's own).
use Rattle.std.specs.Prelude.{◌≡◌, ℕ, true, Some, Result, Ok, List, slice_get}
use Rattle.kc_source.specs.Faults.{Fault}
use Rattle.kc_obj_module.specs.Object.{Object}
use Rattle.kc_link_place.specs.declared.ranges.Ranges.{Ranges}
use Rattle.kc_link_place.specs.Ranges.{are_in_bounds}
use Rattle.kc_link_place.specs.Placing.{Places}
use Rattle.kc_link.specs.declared.lines.LineAt.{LineAt}
use Rattle.kc_link.specs.Placed.{placed}
use Rattle.kc_link.specs.Filled.{IsFilled}
use Rattle.kc_link.specs.LineMap.{IsLineMap}
use Rattle.kc_asm.specs.Assembled.{IsFaultless, IsModule}
use Rattle.kc_asm_laws.specs.Modules.{IsAnswer}
use Rattle.kc_asm_laws.specs.Images.{AreModulesOf}

abbrev pub TextsHaveModules : Type 0
TextsHaveModules = (text : List ℕ) → IsFaultless text → (m : Object) × IsModule text m

-- each text has a module or a first fault
abbrev pub TextsAreAnswered : Type 0
TextsAreAnswered = (text : List ℕ) → (answer : Result Object Fault) × IsAnswer text answer

-- modules, at the places that no rule of the linker refuses
pub record AreLinked (ms : List Object) (places : Places) : Type 0 where
  pub image : List ℕ
  pub is_filled : IsFilled ms places image
  pub entries : List LineAt
  pub is_line_map : IsLineMap ms places entries

abbrev pub AreFaultless : List (List ℕ) → Type 0
AreFaultless texts = (i : ℕ) (text : List ℕ) → slice_get texts i ≡ Some text → IsFaultless text

abbrev pub TextsAreLinked : Type 0
TextsAreLinked =
    (texts : List (List ℕ)) (ranges : Ranges) → are_in_bounds ranges ≡ true → AreFaultless texts
    → (ms : List Object) × AreModulesOf texts ms × ((places : Places) → placed ms ranges ≡ Ok places → AreLinked ms places)
