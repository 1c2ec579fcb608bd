-- What placed modules have: an image, and a line map (this kit's own).
use Rattle.std.specs.Prelude.{◌≡◌, ℕ, true, Ok, List}
use Rattle.kc_obj_module.specs.Object.{Object}
use Rattle.kc_link_place.specs.declared.ranges.Ranges.{Ranges}
use Rattle.kc_link_place.specs.Ranges.{are_in_bounds}
use Rattle.kc_link_place.specs.Placing.{Places}
use Rattle.kc_link_place.specs.Apart.{AllKeepRules}
use Rattle.kc_link.specs.declared.lines.LineAt.{LineAt}
use Rattle.kc_link.specs.Placed.{placed}
use Rattle.kc_link.specs.Filled.{IsFilled}
use Rattle.kc_link.specs.LineMap.{IsLineMap}

-- modules that keep the rules of the format, at the places that no rule of the linker refuses
pub record ArePlaced (ms : List Object) (ranges : Ranges) (places : Places) : Type 0 where
  pub rules : AllKeepRules ms
  pub bounds : are_in_bounds ranges ≡ true
  pub placed : placed ms ranges ≡ Ok places

abbrev pub PlacedHaveImage : Type 0
PlacedHaveImage = (ms : List Object) (ranges : Ranges) (places : Places) → ArePlaced ms ranges places → (image : List ℕ) × IsFilled ms places image

abbrev pub PlacedHaveLines : Type 0
PlacedHaveLines = (ms : List Object) (ranges : Ranges) (places : Places) → ArePlaced ms ranges places → (entries : List LineAt) × IsLineMap ms places entries

-- and at most one
abbrev pub OneLineMap : Type 0
OneLineMap = (ms : List Object) (places : Places) (entries other : List LineAt) → IsLineMap ms places entries → IsLineMap ms places other → entries ≡ other
