-- Laws of placing and filling, for those who reason about a linked image.
use Rattle.std.specs.Prelude.{◌≡◌, ℕ, Some, Ok, List, slice_get}
use Rattle.kc_obj_module.specs.declared.parts.Segment.{Segment}
use Rattle.kc_obj_module.specs.Object.{Object}
use Rattle.kc_link_place.specs.declared.ranges.Ranges.{Ranges}
use Rattle.kc_link_place.specs.Placing.{Places, base_at}
use Rattle.kc_link.specs.Placed.{placed}
use Rattle.kc_link.specs.Filled.{IsFilled, AllFit}

-- where pieces are placed, each relocation fits
abbrev pub RelocationsFit : Type 0
RelocationsFit = (ms : List Object) (ranges : Ranges) (places : Places) → placed ms ranges ≡ Ok places → AllFit ms places

-- an absolute piece stands at its address
abbrev pub AbsolutePiecesStand : Type 0
AbsolutePiecesStand = (ms : List Object) (ranges : Ranges) (places : Places) (i piece address : ℕ) (m : Object) (s : Segment) → placed ms ranges ≡ Ok places →
    slice_get ms i ≡ Some m → slice_get m.segments piece ≡ Some s → s.at ≡ Some address → base_at places.pieces i piece ≡ address

-- at most one image is filled
abbrev pub OneImage : Type 0
OneImage = (ms : List Object) (places : Places) (image other : List ℕ) → IsFilled ms places image → IsFilled ms places other → image ≡ other
