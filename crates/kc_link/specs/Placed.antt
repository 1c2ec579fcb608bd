-- Where all pieces stand, or the first broken rule of the linker, the range of relocations among them (after RL96 of the MCS-96
-- utilities, in outline; the order of the rules is this kit's own).
use Rattle.std.specs.Prelude.{◌≡◌, ℕ, ◌+◌, true, Option, Some, None, Result, Ok, Err, List, [], ◌∷◌}
use Rattle.std.specs.Option.{option_or}
use Rattle.kc_obj_module.specs.declared.parts.Fixup.{Fixup}
use Rattle.kc_obj_module.specs.Object.{Object}
use Rattle.kc_link_place.specs.BaseLists.{BaseLists, bases_in}
use Rattle.kc_link_place.specs.Filled.{unfit_in}
use Rattle.kc_link_place.specs.declared.ranges.Ranges.{Ranges}
use Rattle.kc_link_place.specs.declared.ranges.LinkFault.{LinkFault}
use Rattle.kc_link_place.specs.declared.ranges.LinkFault.TheVariants.{Range}
use Rattle.kc_link_place.specs.declared.placing.Placement.{Placement}
use Rattle.kc_link_place.specs.Ranges.{are_in_bounds}
use Rattle.kc_link_place.specs.Placing.{Places, located, bases_of}
use Rattle.kc_link_place.specs.Placements.{IsPlacement}

-- a relocation whose number does not fit
abbrev pub range_fault : ℕ → Option Fixup → Option LinkFault
range_fault index None = None
range_fault index (Some f) = Some (Range index f.piece f.offset)

-- the first of them, by module and then by order
unfoldable pub unfit : List Object → Places → ℕ → List Object → Option LinkFault
unfit all places index [] = None
unfit all places index (m ∷ ms) = option_or (range_fault index (unfit_in (bases_of all places index m) m.fixups)) (unfit all places (index + 1) ms)

abbrev pub or_fault : Option LinkFault → Places → Result Places LinkFault
or_fault None places = Ok places
or_fault (Some fault) places = Err fault

abbrev pub with_places : List Object → Result Places LinkFault → Result Places LinkFault
with_places ms (Err fault) = Err fault
with_places ms (Ok places) = or_fault (unfit ms places 0 ms) places

-- the places of all pieces, or the first broken rule
unfoldable pub placed : List Object → Ranges → Result Places LinkFault
placed ms ranges = with_places ms (located ms ranges)

-- the placement is that of the modules in some ranges within their bounds, with no rule broken
pub record ArePlacedAt (ms : List Object) (p : Placement) : Type 0 where
  pub ranges : Ranges
  pub in_bounds : are_in_bounds ranges ≡ true
  pub placement : IsPlacement ms (placed ms ranges) p

-- the same by the bases of each module
unfoldable pub unfit_by : ℕ → List Object → List BaseLists → Option LinkFault
unfit_by index [] bs = None
unfit_by index (m ∷ ms) [] = None
unfit_by index (m ∷ ms) (b ∷ bs) = option_or (range_fault index (unfit_in (bases_in b) m.fixups)) (unfit_by (index + 1) ms bs)
