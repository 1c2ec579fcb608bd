-- The places of modules with the bases of each module there, as a call of placing answers (this kit's own).
use Rattle.std.specs.Prelude.{◌≡◌, Result, Ok, Err, List}
use Rattle.kc_obj_module.specs.Object.{Object}
use Rattle.kc_link_place.specs.declared.ranges.Ranges.{Ranges}
use Rattle.kc_link_place.specs.declared.ranges.LinkFault.{LinkFault}
use Rattle.kc_link_place.specs.declared.placing.Placement.{Placement}
use Rattle.kc_link_place.specs.Placing.{Places, located, bases_from, IsCause}

-- the places, and the bases of each module at the places
abbrev pub IsPlacement : List Object → Result Places LinkFault → Placement → Type 0
IsPlacement ms placed p = (placed ≡ Ok p.places) × (p.bases.items ≡ bases_from ms p.places 0 ms)

-- the same, or the fault
abbrev pub IsAnswer : List Object → Result Places LinkFault → Result Placement LinkFault → Type 0
IsAnswer ms placed (Ok p) = IsPlacement ms placed p
IsAnswer ms placed (Err fault) = IsCause fault (placed ≡ Err fault)

-- the first broken rule, if there is one
abbrev pub IsLocated : List Object → Ranges → Result Placement LinkFault → Type 0
IsLocated ms ranges result = IsAnswer ms (located ms ranges) result
