-- The image: contents at their places, filled by relocations, and FFH elsewhere.
use Rattle.std.specs.Prelude.{◌≡◌, ℕ, true, ◌+◌, ◌<◌, ◌≤◌, Some, Ok, Err, Result, List, length, slice_get}
use Rattle.kc_base.specs.Limits.{image_start}
use Rattle.kc_obj_module.specs.declared.parts.Fixup.{Fixup}
use Rattle.kc_obj_module.specs.Object.{Object}
use Rattle.kc_obj_module.specs.Numbers.{fits}
use Rattle.kc_obj_module.specs.Fixups.{fixup_at}
use Rattle.kc_link_place.specs.Filled.{fixup_number, filled_at}
use Rattle.kc_link_place.specs.declared.ranges.Ranges.{Ranges}
use Rattle.kc_link_place.specs.declared.ranges.LinkFault.{LinkFault}
use Rattle.kc_link_place.specs.Placing.{Places, bases_of, IsCause}
use Rattle.kc_link.specs.Placed.{placed}

-- a byte of a module stands at a place of the image
pub record StandsAt (modules : List Object) (places : Places) (place : ℕ) : Type 0 where
  pub index : ℕ
  pub m : Object
  pub is_there : slice_get modules index ≡ Some m
  pub piece : ℕ
  pub offset : ℕ
  pub value : ℕ
  pub stands : filled_at (bases_of modules places index m) m piece offset ≡ Some value
  pub at : (bases_of modules places index m).piece piece + offset ≡ image_start + place

pub record IsFilled (modules : List Object) (places : Places) (image : List ℕ) : Type 0 where
  pub long : length image ≡ 0xE000
  pub within : (i piece offset value : ℕ) (m : Object) → slice_get modules i ≡ Some m → filled_at (bases_of modules places i m) m piece offset ≡ Some value → image_start ≤ (bases_of modules places i m).piece piece + offset
  pub stands : (place : ℕ) (s : StandsAt modules places place) → slice_get image place ≡ Some s.value
  pub blank : (place : ℕ) → place < 0xE000 → (StandsAt modules places place → ⊥) → slice_get image place ≡ Some 255

-- the number of each relocation fits
pub record AllFit (modules : List Object) (places : Places) : Type 0 where
  pub fit : (i piece offset : ℕ) (m : Object) (f : Fixup) → slice_get modules i ≡ Some m → fixup_at m.fixups piece offset ≡ Some f →
      fits f.kind (fixup_number (bases_of modules places i m) ((bases_of modules places i m).piece piece + offset) f) ≡ true

-- what linking answers: the filled image at the places, or the first broken rule
abbrev pub IsImage : List Object → Ranges → Result (List ℕ) LinkFault → Type 0
IsImage ms ranges (Ok image) = (places : Places) × ((placed ms ranges ≡ Ok places) × IsFilled ms places image)
IsImage ms ranges (Err fault) = IsCause fault (placed ms ranges ≡ Err fault)
