-- Code pieces that are placed stand in program memory, no two at one address.
use Rattle.std.specs.Prelude.{◌≡◌, ℕ, ◌+◌, ◌<◌, ◌≤◌, true, Some, Ok, List, slice_get}
use Rattle.kc_base.specs.Limits.{image_start}
use Rattle.kc_obj_module.specs.declared.parts.SegKind.TheVariants.{Code}
use Rattle.kc_obj_module.specs.declared.parts.Segment.{Segment}
use Rattle.kc_obj_module.specs.Object.{Object}
use Rattle.kc_obj_module.specs.Rules.{is_module}
use Rattle.kc_link_place.specs.declared.ranges.Ranges.{Ranges}
use Rattle.kc_link_place.specs.Ranges.{are_in_bounds}
use Rattle.kc_link_place.specs.Placing.{Places, located, base_at}

-- an address is one of a code piece of a module
pub record CodeAt (ms : List Object) (places : Places) (index number address : ℕ) : Type 0 where
  pub m : Object
  pub is_there : slice_get ms index ≡ Some m
  pub segment : Segment
  pub in_module : slice_get m.segments number ≡ Some segment
  pub is_code : segment.kind ≡ Code
  pub from : base_at places.pieces index number ≤ address
  pub to : address < base_at places.pieces index number + segment.length

abbrev pub AllKeepRules : List Object → Type 0
AllKeepRules ms = (i : ℕ) (m : Object) → slice_get ms i ≡ Some m → is_module m ≡ true

pub record CodeIsApart (ms : List Object) (places : Places) : Type 0 where
  pub within : (i p a : ℕ) → CodeAt ms places i p a → (image_start ≤ a) × (a < 65536)
  pub apart : (i p j q a : ℕ) → CodeAt ms places i p a → CodeAt ms places j q a → (i ≡ j) × (p ≡ q)

abbrev pub CodeStandsApart : Type 0
CodeStandsApart = (ms : List Object) (ranges : Ranges) (places : Places) → AllKeepRules ms → are_in_bounds ranges ≡ true → located ms ranges ≡ Ok places → CodeIsApart ms places
