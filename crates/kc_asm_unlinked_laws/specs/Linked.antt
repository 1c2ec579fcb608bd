-- The image that is filled from the modules of unlinked modules holds the relocatable bytes of the unlinked modules
-- (after the MCS-96 Macro Assembler User's Guide, "Relocation").
use Rattle.std.specs.Prelude.{◌≡◌, ℕ, true, ◌+◌, ◌-◌, ◌<◌, ◌≤◌, Some, Ok, List, ◌++◌, length, drop, slice_get}
use Rattle.kc_base.specs.Limits.{image_start}
use Rattle.kc_expr.specs.declared.values.Value.{Value}
use Rattle.kc_obj_module.specs.Object.{Object}
use Rattle.kc_obj_module.specs.Numbers.{Bases, number, reach, fits}
use Rattle.kc_asm_encode.specs.declared.relocatable_byte.RelocatableByte.{RelocatableByte}
use Rattle.kc_asm_encode.specs.declared.relocatable_byte.RelocatableByte.TheVariants.{First}
use Rattle.kc_asm_encode.specs.Filling.{address, fill, filled}
use Rattle.kc_asm_section.specs.declared.unlinked.UnlinkedModule.{UnlinkedModule}
use Rattle.kc_asm_section.specs.Section.{Section, relocatable_byte_at}
use Rattle.kc_asm_section.specs.UnlinkedModules.{IsUnlinkedModule}
use Rattle.kc_asm_section.specs.ModuleOf.{IsModuleOf}
use Rattle.kc_link_place.specs.declared.ranges.Ranges.{Ranges}
use Rattle.kc_link_place.specs.Placing.{Places, bases_of}
use Rattle.kc_link.specs.Placed.{placed}
use Rattle.kc_link.specs.Filled.{IsFilled}
use Rattle.kc_asm_unlinked_laws.specs.Parts.{StandsIn, start, part_bases}
use Rattle.kc_asm_unlinked_laws.specs.Settled.{IsWhole, IsSettled}

-- ---- one unlinked module under the bases of its module

-- a relocatable byte stands in the image of program memory, at its place and filled
pub record IsHeld (image : List ℕ) (bases : Bases) (d : UnlinkedModule) (part offset : ℕ) (relocatable_byte : RelocatableByte) : Type 0 where
  pub within : image_start ≤ start bases d part + offset
  pub byte : slice_get image ((start bases d part + offset) - image_start) ≡ Some (fill (part_bases bases d) (start bases d part + offset) relocatable_byte)

-- each relocatable byte of an unlinked module does
pub record HoldsUnlinkedModule (image : List ℕ) (bases : Bases) (d : UnlinkedModule) : Type 0 where
  pub relocatable_bytes : (part offset : ℕ) (t : Section) (relocatable_byte : RelocatableByte) → StandsIn d part t offset relocatable_byte → IsHeld image bases d part offset relocatable_byte

-- relocatable bytes stand one after the other in a part, from an offset on
abbrev pub StandsFrom : UnlinkedModule → ℕ → ℕ → List RelocatableByte → Type 0
StandsFrom d part offset relocatable_bytes = (t : Section) × ((slice_get d.parts.items part ≡ Some t)
    × ((k : ℕ) (relocatable_byte : RelocatableByte) → slice_get relocatable_bytes k ≡ Some relocatable_byte → relocatable_byte_at t (offset + k) ≡ Some relocatable_byte))

-- from the place of an offset on the image reads as relocatable bytes, filled, and what is behind them
abbrev pub ReadsAs : List ℕ → Bases → UnlinkedModule → ℕ → ℕ → List RelocatableByte → Type 0
ReadsAs image bases d part offset relocatable_bytes =
    (rest : List ℕ) × (drop ((start bases d part + offset) - image_start) image ≡ filled (part_bases bases d) (start bases d part + offset) relocatable_bytes ++ rest)

-- each number of an unlinked module fits its bytes
pub record FitsUnlinkedModule (bases : Bases) (d : UnlinkedModule) : Type 0 where
  pub numbers : (part offset kind begin : ℕ) (t : Section) (v : Value) → StandsIn d part t offset (First kind begin v)
      → fits kind (number kind ((start bases d part + offset) + reach kind) (address (part_bases bases d) v)) ≡ true

-- each absolute part stands at its address
pub record StandsAbsolute (bases : Bases) (d : UnlinkedModule) : Type 0 where
  pub parts : (part address : ℕ) (t : Section) → slice_get d.parts.items part ≡ Some t → t.at ≡ Some address → start bases d part ≡ address

-- ---- all unlinked modules

-- modules are those of unlinked modules, in order
pub record AreModulesOf (ds : List UnlinkedModule) (ms : List Object) : Type 0 where
  pub count : length ds ≡ length ms
  pub are_unlinked_modules : (i : ℕ) (d : UnlinkedModule) → slice_get ds i ≡ Some d → IsUnlinkedModule d
  pub are_whole : (i : ℕ) (d : UnlinkedModule) → slice_get ds i ≡ Some d → IsWhole d
  pub of : (i : ℕ) (d : UnlinkedModule) (m : Object) → slice_get ds i ≡ Some d → slice_get ms i ≡ Some m → IsModuleOf d m

abbrev pub AreSettled : List UnlinkedModule → Type 0
AreSettled ds = (i : ℕ) (d : UnlinkedModule) → slice_get ds i ≡ Some d → IsSettled d

-- a relocatable byte of an unlinked module has a place of the image
pub record IsCovered (ds : List UnlinkedModule) (ms : List Object) (places : Places) (place : ℕ) : Type 0 where
  pub index : ℕ
  pub d : UnlinkedModule
  pub is_there : slice_get ds index ≡ Some d
  pub m : Object
  pub its_module : slice_get ms index ≡ Some m
  pub part : ℕ
  pub offset : ℕ
  pub t : Section
  pub relocatable_byte : RelocatableByte
  pub stands : StandsIn d part t offset relocatable_byte
  pub at : start (bases_of ms places index m) d part + offset ≡ image_start + place

-- the image holds each unlinked module, and FFH where none has a relocatable byte
pub record AreLinked (ds : List UnlinkedModule) (ms : List Object) (places : Places) (image : List ℕ) : Type 0 where
  pub long : length image ≡ 0xE000
  pub holds : (i : ℕ) (d : UnlinkedModule) (m : Object) → slice_get ds i ≡ Some d → slice_get ms i ≡ Some m
      → HoldsUnlinkedModule image (bases_of ms places i m) d
  pub blank : (place : ℕ) → place < 0xE000 → (IsCovered ds ms places place → ⊥) → slice_get image place ≡ Some 255

-- ---- laws

abbrev pub UnlinkedModulesAreLinked : Type 0
UnlinkedModulesAreLinked =
    (ds : List UnlinkedModule) (ms : List Object) (ranges : Ranges) (places : Places) (image : List ℕ)
    → AreModulesOf ds ms → placed ms ranges ≡ Ok places → IsFilled ms places image
    → AreLinked ds ms places image

-- what is held can be read in a row
abbrev pub HeldIsRead : Type 0
HeldIsRead =
    (image : List ℕ) (bases : Bases) (d : UnlinkedModule) (part offset : ℕ) (relocatable_bytes : List RelocatableByte)
    → HoldsUnlinkedModule image bases d → StandsFrom d part offset relocatable_bytes → ReadsAs image bases d part offset relocatable_bytes

abbrev pub NumbersFit : Type 0
NumbersFit =
    (ds : List UnlinkedModule) (ms : List Object) (ranges : Ranges) (places : Places)
    → AreModulesOf ds ms → AreSettled ds → placed ms ranges ≡ Ok places
    → (i : ℕ) (d : UnlinkedModule) (m : Object) → slice_get ds i ≡ Some d → slice_get ms i ≡ Some m
    → FitsUnlinkedModule (bases_of ms places i m) d

abbrev pub AbsolutePartsStand : Type 0
AbsolutePartsStand =
    (ds : List UnlinkedModule) (ms : List Object) (ranges : Ranges) (places : Places)
    → AreModulesOf ds ms → placed ms ranges ≡ Ok places
    → (i : ℕ) (d : UnlinkedModule) (m : Object) → slice_get ds i ≡ Some d → slice_get ms i ≡ Some m
    → StandsAbsolute (bases_of ms places i m) d
