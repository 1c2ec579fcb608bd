-- The bytes of an image, written one after the other.
use Rattle.std.specs.Prelude.{◌≡◌, ℕ, zero, suc, ◌+◌, ◌-◌, ◌<◌, ◌≤◌, Some, None, List, [], ◌∷◌, ◌++◌, length, slice_get, slice_set, slice_index}
use Rattle.kc_base.specs.Limits.{image_start}
use Rattle.kc_obj_module.specs.declared.parts.Content.{Content}
use Rattle.kc_obj_module.specs.Object.{Object}
use Rattle.kc_obj_module.specs.Contents.{content_at}
use Rattle.kc_obj_module.specs.Numbers.{Bases}
use Rattle.kc_link_place.specs.BaseLists.{BaseLists, bases_in, or_0}
use Rattle.kc_link_place.specs.Filled.{filled_at, unfit_in}

unfoldable pub written : List ℕ → List (ℕ × ℕ) → List ℕ
written image [] = image
written image (w ∷ ws) = written (slice_set image w.0 w.1) ws

-- so many filled bytes of a piece from an offset on, each at its place of the image
unfoldable pub bytes_of : Bases → Object → ℕ → ℕ → ℕ → List (ℕ × ℕ)
bytes_of b m piece offset zero = []
bytes_of b m piece offset (suc count) = ((b.piece piece + offset) - image_start, or_0 (filled_at b m piece offset)) ∷ bytes_of b m piece (offset + 1) count

-- those of all runs of a module, and of all modules
unfoldable pub runs_of : Bases → Object → List Content → List (ℕ × ℕ)
runs_of b m [] = []
runs_of b m (c ∷ cs) = bytes_of b m c.piece c.offset (length c.bytes) ++ runs_of b m cs

unfoldable pub all_bytes : List Object → List BaseLists → List (ℕ × ℕ)
all_bytes [] bs = []
all_bytes (m ∷ ms) [] = []
all_bytes (m ∷ ms) (b ∷ bs) = runs_of (bases_in b) m m.contents ++ all_bytes ms bs

-- a run of the module stands in program memory, and its bytes are those of the module
pub record RunStands (b : Bases) (m : Object) (c : Content) : Type 0 where
  pub low : image_start ≤ b.piece c.piece + c.offset
  pub high : (b.piece c.piece + c.offset) + length c.bytes ≤ 65536
  pub bytes : (k : ℕ) → k < length c.bytes → content_at m.contents c.piece (c.offset + k) ≡ Some (slice_index c.bytes k)

abbrev pub RunsStand : Bases → Object → List Content → Type 0
RunsStand b m [] = Unit {0}
RunsStand b m (c ∷ cs) = RunStands b m c × RunsStand b m cs

-- each module's relocations fit, and its runs stand
abbrev pub ModulesStand : List Object → List BaseLists → Type 0
ModulesStand [] bs = Unit {0}
ModulesStand (m ∷ ms) [] = Unit {0}
ModulesStand (m ∷ ms) (b ∷ bs) = ((unfit_in (bases_in b) m.fixups ≡ None) × RunsStand (bases_in b) m m.contents) × ModulesStand ms bs

-- an image on which nothing is written
pub record IsBlank (image : List ℕ) : Type 0 where
  pub long : length image ≡ 0xE000
  pub empty : (place : ℕ) → place < 0xE000 → slice_get image place ≡ Some 255
