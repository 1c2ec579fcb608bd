-- The law of the format: what is written of an image stands for that image (this kit's own).
use Rattle.std.specs.Prelude.{◌≡◌, ℕ, ◌<◌, List, length, slice_index, Ok}
use Rattle.kc_hex.specs.Records.{image_of}
use Rattle.kc_hex.specs.Spelling.{spelling}

-- the bytes from 2000H to FFFFH
pub record IsImage (image : List ℕ) : Type 0 where
  pub len : length image ≡ 57344
  pub bytes : (i : ℕ) → slice_index image i < 256

abbrev pub WrittenIsRead : Type 0
WrittenIsRead = (image : List ℕ) → IsImage image → image_of (spelling image) ≡ Ok image
