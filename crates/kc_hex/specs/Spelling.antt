-- The one spelling of an image as Intel hex
-- (the Intel hexadecimal object file format; rows of 16 bytes without those of FFH only are this kit's own).
use Rattle.std.specs.Prelude.{ℕ, zero, suc, ◌+◌, ◌-◌, ◌/◌, ◌%◌, ◌==◌, if◌then◌else◌, List, [], ◌∷◌, ◌++◌, length, take, drop, sum, codes}
use Rattle.std.specs.List.{list_all}
use Rattle.hex.specs.Hex.{encode_upper}
use Rattle.kc_base.specs.Limits.{image_start}

-- what makes the sum 0 modulo 256
abbrev pub checksum : List ℕ → ℕ
checksum bs = (256 - sum bs % 256) % 256

-- a colon (58), the digits, and the end of the line (10)
abbrev pub record_text : List ℕ → List ℕ
record_text bs = 58 ∷ (encode_upper (bs ++ checksum bs ∷ []) ++ 10 ∷ [])

abbrev pub data_bytes : ℕ → List ℕ → List ℕ
data_bytes address body = (length body ∷ address / 256 ∷ address % 256 ∷ 0 ∷ []) ++ body

-- a row of FFH only is left out
unfoldable pub row_text : ℕ → List ℕ → List ℕ
row_text address body = if list_all (λ b. b == 0xFF) body then [] else record_text (data_bytes address body)

-- n rows of 16 bytes, from an address on
unfoldable pub rows : ℕ → ℕ → List ℕ → List ℕ
rows zero address image = []
rows (suc n) address image = row_text address (take 16 image) ++ rows n (address + 16) (drop 16 image)

abbrev pub spelling : List ℕ → List ℕ
spelling image = rows 3584 image_start image ++ (codes ":00000001FF" ++ 10 ∷ [])
