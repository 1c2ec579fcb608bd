-- A listing of an image: a line for each instruction from an address on, or for one byte where none is whole
-- (this kit's own; the texts of instructions are those of kc_code).
use Rattle.std.specs.Prelude.{◌≡◌, true, ℕ, zero, suc, ◌+◌, ◌-◌, ◌/◌, ◌%◌, nat_le, if◌then◌else◌, List, [], ◌∷◌, ◌++◌, codes, take, drop, flat_map, slice_index}
use Rattle.kc_code.specs.declared.reader.Decoded.{Decoded}
use Rattle.kc_code.specs.declared.reader.Decoded.TheVariants.{Insn as Whole, Unimplemented, Undefined, Short}
use Rattle.kc_code.specs.Reading.{decode_of}
use Rattle.kc_isa.specs.Formed.{is_formed}
use Rattle.kc_base.specs.Digits.{hex_digit}
use Rattle.kc_base.specs.Limits.{image_start}
use Rattle.kc_code.specs.Text.{byte_text, text_of}

-- the bytes from an address on
abbrev pub bytes_from : List ℕ → ℕ → List ℕ
bytes_from image at = drop (at - image_start) image

-- how many bytes a line takes
abbrev pub count_of : Decoded → ℕ
count_of (Whole insn n) = n
count_of Unimplemented = 1
count_of Undefined = 1
count_of Short = 1

-- an instruction, or a byte as data
abbrev pub words_of : Decoded → ℕ → ℕ → List ℕ
words_of (Whole insn n) at byte = text_of insn at
words_of Unimplemented at byte = codes "DCB " ++ byte_text byte
words_of Undefined at byte = codes "DCB " ++ byte_text byte
words_of Short at byte = codes "DCB " ++ byte_text byte

-- two upper-case hexadecimal digits
abbrev pub pair : ℕ → List ℕ
pair n = hex_digit (n / 16) ∷ hex_digit (n % 16) ∷ []

abbrev pub address_text : ℕ → List ℕ
address_text at = pair (at / 256) ++ pair (at % 256)

-- the address, the bytes and the words
abbrev pub line_by : List ℕ → ℕ → Decoded → List ℕ
line_by bytes at found =
    address_text at ++ codes " " ++ flat_map pair (take (count_of found) bytes) ++ codes " " ++ words_of found at (slice_index bytes 0) ++ codes "\n"

unfoldable pub line_at : List ℕ → ℕ → List ℕ
line_at image at = line_by (bytes_from image at) at (decode_of (bytes_from image at))

unfoldable pub next_after : List ℕ → ℕ → ℕ
next_after image at = at + count_of (decode_of (bytes_from image at))

-- so many lines at most, while the address is at most the last
unfoldable pub lines_from : ℕ → List ℕ → ℕ → ℕ → List ℕ
lines_from zero image at last = []
lines_from (suc n) image at last = if nat_le at last then line_at image at ++ lines_from n image (next_after image at) last else []

-- a line takes a byte at least
abbrev pub listing : List ℕ → ℕ → ℕ → List ℕ
listing image first last = lines_from (last + 1 - first) image first last

-- an instruction that was found is well formed
abbrev pub IsFormedWhole : Decoded → Type 0
IsFormedWhole (Whole insn n) = is_formed insn ≡ true
IsFormedWhole Unimplemented = Unit {0}
IsFormedWhole Undefined = Unit {0}
IsFormedWhole Short = Unit {0}
