-- Records of Intel hex and the image that a text of them stands for
-- (the Intel hexadecimal object file format, which the MCS-96 utilities write; the codes of faults are this kit's own).
use Rattle.std.specs.Prelude.{◌≡◌, ℕ, ◌+◌, ◌-◌, ◌*◌, ◌%◌, Bool, false, not, ◌&&◌, ◌||◌, ◌==◌, nat_le, if◌then◌else◌, List, [], ◌∷◌, ◌++◌, length, take, drop, sum, replicate, Option, Some, None, Result, Ok, Err, slice_index}
use Rattle.hex.specs.declared.FromHexError.{FromHexError}
use Rattle.hex.specs.Hex.{decode_of}
use Rattle.kc_base.specs.Limits.{image_start}
use Rattle.kc_base.specs.TextLines.{text_lines}
use Rattle.kc_base.specs.declared.image.Image.{Image}
use Rattle.kc_hex.specs.declared.fault.HexCode.{HexCode}
use Rattle.kc_hex.specs.declared.fault.HexCode.TheVariants as codes
use Rattle.kc_hex.specs.declared.fault.HexFault.{HexFault}
use Rattle.kc_hex.specs.declared.fault.HexFault.TheVariants as faults
use Rattle.kc_hex.specs.Codes.{code_number}

-- ---- a record: length, address (2, high byte first), type, data and checksum

abbrev pub data_of : List ℕ → List ℕ
data_of bs = take (length bs - 5) (drop 4 bs)

abbrev pub address_of : List ℕ → ℕ
address_of bs = 256 * slice_index bs 1 + slice_index bs 2

-- the length that the first byte gives is that of the data
abbrev pub whole : Result (List ℕ) FromHexError → Option (List ℕ)
whole (Err e) = None
whole (Ok bs) = if nat_le 5 (length bs) && (length bs == slice_index bs 0 + 5) then Some bs else None

-- a line of the form of a record: a colon (58), and two digits for each byte
unfoldable pub record_of : List ℕ → Option (List ℕ)
record_of [] = None
record_of (c ∷ digits) = if c == 58 then whole (decode_of digits) else None

-- data, the end, a base of 0, or a start
abbrev pub is_known : ℕ → List ℕ → Bool
is_known kind body =
    (kind == 0) || ((kind == 1) && (length body == 0)) || (((kind == 2) || (kind == 4)) && (length body == 2) && (slice_index body 0 + slice_index body 1 == 0)) || (kind == 3) || (kind == 5)

-- within the image
abbrev pub is_inside : ℕ → ℕ → Bool
is_inside address len = nat_le image_start address && nat_le (address + len) 0x10000

-- the least code of a record's faults
unfoldable pub fault_of : Bool → List ℕ → Option HexCode
fault_of ended bs =
    if not (sum bs % 256 == 0) then Some codes.Checksum
    else (if not (is_known (slice_index bs 3) (data_of bs)) then Some codes.Type
    else (if (slice_index bs 3 == 0) && not (is_inside (address_of bs) (length (data_of bs))) then Some codes.Address
    else (if ended then Some codes.Behind else None)))

-- ---- what a text stands for

-- the image so far, and whether the end was read
abbrev pub State : Type 0
State = List ℕ × Bool

abbrev pub put : List ℕ → ℕ → List ℕ → List ℕ
put image at body = take at image ++ body ++ drop (at + length body) image

abbrev pub after_record : State → List ℕ → State
after_record s bs =
    if slice_index bs 3 == 0 then (put s.0 (address_of bs - image_start) (data_of bs), s.1)
    else (s.0, s.1 || (slice_index bs 3 == 1))

abbrev pub checked : Option HexCode → State → Result State HexCode
checked None s = Ok s
checked (Some code) s = Err code

abbrev pub recorded : State → Option (List ℕ) → Result State HexCode
recorded s None = Err codes.Form
recorded s (Some bs) = checked (fault_of s.1 bs) (after_record s bs)

-- a blank line has no effect
unfoldable pub after_line : State → List ℕ → Result State HexCode
after_line s line = if length line == 0 then Ok s else recorded s (record_of line)

-- an image, or the line of the first fault and the number of its code
abbrev pub Answer : Type 0
Answer = Result (List ℕ) (ℕ × ℕ)

abbrev pub read_on : ℕ → (State → Answer) → Result State HexCode → Answer
read_on number goes_on (Ok s) = goes_on s
read_on number goes_on (Err code) = Err (number, code_number code)

-- that there is no end is reported at the line after the last
unfoldable pub read_from : ℕ → List (List ℕ) → State → Answer
read_from number [] s = if s.1 then Ok s.0 else Err (number, code_number codes.NoEnd)
read_from number (l ∷ ls) s = read_on number (read_from (number + 1) ls) (after_line s l)

-- the image of a text: FFH where no record says otherwise, later records over earlier ones
abbrev pub image_of : List ℕ → Answer
image_of text = read_from 1 (text_lines text) (replicate 57344 0xFF, false)

-- what a call answers
abbrev pub IsRead : Result Image HexFault → Answer → Type 0
IsRead (Ok image) answer = answer ≡ Ok image
IsRead (Err (faults.At line code)) answer = answer ≡ Err (line, code)
IsRead (Err faults.NoMemory) answer = Unit {0}
