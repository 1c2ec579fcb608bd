-- Numbers as they are written: decimal digits, or hex digits and `H` that begin with a decimal digit (this kit's own).
use Rattle.std.specs.Prelude.{ℕ, ◌-◌, Bool, ◌&&◌, List, length, take, Option, Some, None, if◌then◌else◌, ◌==◌, nat_lt, nat_le, slice_index}
-- digits that are read, and a limit of what they may come to
pub use Rattle.kc_base.specs.Digits.{digit_of, digits_from, up_to}

-- 0 is none
abbrev pub from_one : Option ℕ → Option ℕ
from_one (Some n) = if nat_le 1 n then Some n else None
from_one None = None

-- the text ends by `H`
abbrev pub is_hex : List ℕ → Bool
is_hex text = slice_index text (length text - 1) == 72

-- the number that a text stands for, up to a limit
abbrev pub number_of : ℕ → List ℕ → Option ℕ
number_of limit text =
    if nat_lt (digit_of (slice_index text 0)) 10 && nat_lt 0 (length text)
    then up_to limit (if is_hex text then digits_from 16 0 (take (length text - 1) text) else digits_from 10 0 text)
    else None
