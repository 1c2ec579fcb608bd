-- The fields of a line of a text file: what stands between spaces, numbers, and names of pins (this kit's own).
use Rattle.std.specs.Prelude.{ℕ, ◌+◌, ◌-◌, ◌*◌, ◌==◌, if◌then◌else◌, Bool, Option, None, List, [], ◌∷◌, fold, length}
use Rattle.std.specs.List.{position_from, before_first, after_first}
use Rattle.std.specs.Str.{bytes_eq}
use Rattle.kc_base.specs.Digits.{digits_from, up_to}
use Rattle.kc_base.specs.Limits.{max_states}
use Rattle.kc_base.specs.Pins.{pin_names}

abbrev pub is_space : ℕ → Bool
is_space c = c == 32

-- what stands before the first space, and after it
abbrev pub first_of : List ℕ → List ℕ
first_of text = before_first is_space text

abbrev pub rest_of : List ℕ → List ℕ
rest_of text = after_first is_space text

-- what stands between the first and the second space, and after the second
abbrev pub second_of : List ℕ → List ℕ
second_of line = before_first is_space (after_first is_space line)

abbrev pub third_of : List ℕ → List ℕ
third_of line = after_first is_space (after_first is_space line)

abbrev pub decimal_value : List ℕ → ℕ
decimal_value digits = fold (λ n c. 10 * n + (c - 48)) 0 digits

-- decimal digits, this number at most
abbrev pub decimal_of : ℕ → List ℕ → Option ℕ
decimal_of most [] = None
decimal_of most (c ∷ digits) = up_to most (digits_from 10 0 (c ∷ digits))

-- a state time: decimal digits, as many states at most as a run may have
abbrev pub time_of : List ℕ → Option ℕ
time_of text = decimal_of max_states text

-- so many hex digits in either case, this number at most
abbrev pub hex_of : ℕ → ℕ → List ℕ → Option ℕ
hex_of count most text = if length text == count then up_to most (digits_from 16 0 text) else None

-- a word: four hex digits in either case
abbrev pub word_of : List ℕ → Option ℕ
word_of text = hex_of 4 0xFFFF text

-- a byte: two hex digits in either case
abbrev pub byte_of : List ℕ → Option ℕ
byte_of text = hex_of 2 0xFF text

-- the pin of a name
unfoldable pub pin_of : List ℕ → Option ℕ
pin_of text = position_from (λ name. bytes_eq name text) 0 pin_names
