-- Digits as characters (ASCII), and the numbers that they spell.
use Rattle.std.specs.Prelude.{ℕ, zero, suc, ◌+◌, ◌-◌, ◌*◌, ◌/◌, ◌%◌, nat_lt, nat_le, Bool, ◌&&◌, if◌then◌else◌, Option, Some, None, List, [], ◌∷◌, ◌++◌}

-- an upper-case hexadecimal digit
abbrev pub hex_digit : ℕ → ℕ
hex_digit n = if nat_lt n 10 then n + 48 else n + 55

-- a number as so many of them
abbrev pub hex : ℕ → ℕ → List ℕ
hex zero n = []
hex (suc digits) n = hex digits (n / 16) ++ hex_digit (n % 16) ∷ []

-- ---- digits that are read

abbrev pub is_from : ℕ → ℕ → ℕ → Bool
is_from first last c = nat_le first c && nat_le c last

-- what a digit stands for, letters in either case; a number of 16 or more is no digit
abbrev pub digit_of : ℕ → ℕ
digit_of c =
    if is_from 48 57 c then c - 48
    else if is_from 65 70 c then c - 55
    else if is_from 97 102 c then c - 87
    else 16

-- the number that goes on with these digits
abbrev pub digits_from : ℕ → ℕ → List ℕ → Option ℕ
digits_from base so_far [] = Some so_far
digits_from base so_far (c ∷ cs) = if nat_lt (digit_of c) base then digits_from base (so_far * base + digit_of c) cs else None

-- a number above the limit is none
abbrev pub up_to : ℕ → Option ℕ → Option ℕ
up_to limit (Some n) = if nat_le n limit then Some n else None
up_to limit None = None
