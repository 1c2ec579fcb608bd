-- How a text from outside stands on standard error, where it can neither end a line nor reach what a terminal acts on (this kit's
-- own): a byte below a space, and 7FH, by its number, as `\x1B`. The LF that ends a line of a diagnostic is the note's own.
use Rattle.std.specs.Prelude.{ℕ, ◌+◌, ◌-◌, ◌==◌, Bool, ◌||◌, ◌&&◌, nat_lt, nat_le, List, [], ◌∷◌, ◌++◌, codes, length, take, if◌then◌else◌}
use Rattle.kc_base.specs.Digits.{hex}

abbrev pub is_control : ℕ → Bool
is_control byte = nat_lt byte 32 || (byte == 127)

abbrev pub shown_byte : ℕ → List ℕ
shown_byte byte = if is_control byte then codes "\\x" ++ hex 2 byte else byte ∷ []

abbrev pub shown : List ℕ → List ℕ
shown [] = []
shown (byte ∷ bytes) = shown_byte byte ++ shown bytes

-- ---- a word that was given, cut behind its 80th character

-- a byte of a character of UTF-8 that is not its first
abbrev pub is_inner : ℕ → Bool
is_inner byte = nat_le 128 byte && nat_lt byte 192

-- how many bytes the first characters have, so many
abbrev pub bytes_of_first : ℕ → List ℕ → ℕ
bytes_of_first count [] = 0
bytes_of_first count (byte ∷ bytes) =
    if is_inner byte then bytes_of_first count bytes + 1 else if count == 0 then 0 else bytes_of_first (count - 1) bytes + 1

-- a text that is cut behind so many of its bytes
abbrev pub cut_at : ℕ → List ℕ → List ℕ
cut_at end word = shown (take end word) ++ (if nat_lt end (length word) then codes ".." else [])

abbrev pub word_shown : List ℕ → List ℕ
word_shown word = cut_at (bytes_of_first 80 word) word
