-- The values of options (this kit's own).
use Rattle.std.specs.Prelude.{ℕ, ◌+◌, Bool, not, ◌&&◌, ◌||◌, ◌==◌, nat_lt, nat_le, List, codes, length, take, drop, slice_index, Option, Some, None, if◌then◌else◌}
use Rattle.std.specs.List.{position}
use Rattle.std.specs.Str.{bytes_eq}
-- the most state times that a run may have
pub use Rattle.kc_base.specs.Limits.{max_states}
use Rattle.kc_kit_words.specs.Number.{digits_from, up_to, from_one, number_of}

-- the name of a file: 1 to 255 bytes, of which the first is no `-`
abbrev pub is_name : List ℕ → Bool
is_name name = nat_lt 0 (length name) && nat_le (length name) 255 && not (slice_index name 0 == 45)

-- the word that stands for standard input
abbrev pub is_dash : List ℕ → Bool
is_dash word = bytes_eq word (codes "-")

-- the name of a trace that is read piece by piece: a file, or standard input
abbrev pub is_trace_name : List ℕ → Bool
is_trace_name name = is_name name || is_dash name

-- a number of state times
abbrev pub states_of : List ℕ → Option ℕ
states_of word = number_of max_states word

abbrev pub max_lives : ℕ
max_lives = 1000

-- a number of lives, in decimal digits
abbrev pub lives_of : List ℕ → Option ℕ
lives_of word = from_one (up_to max_lives (digits_from 10 0 word))

-- a number of bytes
abbrev pub length_of : List ℕ → Option ℕ
length_of word = number_of 65535 word

-- a word for an address: a number, a name, or a line of a module, of which files tell where they are. It has a byte or more, and its
-- first is no `-`
abbrev pub is_address : List ℕ → Bool
is_address word = nat_lt 0 (length word) && not (slice_index word 0 == 45)

-- a number of hertz, 1 or more
abbrev pub not_zero : Option ℕ → Option ℕ
not_zero (Some n) = if n == 0 then None else Some n
not_zero None = None

abbrev pub clock_of : List ℕ → Option ℕ
clock_of word = not_zero (number_of 4294967295 word)

-- ---- a range A-B: two numbers up to 65,535 round the only `-`

abbrev pub both : Option ℕ → Option ℕ → Option (ℕ × ℕ)
both (Some first) (Some last) = Some (first, last)
both (Some first) None = None
both None last = None

abbrev pub range_at : List ℕ → Option ℕ → Option (ℕ × ℕ)
range_at word (Some at) = both (number_of 65535 (take at word)) (number_of 65535 (drop (at + 1) word))
range_at word None = None

abbrev pub range_of : List ℕ → Option (ℕ × ℕ)
range_of word = range_at word (position (λ c. c == 45) word)
