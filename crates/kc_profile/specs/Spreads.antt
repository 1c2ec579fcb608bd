-- Some numbers, each with the time at which it came, in four: how many, the least, the greatest, and when the first that is the
-- greatest came (this kit's own).
use Rattle.std.specs.Prelude.{◌≡◌, ℕ, ◌+◌, ◌≤◌, ◌<◌, nat_lt, min, max, if◌then◌else◌, List, [], ◌∷◌, ◌++◌, length, Option, Some, None, All, IfSome}
use Rattle.kc_profile.specs.declared.spread.Moment.{Moment}
use Rattle.kc_profile.specs.declared.spread.Spread.{Spread}

-- a number, and when it came
abbrev pub Dated : Type 0
Dated = ℕ × Moment

abbrev pub one : ℕ → Moment → Spread
one number when = record { count = 1; least = number; greatest = number; when = when }

-- numbers and later ones
abbrev pub both : Spread → Spread → Spread
both earlier later = record {
  count = earlier.count + later.count;
  least = min earlier.least later.least;
  greatest = max earlier.greatest later.greatest;
  when = if nat_lt earlier.greatest later.greatest then later.when else earlier.when;
}

abbrev pub together : Option Spread → Option Spread → Option Spread
together None later = later
together (Some earlier) None = Some earlier
together (Some earlier) (Some later) = Some (both earlier later)

abbrev pub with_number : ℕ → Moment → Option Spread → Spread
with_number number when None = one number when
with_number number when (Some earlier) = both earlier (one number when)

-- the spread of numbers, the last of which comes first; none of no number
unfoldable pub spread_of : List Dated → Option Spread
spread_of [] = None
spread_of (last ∷ earlier) = Some (with_number last.0 last.1 (spread_of earlier))

-- at most so many numbers
abbrev pub AreFew : ℕ → Option Spread → Type 0
AreFew limit spread = IfSome spread (λ s. s.count ≤ limit)

-- ---- the same in words

-- a number is one of some
pub record IsAmong (number : ℕ) (numbers : List Dated) : Type 0 where
  pub before : List Dated
  pub after : List Dated
  pub when : Moment
  pub stands : numbers ≡ before ++ (number, when) ∷ after

-- the greatest came then, and no number before was as great; the last comes first
pub record IsFirst (greatest : ℕ) (when : Moment) (numbers : List Dated) : Type 0 where
  pub later : List Dated
  pub earlier : List Dated
  pub stands : numbers ≡ later ++ (greatest, when) ∷ earlier
  pub less : All (λ (number : Dated). number.0 < greatest) earlier

-- how many, none is less than the least or more than the greatest, the least is one of them, and the greatest came first then
pub record IsSpread (numbers : List Dated) (s : Spread) : Type 0 where
  pub count : s.count ≡ length numbers
  pub low : All (λ (number : Dated). s.least ≤ number.0) numbers
  pub high : All (λ (number : Dated). number.0 ≤ s.greatest) numbers
  pub least : IsAmong s.least numbers
  pub first : IsFirst s.greatest s.when numbers

-- the spread of some numbers is one
abbrev pub SpreadsAreOfAll : Type 0
SpreadsAreOfAll = (numbers : List Dated) (s : Spread) → spread_of numbers ≡ Some s → IsSpread numbers s
