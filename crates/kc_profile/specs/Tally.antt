-- The numbers of a profile (this kit's own).
use Rattle.std.specs.Prelude.{◌≡◌, ℕ, zero, suc, ◌+◌, List, [], ◌∷◌, ◌++◌, length, sum, slice_index}
use Rattle.kc_profile.specs.declared.spot.Spot.{Spot}
use Rattle.kc_profile.specs.declared.spot.Spot.TheVariants.{At, Entry, Server, Idle}
use Rattle.kc_profile.specs.Spots.{spent_at}

-- numbers of states: for each address, for the entry of each number, for the transfer server at the request of each number, and
-- for idling
pub record Tally : Type 0 where
  pub at : List ℕ
  pub entries : List ℕ
  pub server : List ℕ
  pub idle : ℕ

-- the number of a spot
abbrev pub number_of : Tally → Spot → ℕ
number_of t (At addr) = slice_index t.at addr
number_of t (Entry number) = slice_index t.entries number
number_of t (Server number) = slice_index t.server number
number_of t Idle = t.idle

-- the sum of all numbers
abbrev pub total : Tally → ℕ
total t = sum t.at + sum t.entries + sum t.server + t.idle

-- there is a number for each spot
pub record IsWhole (t : Tally) : Type 0 where
  pub at : length t.at ≡ 65536
  pub entries : length t.entries ≡ 256
  pub server : length t.server ≡ 256

-- the tally of some states: how many of them go to each spot, and all of them together
pub record IsTallyOf (spots : List Spot) (t : Tally) : Type 0 where
  pub whole : IsWhole t
  pub each : (spot : Spot) → number_of t spot ≡ spent_at spot spots
  pub sum : total t ≡ length spots

-- ---- several runs

-- numbers added to others, each to its own
unfoldable pub sums : List ℕ → List ℕ → List ℕ
sums (n ∷ ns) (m ∷ ms) = (n + m) ∷ sums ns ms
sums _ _ = []

abbrev pub both : Tally → Tally → Tally
both t later = record { at = sums t.at later.at; entries = sums t.entries later.entries; server = sums t.server later.server; idle = t.idle + later.idle }

-- ---- the same as a value

-- the numbers of the first so many spots of a kind
unfoldable pub numbers_for : (ℕ → Spot) → ℕ → List Spot → List ℕ
numbers_for kind zero spots = []
numbers_for kind (suc n) spots = numbers_for kind n spots ++ spent_at (kind n) spots ∷ []

abbrev pub tally_of : List Spot → Tally
tally_of spots = record {
  at = numbers_for At 65536 spots;
  entries = numbers_for Entry 256 spots;
  server = numbers_for Server 256 spots;
  idle = spent_at Idle spots;
}

-- the tally of some states is one
abbrev pub TalliesAreOne : Type 0
TalliesAreOne = (spots : List Spot) (t : Tally) → IsTallyOf spots t → t ≡ tally_of spots
