-- The statistics of a run: of its requests, of its stack, and of the instructions that it has done (this kit's
-- own). Of states the last comes first.
use Rattle.std.specs.Prelude.{◌≡◌, ℕ, zero, suc, ◌+◌, ◌<◌, ◌≤◌, ◌==◌, nat_le, ◌^◌, Bool, true, false, ◌&&◌, if◌then◌else◌, List, [], ◌∷◌, ◌++◌, length, count_by, slice_index, slice_index_or, slice_set, Option, Some, None, All}
use Rattle.kc_profile.specs.declared.sight.Sight.{Sight}
use Rattle.kc_profile.specs.declared.sight.Way.{Way}
use Rattle.kc_profile.specs.declared.sight.Way.TheVariants.{Taken, Passed}
use Rattle.kc_profile.specs.declared.spread.Moment.{Moment}
use Rattle.kc_profile.specs.declared.statistics.Depth.{Depth}
use Rattle.kc_profile.specs.declared.waits.Waits.{Waits}
use Rattle.kc_profile.specs.Sights.{hits, way, moves_stack}
use Rattle.kc_profile.specs.Tally.{sums}
use Rattle.kc_profile.specs.Waits.{AreFewWaits, AreWaitsOf, added, came, handed_after, latencies, missed, moment, no_waits, pending_after, see, services}
use Rattle.kc_profile.specs.Spreads.{spread_of}

-- statistics: of each of the 16 requests, the least value to which the stack pointer was moved, and for each address how often an
-- instruction was done there, and how often a conditional jump was taken and how often not
pub record Statistics : Type 0 where
  pub life : ℕ
  pub waits : List Waits
  pub deepest : Option Depth
  pub hits : List ℕ
  pub taken : List ℕ
  pub passed : List ℕ

-- what is reported of a request
abbrev pub waits_at : Statistics → ℕ → Waits
waits_at t n = slice_index_or t.waits n no_waits

-- there is a number for each address
pub record IsWhole (t : Statistics) : Type 0 where
  pub waits : length t.waits ≡ 16
  pub hits : length t.hits ≡ 65536
  pub taken : length t.taken ≡ 65536
  pub passed : length t.passed ≡ 65536

-- no count is more than a limit
pub record AreAllFew (limit : ℕ) (t : Statistics) : Type 0 where
  pub waits : All (AreFewWaits limit) t.waits
  pub hits : All (λ n. n ≤ limit) t.hits
  pub taken : All (λ n. n ≤ limit) t.taken
  pub passed : All (λ n. n ≤ limit) t.passed

-- ---- instructions

abbrev pub is_hit : ℕ → Sight → Bool
is_hit addr s = hits s && s.pc == addr

abbrev pub goes : Option Way → Way → Bool
goes (Some Taken) Taken = true
goes (Some Passed) Passed = true
goes _ _ = false

abbrev pub is_way : Way → ℕ → Sight → Bool
is_way w addr s = goes (way s) w && s.pc == addr

-- ---- the stack

-- the deeper one, the first of those that are equal
abbrev pub deeper : Option Depth → Depth → Depth
deeper None second = second
deeper (Some first) second = if nat_le first.word second.word then first else second

abbrev pub depth : ℕ → Sight → Depth
depth life s = record { word = s.next_stack; when = moment life s }

-- the least value to which the stack pointer was moved, and the state in which it came first
unfoldable pub deepest : ℕ → List Sight → Option Depth
deepest life [] = None
deepest life (s ∷ earlier) = if moves_stack s then Some (deeper (deepest life earlier) (depth life s)) else deepest life earlier

-- ---- all of it

-- the statistics of some states of a life
pub record AreStatisticsOf (life : ℕ) (sights : List Sight) (t : Statistics) : Type 0 where
  pub whole : IsWhole t
  pub waits : (n : ℕ) → n < 16 → AreWaitsOf n life sights (waits_at t n)
  pub deepest : t.deepest ≡ deepest life sights
  pub hits : (addr : ℕ) → slice_index t.hits addr ≡ count_by (is_hit addr) sights
  pub taken : (addr : ℕ) → slice_index t.taken addr ≡ count_by (is_way Taken addr) sights
  pub passed : (addr : ℕ) → slice_index t.passed addr ≡ count_by (is_way Passed addr) sights

-- ---- the same, state by state

-- the number of an address goes up by one
abbrev pub counted_at : Bool → ℕ → List ℕ → List ℕ
counted_at false addr numbers = numbers
counted_at true addr numbers = slice_set numbers addr (slice_index numbers addr + 1)

abbrev pub with_instructions : Sight → Statistics → Statistics
with_instructions s t = record t {
  hits = counted_at (hits s) s.pc t.hits;
  taken = counted_at (goes (way s) Taken) s.pc t.taken;
  passed = counted_at (goes (way s) Passed) s.pc t.passed;
}

abbrev pub with_stack : Sight → Statistics → Statistics
with_stack s t = record t { deepest = if moves_stack s then Some (deeper t.deepest (depth t.life s)) else t.deepest }

-- each request has seen a state
pub record HaveSeen (life : ℕ) (s : Sight) (old new : List Waits) : Type 0 where
  pub many : length new ≡ length old
  pub each : (n : ℕ) → n < 16 → slice_index_or new n no_waits ≡ see n life s (slice_index_or old n no_waits)

abbrev pub with_waits : List Waits → Statistics → Statistics
with_waits waits t = record t { waits = waits }

-- ---- the same as a value

abbrev pub waits_of : ℕ → ℕ → List Sight → Waits
waits_of n life sights = record {
  waiting = record { pending = came pending_after n sights; handed = came handed_after n sights };
  latency = spread_of (latencies n life sights);
  served = spread_of (services n life sights);
  missed = missed n sights;
}

-- the values of the first so many numbers
unfoldable pub values_for : {A : Type 0} → (ℕ → A) → ℕ → List A
values_for value zero = []
values_for value (suc n) = values_for value n ++ value n ∷ []

abbrev pub statistics_of : ℕ → List Sight → Statistics
statistics_of life sights = record {
  life = life;
  waits = values_for (λ n. waits_of n life sights) 16;
  deepest = deepest life sights;
  hits = values_for (λ addr. count_by (is_hit addr) sights) 65536;
  taken = values_for (λ addr. count_by (is_way Taken addr) sights) 65536;
  passed = values_for (λ addr. count_by (is_way Passed addr) sights) 65536;
}

-- the statistics of some states of a life are this value
abbrev pub StatisticsAreOne : Type 0
StatisticsAreOne = (life : ℕ) (sights : List Sight) (t : Statistics) → t.life ≡ life → AreStatisticsOf life sights t → t ≡ statistics_of life sights

-- ---- several lives

abbrev pub deeper_of : Option Depth → Option Depth → Option Depth
deeper_of first None = first
deeper_of first (Some second) = Some (deeper first second)

unfoldable pub all_added : List Waits → List Waits → List Waits
all_added (w ∷ ws) (v ∷ vs) = added w v ∷ all_added ws vs
all_added _ _ = []

-- the statistics of a life, or of lives, and of a later one
abbrev pub with_life : Statistics → Statistics → Statistics
with_life t later = record {
  life = t.life;
  waits = all_added t.waits later.waits;
  deepest = deeper_of t.deepest later.deepest;
  hits = sums t.hits later.hits;
  taken = sums t.taken later.taken;
  passed = sums t.passed later.passed;
}

unfoldable pub with_lives : Statistics → ℕ → List (List Sight) → Statistics
with_lives t life [] = t
with_lives t life (sights ∷ more) = with_lives (with_life t (statistics_of life sights)) (life + 1) more

-- the statistics of lives together, the first of which has this number
abbrev pub statistics_of_lives : ℕ → List (List Sight) → Statistics
statistics_of_lives life lives = with_lives (statistics_of life []) life lives
