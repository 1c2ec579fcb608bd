-- The longest time without interrupts in the passes through a routine, and how long a request waits (this kit's own; what a request
-- waits for is that of the 80C196KC User's Manual, "Interrupts").
use Rattle.std.specs.Prelude.{◌≡◌, ℕ, true, false, ◌+◌, ◌<◌, ◌≤◌, List}
use Rattle.kc_extra.specs.Further.{Further}
use Rattle.kc_machine_spec.specs.Machine.{Machine}
use Rattle.kc_bound.specs.declared.notes.Notes.{Notes}
use Rattle.kc_bound.specs.Passes.{moment}
use Rattle.kc_bound.specs.Bounded.{IsImage, IsPassFrom}
use Rattle.kc_bound_requests.specs.declared.certificate.EnabledSet.{EnabledSet}
use Rattle.kc_bound_requests.specs.Enabled.{enabled_in}
use Rattle.kc_bound_requests.specs.Closed.{is_in}
use Rattle.kc_bound_requests.specs.declared.latency_certificate.LatencyCertificate.{LatencyCertificate}
use Rattle.kc_bound_requests.specs.Asking.{asks, IsRequested, IsHighest}
use Rattle.kc_bound_requests.specs.Latency.{ShowsShut}

-- at no moment between two of these, numbered from the start of a pass, are interrupts asked for
pub record IsGap {X : Type 0} (f : Further X) (i j : ℕ) (m : Machine X) : Type 0 where
  pub later : i < j
  pub shut : (k : ℕ) → i < k → k < j → asks (moment f k m) ≡ false

-- a gap of a pass takes at most so many states
abbrev pub GapsAreShort : Type 0 → Type 0
GapsAreShort X =
    (f : Further X) (image : List ℕ) (notes : Notes) (from : ℕ) (first : EnabledSet) (c : LatencyCertificate) (most : ℕ)
    → IsImage image → ShowsShut image notes from first c most
    → (n i j : ℕ) (m : Machine X) → IsPassFrom f image notes from n m → is_in first (enabled_in m) ≡ true → j ≤ n → IsGap f i j m
    → (moment f j m).time ≤ (moment f i m).time + most

-- An interrupt that is raised in the activity behind a moment is requested at each moment from then on, before the pass is so far,
-- and the highest wherever interrupts are asked for.
pub record Waits {X : Type 0} (f : Further X) (number i n : ℕ) (m : Machine X) : Type 0 where
  pub later : i < n
  pub requested : (k : ℕ) → i < k → k < n → IsRequested number (moment f k m)
  pub highest : (k : ℕ) → i < k → k < n → asks (moment f k m) ≡ true → IsHighest number (moment f k m)

-- it waits at most so many states: by then a pass has come to where it is entered, or is over
abbrev pub WaitsAreShort : Type 0 → Type 0
WaitsAreShort X =
    (f : Further X) (image : List ℕ) (notes : Notes) (from : ℕ) (first : EnabledSet) (c : LatencyCertificate) (most : ℕ)
    → IsImage image → ShowsShut image notes from first c most
    → (number i n : ℕ) (m : Machine X) → IsPassFrom f image notes from n m → is_in first (enabled_in m) ≡ true → Waits f number i n m
    → (moment f n m).time ≤ (moment f i m).time + most
