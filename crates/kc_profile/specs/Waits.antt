-- How long requests wait (80C196KC User's Manual, "Interrupts": latency; "Peripheral Transaction Server"). Of states the last
-- comes first.
use Rattle.std.specs.Prelude.{◌≡◌, ℕ, ◌+◌, ◌-◌, ◌<◌, ◌≤◌, Bool, true, false, ◌&&◌, ◌||◌, if◌then◌else◌, List, [], ◌∷◌, ◌++◌, Option, Some, None, is_some, count_by, All}
use Rattle.std.specs.List.{prefix_len}
use Rattle.kc_base.specs.Bits.{bit}
use Rattle.kc_profile.specs.declared.sight.Sight.{Sight}
use Rattle.kc_profile.specs.declared.spread.Moment.{Moment}
use Rattle.kc_profile.specs.declared.spread.Spread.{Spread}
use Rattle.kc_profile.specs.declared.waits.Waiting.{Waiting}
use Rattle.kc_profile.specs.declared.waits.Waits.{Waits}
use Rattle.kc_profile.specs.Sights.{enters, sets_up}
use Rattle.kc_profile.specs.Spreads.{AreFew, Dated, spread_of, with_number, together}

-- the pending requests at the start of a state, and those that the transfer server has handed to their interrupts (PTSSRV)
abbrev pub pending : Sight → ℕ
pending s = s.before.pending

abbrev pub handed : Sight → ℕ
handed s = s.before.service

-- for how many states in a row, up to the last, a request is in a set at their start
abbrev pub row : (Sight → ℕ) → ℕ → List Sight → ℕ
row set n sights = prefix_len (λ s. bit (set s) n) sights

-- How long a request has waited whose entry ends in the last state: from the state in which the transfer server handed it over, or
-- else from that in which it came. States in which it is masked, or interrupts are disabled, count.
abbrev pub latency : ℕ → List Sight → ℕ
latency n [] = 0
latency n (s ∷ earlier) = if bit (handed s) n then row handed n (s ∷ earlier) else row pending n (s ∷ earlier)

abbrev pub moment : ℕ → Sight → Moment
moment life s = record { life = life; at = s.at }

-- that of each of its entries in a life
unfoldable pub latencies : ℕ → ℕ → List Sight → List Dated
latencies n life [] = []
latencies n life (s ∷ earlier) =
    if enters n s then (latency n (s ∷ earlier), moment life s) ∷ latencies n life earlier else latencies n life earlier

-- how long it has waited for each cycle of the transfer server whose setup ends
unfoldable pub services : ℕ → ℕ → List Sight → List Dated
services n life [] = []
services n life (s ∷ earlier) =
    if sets_up n s then (row pending n (s ∷ earlier), moment life s) ∷ services n life earlier else services n life earlier

-- the requests that come while one is pending already, which the chip does not see
abbrev pub is_missed : ℕ → Sight → Bool
is_missed n s = bit s.raised.0 n && bit s.before.pending n

abbrev pub missed : ℕ → List Sight → ℕ
missed n sights = count_by (is_missed n) sights

-- ---- the same in words: the state of the entry minus that in which the request came

-- a state follows others of a life, at whose start no request was there
abbrev pub Follows : Sight → List Sight → Type 0
Follows s [] = (s.before.pending ≡ 0) × (s.before.service ≡ 0)
Follows s (last ∷ earlier) = (s.at ≡ last.at + 1) × (s.before ≡ last.after)

unfoldable pub AreConsecutive : Sight → List Sight → Type 0
AreConsecutive s [] = Follows s []
AreConsecutive s (last ∷ earlier) = Follows s (last ∷ earlier) × AreConsecutive last earlier

-- the state in which a request came that is pending at the start of a later one: it was not pending at its start, is pending at its end,
-- and at the start of each state since
pub record Came (n : ℕ) (s : Sight) (earlier : List Sight) : Type 0 where
  pub came : Sight
  pub since : List Sight
  pub before : List Sight
  pub stands : earlier ≡ since ++ came ∷ before
  pub was_not : bit came.before.pending n ≡ false
  pub is_then : bit came.after.pending n ≡ true
  pub stays : All (λ (r : Sight). bit r.before.pending n ≡ true) since
  pub sooner : came.at < s.at
  pub waited : row pending n (s ∷ earlier) ≡ s.at - came.at

-- a request that is pending has waited since the state in which it came
abbrev pub WaitsAreSinceItCame : Type 0
WaitsAreSinceItCame = (n : ℕ) (s : Sight) (earlier : List Sight) → AreConsecutive s earlier → bit s.before.pending n ≡ true → Came n s earlier

-- ---- the same, state by state

-- the state in which a request came that is in a set behind the last state
abbrev pub since_after : Option ℕ → Bool → ℕ → Option ℕ
since_after since false at = None
since_after (Some since) true at = Some since
since_after None true at = Some at

abbrev pub time_since : Option ℕ → ℕ → ℕ
time_since None at = 0
time_since (Some since) at = at - since

unfoldable pub came : (Sight → ℕ) → ℕ → List Sight → Option ℕ
came set n [] = None
came set n (s ∷ earlier) = since_after (came set n earlier) (bit (set s) n) s.at

abbrev pub pending_after : Sight → ℕ
pending_after s = s.after.pending

abbrev pub handed_after : Sight → ℕ
handed_after s = s.after.service

-- the time since a request came is the number of states in a row at whose start it is there
abbrev pub TimesAreRows : Type 0
TimesAreRows = (n : ℕ) (s : Sight) (earlier : List Sight) → AreConsecutive s earlier →
    (time_since (came pending_after n earlier) s.at ≡ row pending n (s ∷ earlier)) × (time_since (came handed_after n earlier) s.at ≡ row handed n (s ∷ earlier))

-- what is reported of a request after these states of a life
pub record AreWaitsOf (n life : ℕ) (sights : List Sight) (w : Waits) : Type 0 where
  pub pending : w.waiting.pending ≡ came pending_after n sights
  pub handed : w.waiting.handed ≡ came handed_after n sights
  pub latency : w.latency ≡ spread_of (latencies n life sights)
  pub served : w.served ≡ spread_of (services n life sights)
  pub missed : w.missed ≡ missed n sights

abbrev pub wait_of_entry : ℕ → Sight → Waiting → ℕ
wait_of_entry n s waiting = if bit s.before.service n then time_since waiting.handed s.at else time_since waiting.pending s.at

abbrev pub one_if : Bool → ℕ
one_if b = if b then 1 else 0

abbrev pub see : ℕ → ℕ → Sight → Waits → Waits
see n life s w = record {
  waiting = record {
    pending = since_after w.waiting.pending (bit s.after.pending n) s.at;
    handed = since_after w.waiting.handed (bit s.after.service n) s.at;
  };
  latency = if enters n s then Some (with_number (wait_of_entry n s w.waiting) (moment life s) w.latency) else w.latency;
  served = if sets_up n s then Some (with_number (time_since w.waiting.pending s.at) (moment life s) w.served) else w.served;
  missed = w.missed + one_if (is_missed n s);
}

-- of a request that has never come
abbrev pub no_waits : Waits
no_waits = record { waiting = record { pending = None; handed = None }; latency = None; served = None; missed = 0 }

-- no count is more than a limit
pub record AreFewWaits (limit : ℕ) (w : Waits) : Type 0 where
  pub latency : AreFew limit w.latency
  pub served : AreFew limit w.served
  pub missed : w.missed ≤ limit

-- of one life and a later one
abbrev pub added : Waits → Waits → Waits
added w later = record w { latency = together w.latency later.latency; served = together w.served later.served; missed = w.missed + later.missed }

-- it was entered or served at all
abbrev pub is_reported : Waits → Bool
is_reported w = is_some w.latency || is_some w.served

-- what is reported after a state is what was reported before it, and what the state shows
abbrev pub WaitsAreSeen : Type 0
WaitsAreSeen = (n life : ℕ) (s : Sight) (sights : List Sight) (w : Waits) → AreConsecutive s sights → AreWaitsOf n life sights w → AreWaitsOf n life (s ∷ sights) (see n life s w)
