-- The laws of deferred units, for any unit (this kit's own).
use Rattle.std.specs.Prelude.{◌≡◌, ℕ, ◌+◌, ◌-◌, ◌<◌, ◌≤◌, true, not, Option, Some}
use Rattle.kc_span.specs.Span.{Rule, QuietFor, IsDue}
use Rattle.kc_span.specs.DeferredUnit.{DeferredUnit, shown, deferred_at, caught_up_to, is_due_in, IsDeferred, AreAlike}

-- what is shown goes on by one Tick from state to state
abbrev pub Next : Type 0 → Type 0
Next D = (rule : Rule D) (deferred : DeferredUnit D) (t : ℕ) → deferred.at ≤ t → shown rule deferred (t + 1) ≡ rule.step t (shown rule deferred t)

-- before the due state each Tick is quiet
abbrev pub Calm : Type 0 → Type 0
Calm D = (rule : Rule D) (deferred : DeferredUnit D) (now t : ℕ) (slot : Option ℕ) → IsDeferred rule deferred now slot → now ≤ t →
    ((u : ℕ) → slot ≡ Some u → t < u) → rule.quiet t (shown rule deferred t) ≡ true

-- the Tick of the present state is quiet exactly where that is not the due state
abbrev pub Event : Type 0 → Type 0
Event D = (rule : Rule D) (deferred : DeferredUnit D) (now : ℕ) (slot : Option ℕ) → IsDeferred rule deferred now slot →
    rule.quiet now (shown rule deferred now) ≡ not (is_due_in now slot)

-- the present state may go on up to the due state
abbrev pub Waits : Type 0 → Type 0
Waits D = (rule : Rule D) (deferred : DeferredUnit D) (now to : ℕ) (slot : Option ℕ) → IsDeferred rule deferred now slot → now ≤ to →
    ((u : ℕ) → slot ≡ Some u → to ≤ u) → IsDeferred rule deferred to slot

-- each Tick from where the deferred unit stands up to the present state is quiet
abbrev pub Lent : Type 0 → Type 0
Lent D = (rule : Rule D) (deferred : DeferredUnit D) (now : ℕ) (slot : Option ℕ) → IsDeferred rule deferred now slot →
    QuietFor rule deferred.at (now - deferred.at) deferred.kept

-- caught up forward to the present state, a deferred unit has the same due state
abbrev pub CaughtUp : Type 0 → Type 0
CaughtUp D = (rule : Rule D) (deferred : DeferredUnit D) (now : ℕ) (slot : Option ℕ) → IsDeferred rule deferred now slot →
    IsDeferred rule (caught_up_to rule now deferred) now slot

-- caught up forward to a state, a deferred unit shows the same from there on
abbrev pub CaughtUpShows : Type 0 → Type 0
CaughtUpShows D = (rule : Rule D) (deferred : DeferredUnit D) (now t : ℕ) → deferred.at ≤ now → now ≤ t →
    shown rule (caught_up_to rule now deferred) t ≡ shown rule deferred t

-- what was asked in the present state makes a deferred unit that stands there
abbrev pub Asked : Type 0 → Type 0
Asked D = (rule : Rule D) (now : ℕ) (d : D) (slot : Option ℕ) → IsDue rule now d slot → IsDeferred rule (deferred_at now d) now slot

-- a deferred unit that stands at a state shows its data there
abbrev pub AskedShows : Type 0 → Type 0
AskedShows D = (rule : Rule D) (now : ℕ) (d : D) → shown rule (deferred_at now d) now ≡ d

-- rules that do the same from where a deferred unit stands have the same deferred units
abbrev pub Alike : Type 0 → Type 0
Alike D = (a b : Rule D) (deferred : DeferredUnit D) (now : ℕ) (slot : Option ℕ) → AreAlike a b deferred.at → IsDeferred a deferred now slot → IsDeferred b deferred now slot

-- and show the same of them
abbrev pub AlikeShows : Type 0 → Type 0
AlikeShows D = (a b : Rule D) (deferred : DeferredUnit D) (t : ℕ) → AreAlike a b deferred.at → shown a deferred t ≡ shown b deferred t

-- a deferred unit whose unit is quiet in the present state is one in the next
abbrev pub PassesOver : Type 0 → Type 0
PassesOver D = (rule : Rule D) (deferred : DeferredUnit D) (now : ℕ) (slot : Option ℕ) → IsDeferred rule deferred now slot →
    rule.quiet now (shown rule deferred now) ≡ true → IsDeferred rule deferred (now + 1) slot
