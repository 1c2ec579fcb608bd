-- The watchdog never raises a request or moves a pin by itself.
use Rattle.std.proofs.Common.{◌≡◌, ℕ, true, refl, sym, ◌∙◌, Option, Some, None}
use Rattle.std.proofs.lemmas.Bool.{false≢true}
use Rattle.kc_span.specs.Span.{Rule, IsDue}
use Rattle.kc_extra.specs.Further.{further_rule}
use Rattle.kc_cycles.specs.declared.watchdog.Watchdog.{Watchdog}
use Rattle.kc_cycles.specs.Watching.{watchdog_further}

-- the watchdog is due where a unit is that never does anything, which is in no state
pub never_due : {D : Type 0} (other : Rule D) → ((t : ℕ) (e : D) → other.quiet t e ≡ true) → (now : ℕ) (e : D) (d : Watchdog) (due : Option ℕ) →
    IsDue other now e due → IsDue (further_rule watchdog_further.rest watchdog_further.rest_out) now d due
never_due other quiet now e d None never = λ n k lt. refl
never_due other quiet now e d (Some at) due = absurd (false≢true (sym due.active ∙ quiet _ _))
