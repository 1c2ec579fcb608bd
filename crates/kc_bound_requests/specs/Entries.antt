-- How the routine of an interrupt begins (80C196KC User's Manual, "Interrupts"; the states of an entry are this kit's own).
use Rattle.std.specs.Prelude.{◌≡◌, ℕ, suc, true, false, ◌+◌, ◌≤◌, None, List}
use Rattle.kc_exec_spec.specs.Entering.{vector_at}
use Rattle.kc_extra.specs.Further.{Further}
use Rattle.kc_machine_spec.specs.declared.doing.Activity.TheVariants.{Enters}
use Rattle.kc_machine_spec.specs.Machine.{Machine, current, pushing_states}
use Rattle.kc_bound.specs.declared.notes.Notes.{Notes}
use Rattle.kc_bound.specs.Passes.{after_activity, moment, is_over}
use Rattle.kc_bound.specs.Bounded.{IsImage, HoldsImage, IsPassFrom}
use Rattle.kc_bound.specs.Ways.{image_word}
use Rattle.kc_bound_requests.specs.declared.enabled.TheConstants.{ENTERED}
use Rattle.kc_bound_requests.specs.declared.certificate.EnabledSet.{EnabledSet}
use Rattle.kc_bound_requests.specs.declared.latency_certificate.LatencyCertificate.{LatencyCertificate}
use Rattle.kc_bound_requests.specs.Enabled.{enabled_in}
use Rattle.kc_bound_requests.specs.Closed.{is_in}
use Rattle.kc_bound_requests.specs.Asking.{asks, IsRequested, IsHighest}
use Rattle.kc_bound_requests.specs.Latency.{ShowsShut}
use Rattle.kc_bound_requests.specs.Gaps.{Waits}

-- an entry that begins takes as many states as the place of the stack says, which are 14 at most
abbrev pub EntriesAreShort : Type 0 → Type 0
EntriesAreShort X = (number : ℕ) (m : Machine X) → m.under_way ≡ None → (current m).doing ≡ Enters number → ((current m).left ≡ pushing_states m) × ((current m).left ≤ 14)

-- a routine is to begin, at the address that its vector has in the image, and with what a routine begins with that an interrupt enters
pub record IsEntered {X : Type 0} (image : List ℕ) (number : ℕ) (n : Machine X) : Type 0 where
  pub rom : HoldsImage image n
  pub begins : n.cpu.pc ≡ image_word image (vector_at number)
  pub between : n.under_way ≡ None
  pub fresh : n.going ≡ None
  pub held : n.held ≡ true
  pub allowed : is_in ENTERED (enabled_in n) ≡ true

-- it begins behind its entry, if the machine lives on
abbrev pub RoutinesBegin : Type 0 → Type 0
RoutinesBegin X =
    (f : Further X) (image : List ℕ) (number : ℕ) (m : Machine X) → HoldsImage image m → m.under_way ≡ None → m.ended ≡ None
    → (current m).doing ≡ Enters number → (after_activity f m).ended ≡ None
    → IsEntered image number (after_activity f m) × ((after_activity f m).time ≡ m.time + (current m).left)

-- Where a pass is not over, interrupts are asked for, and a request that has waited is the highest, its routine begins after the next
-- activity. That is at most so many states after the request was raised, and the 14 of the entry.
abbrev pub LatencyIsShort : Type 0 → Type 0
LatencyIsShort X =
    (f : Further X) (image : List ℕ) (notes : Notes) (from : ℕ) (first : EnabledSet) (c : LatencyCertificate) (most : ℕ)
    → IsImage image → ShowsShut image notes from first c most
    → (number i n : ℕ) (m : Machine X) → IsPassFrom f image notes from n m → is_in first (enabled_in m) ≡ true → Waits f number i n m → is_over f notes n m ≡ false
    → asks (moment f n m) ≡ true → IsRequested number (moment f n m) → IsHighest number (moment f n m) → (moment f (suc n) m).ended ≡ None
    → IsEntered image number (moment f (suc n) m) × ((moment f (suc n) m).time ≤ (moment f i m).time + most + 14)
