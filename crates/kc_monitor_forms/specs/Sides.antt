-- What is kept of two signals that are to be apart, and how it goes on from state to state (this kit's own).
use Rattle.std.specs.Prelude.{◌≡◌, ℕ, zero, suc, ◌+◌, ◌-◌, nat_le, if◌then◌else◌, Bool, false, not, ◌&&◌, Option, Some, None, List, [], ◌∷◌, ◌++◌}
use Rattle.kc_monitor_forms.specs.declared.obligation.Obligation.{Obligation}
use Rattle.kc_monitor_forms.specs.declared.apart.Side.{Side}
use Rattle.kc_monitor_forms.specs.Obligations.{measured}
use Rattle.kc_monitor_forms.specs.Apart.{Times, both, last_had}

abbrev pub off : Side
off = record { on = false; last = None }

-- in a state
abbrev pub side_at : Side → ℕ → Bool → Side
side_at side t on = record { on = on; last = if side.on && not on then Some (t - 1) else side.last }

-- what is asked where a signal comes to its level
abbrev pub measured_from : ℕ → ℕ → Option ℕ → List Obligation
measured_from distance t None = []
measured_from distance t (Some y) = measured t (t - y - 1) (nat_le distance (t - y - 1)) ∷ []

abbrev pub met : ℕ → ℕ → Side → List Obligation
met distance t other = if other.on then both t ∷ [] else measured_from distance t other.last

-- of a signal before and in a state, by the other one in it
abbrev pub asked_of : ℕ → ℕ → Side → Side → Side → List Obligation
asked_of distance t before now other = if now.on && not before.on then met distance t other else []

abbrev pub asked_in : ℕ → ℕ → Side → Bool → Side → Bool → List Obligation
asked_in distance t one one_on other other_on =
    asked_of distance t one (side_at one t one_on) (side_at other t other_on) ++ asked_of distance t other (side_at other t other_on) (side_at one t one_on)

-- of so many states from this one on
unfoldable pub asked_from : ℕ → Side → Side → Times → Times → ℕ → ℕ → List Obligation
asked_from distance one other has_one has_other t zero = []
asked_from distance one other has_one has_other t (suc n) =
    asked_in distance t one (has_one t) other (has_other t)
    ++ asked_from distance (side_at one t (has_one t)) (side_at other t (has_other t)) has_one has_other (t + 1) n

-- of which states it is: so many, from this one on
abbrev pub IsSide : Times → ℕ → ℕ → Side → Type 0
IsSide has first zero side = (side.on ≡ false) × (side.last ≡ None)
IsSide has first (suc n) side = (side.on ≡ has (first + n)) × (has (first + n) ≡ false → side.last ≡ last_had has first n)
