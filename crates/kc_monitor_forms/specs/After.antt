-- `after each F, [no] E within [A to] B` (this kit's own): each point with an F (`from`), by the points behind it that have an E
-- (`event`).
use Rattle.std.specs.Prelude.{ℕ, ◌-◌, nat_le, nat_lt, if◌then◌else◌, Bool, not, ◌&&◌, Option, Some, None, List, [], ◌∷◌}
use Rattle.kc_monitor_forms.specs.declared.obligation.Answer.TheVariants.{Open}
use Rattle.kc_monitor_forms.specs.declared.obligation.Obligation.{Obligation}
use Rattle.kc_monitor_forms.specs.declared.obligation.Point.{Point}
use Rattle.kc_monitor_forms.specs.Obligations.{good_if, measured, unseen}

-- how far the first event is that is no nearer to a state than A
unfoldable pub reached : ℕ → ℕ → List Point → Option ℕ
reached a at [] = None
reached a at (p ∷ points) = if p.event && nat_le a (p.at - at) then Some (p.at - at) else reached a at points

-- an answer, or where none was wanted the other one
abbrev pub wanted : Bool → Bool → Bool
wanted none came = if none then not came else came

-- without an event it is decided where the scope lasts so long, else open; `end` is the first state behind the scope
abbrev pub awaited : Bool → ℕ → ℕ → ℕ → Option ℕ → Obligation
awaited none b end at (Some d) = measured at d (wanted none (nat_le d b))
awaited none b end at None = unseen at (if nat_lt b (end - at) then good_if none else Open)

abbrev pub asked : Bool → ℕ → ℕ → ℕ → ℕ → List Point → Obligation
asked none a b end at points = awaited none b end at (reached a at points)

unfoldable pub after : Bool → ℕ → ℕ → ℕ → List Point → List Obligation
after none a b end [] = []
after none a b end (p ∷ points) =
    if p.from then asked none a b end p.at points ∷ after none a b end points else after none a b end points
