-- A metronome keeps the laws of further units.
use Rattle.std.proofs.Common.{ℕ, ◌/◌, ◌%◌, ◌==◌, Bool, true, false, refl, arith, [], ◌∷◌}
use Rattle.std.specs.Prelude.{if◌then◌else◌}
use Rattle.std.proofs.lemmas.List.Elements.{All-cons}
use Rattle.kc_base.specs.Pins.{IsPin}
use Rattle.kc_extra.specs.Pins.{AreFew, MoveSome}
use Rattle.kc_unit_tests.specs.Blinking.{edge_to}
use Rattle.kc_unit_tests.specs.Beating.{beats, beat_of}

pub one_pin : AreFew (1 ∷ [])
one_pin = record { few = omega arith; distinct = refl; named = All-cons IsPin 1 [] (omega arith) (λ k e lt. absurd (omega arith)) }

pub moves_one : (t : ℕ) → MoveSome (1 ∷ []) (beat_of t).moved
moves_one t = by (beats t) ((t / 1000) % 2 == 0)
  where
    by : (b lit : Bool) → MoveSome (1 ∷ []) (if b then edge_to 1 lit ∷ [] else [])
    by true lit = (omega arith, refl, tt)
    by false lit = tt
