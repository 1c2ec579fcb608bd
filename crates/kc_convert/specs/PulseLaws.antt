-- The pulse-width outputs keep the laws of further units.
use Rattle.std.proofs.Common.{◌≡◌, ℕ, zero, suc, ◌<◌, ◌≤◌, Bool, true, false, ◌||◌, ◌++◌, get_or, refl, arith}
use Rattle.std.proofs.lemmas.Bool.{or_parts}
use Rattle.kc_base.specs.Pins.{IsPin, pwm0, pwm1, pwm2}
use Rattle.kc_extra.specs.Pins.{AreFew, Rise, MoveSome}
use Rattle.kc_convert.specs.declared.pulses.Pulses.{Pulses}
use Rattle.kc_convert.specs.Pulsing.{level, level_before, taken_over, edge_between, pulse_pins, pulses_out, is_first, is_second, is_third, is_width, with_width}

pub no_width_elsewhere : (w s v : ℕ) (d : Pulses) → is_width w s ≡ false → with_width w s v d ≡ d
no_width_elsewhere w s v d none =
    let first = or_parts (is_first w s) (is_second w s || is_third w s) none in
    let others = or_parts (is_second w s) (is_third w s) first.1 in
    rw (first.0, others.0, others.1) refl

named : (k d : ℕ) → k < 3 → IsPin (get_or pulse_pins k d)
named zero d lt = omega arith
named (suc zero) d lt = omega arith
named (suc (suc zero)) d lt = omega arith
named (suc (suc (suc k))) d lt = absurd (omega arith)

pub three_pins : AreFew pulse_pins
three_pins = record { few = omega arith; distinct = refl; named = λ k d lt. named k d lt }

rise_third : (low : ℕ) (b h : Bool) → low ≤ pwm2 → Rise pulse_pins low (edge_between pwm2 b h)
rise_third low true true le = tt
rise_third low false false le = tt
rise_third low true false le = (le, refl, tt)
rise_third low false true le = (le, refl, tt)

rise_second : (low : ℕ) (b h b2 h2 : Bool) → low ≤ pwm1 → Rise pulse_pins low (edge_between pwm1 b h ++ edge_between pwm2 b2 h2)
rise_second low true true b2 h2 le = rise_third low b2 h2 (omega arith)
rise_second low false false b2 h2 le = rise_third low b2 h2 (omega arith)
rise_second low true false b2 h2 le = (le, refl, rise_third pwm2 b2 h2 (omega arith))
rise_second low false true b2 h2 le = (le, refl, rise_third pwm2 b2 h2 (omega arith))

rise_first : (b h b1 h1 b2 h2 : Bool) → MoveSome pulse_pins (edge_between pwm0 b h ++ (edge_between pwm1 b1 h1 ++ edge_between pwm2 b2 h2))
rise_first true true b1 h1 b2 h2 = rise_second 0 b1 h1 b2 h2 (omega arith)
rise_first false false b1 h1 b2 h2 = rise_second 0 b1 h1 b2 h2 (omega arith)
rise_first true false b1 h1 b2 h2 = (omega arith, refl, rise_second pwm1 b1 h1 b2 h2 (omega arith))
rise_first false true b1 h1 b2 h2 = (omega arith, refl, rise_second pwm1 b1 h1 b2 h2 (omega arith))

-- the edges of the three come in the order of the pins
pub moves_pulses : (t : ℕ) (d : Pulses) → MoveSome pulse_pins (pulses_out t d).moved
moves_pulses t d =
    rise_first (level_before d.first.in_force t) (level (taken_over t d.first).in_force t)
    (level_before d.second.in_force t) (level (taken_over t d.second).in_force t)
    (level_before d.third.in_force t) (level (taken_over t d.third).in_force t)
