-- The levels of the pulse-width outputs in each state, by the widths written so far (this kit's own).
use Rattle.std.specs.Prelude.{◌≡◌, ℕ, ◌*◌, ◌/◌, ◌<◌, Bool, false, ◌&&◌, if◌then◌else◌, ◌++◌, fold, All}
use Rattle.std.proofs.Common.{zero, suc}
use Rattle.kc_convert.specs.declared.pulses.Pulses.{Pulses}
use Rattle.kc_base.specs.Pins.{pwm0, pwm1, pwm2}
use Rattle.kc_convert.specs.Pulsing.{period, level, edge_between, new_pulses, is_first, is_second, is_third, pulses_out, pulses_further}
use Rattle.kc_extra.specs.Histories.{Access, Driven, data_at}

abbrev pub width_by : (ℕ → ℕ → Bool) → ℕ → Access → ℕ
width_by is_own width a = if a.is_write && is_own a.window a.sfr then a.value else width

-- the width last written before state t to a register, else 0
unfoldable pub width_before : (ℕ → ℕ → Bool) → Driven → ℕ → ℕ
width_before is_own h zero = 0
width_before is_own h (suc t) = fold (width_by is_own) (width_before is_own h t) (h.accesses t)

-- the level in state t: high in the states of a period below the width that was written last before the period began
abbrev pub pulse : (ℕ → ℕ → Bool) → Driven → ℕ → Bool
pulse is_own h t = level (width_before is_own h (t / period * period)) t

abbrev pub pulse_before : (ℕ → ℕ → Bool) → Driven → ℕ → Bool
pulse_before is_own h zero = false
pulse_before is_own h (suc t) = pulse is_own h t

abbrev pub pulses_at : Driven → ℕ → Pulses
pulses_at h t = data_at pulses_further new_pulses h t

-- each value that is written is a byte
abbrev pub WritesBytes : Driven → Type 0
WritesBytes h = (t : ℕ) → All (λ a. a.value < 256) (h.accesses t)

-- the edges of a state lead from the levels of the state before to those of this state
abbrev pub PulsesAreByWidths : Type 0
PulsesAreByWidths = (h : Driven) (t : ℕ) → WritesBytes h →
    (pulses_out t (pulses_at h t)).moved
    ≡ edge_between pwm0 (pulse_before is_first h t) (pulse is_first h t)
    ++ (edge_between pwm1 (pulse_before is_second h t) (pulse is_second h t) ++ edge_between pwm2 (pulse_before is_third h t) (pulse is_third h t))
