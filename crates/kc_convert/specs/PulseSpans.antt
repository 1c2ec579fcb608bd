-- A pulse-width output after a span, by arithmetic (this kit's own).
use Rattle.std.specs.Prelude.{ℕ, ◌+◌, ◌/◌, nat_lt, if◌then◌else◌}
use Rattle.kc_convert.specs.declared.pulses.Output.{Output}
use Rattle.kc_convert.specs.Pulsing.{period}

-- how many periods have begun before a state
abbrev pub periods_before : ℕ → ℕ
periods_before t = (t + 255) / period

-- n states from a state on: the width written is in force where a period begins among them
abbrev pub width_after : ℕ → ℕ → Output → ℕ
width_after from n o = if nat_lt (periods_before from) (periods_before (from + n)) then o.written else o.in_force

abbrev pub output_after : ℕ → ℕ → Output → Output
output_after from n o = record { written = o.written; in_force = width_after from n o }
