-- The signals of a board: the pins that it prints, and what comes to its pins from outside (this kit's own).
use Rattle.std.specs.Prelude.{ℕ, ◌==◌, Bool, false, ◌&&◌}
use Rattle.kc_base.specs.declared.types.Level.{Level}
use Rattle.kc_base.specs.Levels.{level_of}
use Rattle.kc_base.specs.Pins.{is_input, is_printed}
use Rattle.kc_base.specs.Pins as pins
use Rattle.kc_trace.specs.declared.life.Signal.{Signal}
use Rattle.kc_trace.specs.declared.life.Signal.TheVariants.{Output, Input}

abbrev pub pin_of : Signal → ℕ
pin_of (Output pin) = pin.0
pin_of (Input pin) = pin.0

abbrev pub same_signal : Signal → Signal → Bool
same_signal (Output a) (Output b) = a.0 == b.0
same_signal (Input a) (Input b) = a.0 == b.0
same_signal _ _ = false

-- a pin that is printed, or an input
abbrev pub is_signal : Signal → Bool
is_signal (Output pin) = is_printed pin.0
is_signal (Input pin) = is_input pin.0

-- high before state 0; what is no signal is low
abbrev pub starts_high : Signal → Bool
starts_high (Output pin) = is_printed pin.0 && pins.starts_high pin.0
starts_high (Input pin) = is_input pin.0 && pins.starts_high pin.0

abbrev pub start_level : Signal → Level
start_level signal = level_of (starts_high signal)
