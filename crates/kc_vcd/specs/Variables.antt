-- The variables of a dump: which there are, in their order, and how each is called (the names of pins are those of the 80C196KC
-- User's Manual, "Pin Descriptions", and the numbers of requests those of "Interrupts"; the rest is this kit's own).
--
-- First come the pins that are printed and the inputs that are driven, then the analogue inputs that have values, then what happens:
-- entries through the vector of each request, cycles of the transfer server for each, an undefined use, and a life that begins
-- behind another one.
use Rattle.std.specs.Prelude.{ℕ, ◌+◌, ◌%◌, ◌<◌, ◌==◌, if◌then◌else◌, Bool, ◌&&◌, List, [], ◌∷◌, ◌++◌, flat_map, codes, decimal}
use Rattle.std.specs.List.{range_with_len, list_any}
use Rattle.kc_base.specs.Limits.{entry_count, transfer_count}
use Rattle.kc_base.specs.Pins.{IsPin, pin_count, pin_name, is_printed, is_input}
use Rattle.kc_trace.specs.declared.life.Signal.{Signal}
use Rattle.kc_trace.specs.declared.life.Signal.TheVariants.{Output, Input}
use Rattle.kc_trace.specs.Signals.{pin_of}
use Rattle.kc_stim.specs.Drives.{Drives, is_driven}
use Rattle.kc_convert.specs.declared.sample.Sample.{Sample}
use Rattle.kc_convert.specs.Samples.{channel_count}
use Rattle.kc_vcd.specs.declared.variable.Variable.{Variable}
use Rattle.kc_vcd.specs.declared.variable.Variable.TheVariants.{Wire, Analog, Entry, Transfer, Undefined, Life}

-- ---- which there are

-- a pin that is printed
abbrev pub output_at : ℕ → List Variable
output_at pin = if is_printed pin then Wire (Output (record { 0 = pin })) ∷ [] else []

-- among the pins below a number
unfoldable pub outputs : ℕ → List Variable
outputs count = flat_map output_at (range_with_len 0 count)

-- an input that a wire leads to, or that stimuli set
abbrev pub is_shown_input : Drives → ℕ → Bool
is_shown_input d pin = is_input pin && is_driven d pin

abbrev pub input_at : Drives → ℕ → List Variable
input_at d pin = if is_shown_input d pin then Wire (Input (record { 0 = pin })) ∷ [] else []

unfoldable pub inputs : Drives → ℕ → List Variable
inputs d count = flat_map (input_at d) (range_with_len 0 count)

-- a channel that has a value
abbrev pub has_value : List Sample → ℕ → Bool
has_value samples channel = list_any (λ s. s.channel == channel) samples

abbrev pub channel_at : List Sample → ℕ → List Variable
channel_at samples channel = if has_value samples channel then Analog channel ∷ [] else []

unfoldable pub channels : List Sample → ℕ → List Variable
channels samples count = flat_map (channel_at samples) (range_with_len 0 count)

-- the first so many vectors, and requests that the transfer server serves
unfoldable pub entries : ℕ → List Variable
entries count = flat_map (λ number. Entry number ∷ []) (range_with_len 0 count)

unfoldable pub transfers : ℕ → List Variable
transfers count = flat_map (λ number. Transfer number ∷ []) (range_with_len 0 count)

abbrev pub variables_of : Drives → List Sample → List Variable
variables_of d samples =
    outputs pin_count
    ++ inputs d pin_count
    ++ channels samples channel_count
    ++ entries entry_count
    ++ transfers transfer_count
    ++ Undefined ∷ Life ∷ []

-- ---- names

abbrev pub signal_name : Signal → List ℕ
signal_name (Output pin) = pin_name pin.0
signal_name (Input pin) = pin_name pin.0 ++ (if is_printed pin.0 then codes "_in" else [])

abbrev pub name_of : Variable → List ℕ
name_of (Wire signal) = signal_name signal
name_of (Analog channel) = codes "A" ++ decimal channel
name_of (Entry number) = codes "entry" ++ decimal number
name_of (Transfer number) = codes "transfer" ++ decimal number
name_of Undefined = codes "undefined"
name_of Life = codes "life"

-- ---- codes: one of the 94 printable characters each, from `A` on, and behind the last one from the first one on

-- A pin has its number. An input that is printed too, which P10 to P17 are, has one behind those of all pins.
abbrev pub signal_number : Signal → ℕ
signal_number (Output pin) = pin.0
signal_number (Input pin) = if is_printed pin.0 then 35 + pin.0 else pin.0

abbrev pub number_of : Variable → ℕ
number_of (Wire signal) = signal_number signal
number_of (Analog channel) = 49 + channel
number_of (Entry number) = 57 + number
number_of (Transfer number) = 75 + number
number_of Undefined = 90
number_of Life = 91

abbrev pub code_of : Variable → ℕ
code_of v = 33 + (32 + number_of v) % 94

-- its numbers are those of pins, channels and requests
abbrev pub IsVariable : Variable → Type 0
IsVariable (Wire signal) = IsPin (pin_of signal)
IsVariable (Analog channel) = channel < channel_count
IsVariable (Entry number) = number < entry_count
IsVariable (Transfer number) = number < transfer_count
IsVariable _ = Unit {0}
