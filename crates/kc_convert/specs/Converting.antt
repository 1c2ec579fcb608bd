-- The converter in one state (80C196KC User's Manual, "A/D Converter": AD_COMMAND and AD_RESULT, a start by HSO channel 15, the
-- request at the end; how many states a conversion takes, and when it takes its value, are this kit's own).
use Rattle.std.specs.Prelude.{ℕ, ◌+◌, ◌*◌, ◌/◌, ◌%◌, ◌==◌, Bool, false, ◌&&◌, ◌||◌, is_some, if◌then◌else◌, Option, Some, None, List, []}
use Rattle.kc_base.specs.Bits.{bit}
use Rattle.kc_span.specs.Span.{Counted}
use Rattle.kc_extra.specs.declared.outcome.ExtraOut.{ExtraOut}
use Rattle.kc_extra.specs.Further.{Further}
use Rattle.kc_convert.specs.declared.sample.Sample.{Sample}
use Rattle.kc_convert.specs.Samples.{value_at}

pub record Converting : Type 0 where
  -- the values of the inputs, of which state 0 here is this one
  pub values : List Sample
  pub from : ℕ
  -- the channel of the last command, and that of the last conversion begun
  pub selected : ℕ
  pub channel : ℕ
  -- the state in which the conversion under way began
  pub begun : Option ℕ
  -- the last result
  pub result : ℕ

-- as it is made
abbrev pub new_converter : List Sample → ℕ → Converting
new_converter values from = record { values = values; from = from; selected = 0; channel = 0; begun = None; result = 0 }

-- a conversion that began in state s takes its value in state s + 8, and has its result in state s + 80
abbrev pub sample_time : ℕ
sample_time = 8

abbrev pub conversion_time : ℕ
conversion_time = 80

abbrev pub ends_at : ℕ → Option ℕ → Bool
ends_at t None = false
ends_at t (Some s) = t == s + conversion_time

abbrev pub sample_of : Converting → Option ℕ → ℕ
sample_of d None = d.result
sample_of d (Some s) = value_at d.values d.channel (d.from + (s + sample_time))

-- state t
abbrev pub converted_in : ℕ → Converting → Converting
converted_in t d = if ends_at t d.begun then record d { begun = None; result = sample_of d d.begun } else d

-- what it gives: request 1 at the end of a conversion
abbrev pub converter_out : ℕ → Converting → ExtraOut
converter_out t d = record { raised = record { 0 = if ends_at t d.begun then 2 else 0 }; moved = [] }

-- a conversion begins, and ends one under way
abbrev pub begun_in : ℕ → Converting → Converting
begun_in t d = record d { channel = d.selected; begun = Some t }

-- AD_COMMAND, and the two halves of AD_RESULT, all in window 0
abbrev pub is_low : ℕ → ℕ → Bool
is_low window sfr = (window == 0) && (sfr == 0x02)

abbrev pub is_high : ℕ → ℕ → Bool
is_high window sfr = (window == 0) && (sfr == 0x03)

-- a command has the channel in its low three bits; bit 3 begins a conversion
abbrev pub goes : ℕ → Bool
goes value = bit value 3

abbrev pub channel_in : ℕ → ℕ
channel_in value = value % 8

abbrev pub commanded : ℕ → ℕ → Converting → Converting
commanded t value d =
    if goes value then begun_in t (record d { selected = channel_in value }) else record d { selected = channel_in value }

-- the low two bits of the result, whether a conversion is under way, the channel; the high eight bits of the result
abbrev pub low_byte : Converting → ℕ
low_byte d = d.channel + (if is_some d.begun then 8 else 0) + 64 * (d.result % 4)

abbrev pub high_byte : Converting → ℕ
high_byte d = d.result / 4

abbrev pub result_byte : ℕ → ℕ → Converting → Option ℕ
result_byte window sfr d =
    if is_low window sfr then Some (low_byte d) else (if is_high window sfr then Some (high_byte d) else None)

abbrev pub converter_further : Further (Counted Converting)
converter_further = record {
  step = λ t levels edges d. record d { inner = converted_in t d.inner };
  out = λ t levels edges d. converter_out t d.inner;
  rest = λ t d. record d { inner = converted_in t d.inner };
  rest_out = λ t d. converter_out t d.inner;
  readable = λ window sfr. is_low window sfr || is_high window sfr;
  answer = λ window sfr t d. result_byte window sfr d.inner;
  after_read = λ window sfr t d. d;
  writable = λ window sfr. is_low window sfr;
  after_write = λ window sfr value t d. record d { inner = if is_low window sfr then commanded t value d.inner else d.inner };
  started = λ t d. record d { inner = begun_in t d.inner };
}
