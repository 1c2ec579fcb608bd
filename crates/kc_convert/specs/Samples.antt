-- The values of the analogue inputs over time (this kit's own; the eight inputs are those of the 80C196KC User's Manual,
-- "A/D Converter").
use Rattle.std.specs.Prelude.{ℕ, ◌<◌, ◌≤◌, ◌==◌, List, All, filter}
use Rattle.std.specs.List.Sorted.{IsNonDecreasingBy}
use Rattle.kc_base.specs.Series.{up_to as items_up_to, last_of}
use Rattle.kc_convert.specs.declared.sample.Sample.{Sample}

-- how many analogue inputs there are
abbrev pub channel_count : ℕ
channel_count = 8

-- a value of ten bits, of an input that there is
abbrev pub IsValue : Sample → Type 0
IsValue s = (s.channel < channel_count) × (s.value ≤ 1023)

-- values as a file gives them: such values, in the order of their times
pub record AreOfFile (samples : List Sample) : Type 0 where
  pub order : IsNonDecreasingBy (λ s. s.at) samples
  pub values : All IsValue samples

abbrev pub of_channel : ℕ → List Sample → List Sample
of_channel channel samples = filter (λ s. s.channel == channel) samples

abbrev pub up_to : ℕ → List Sample → List Sample
up_to t samples = items_up_to (λ s. s.at) t samples

-- the value that these leave, one after the other
abbrev pub last_value : List Sample → ℕ → ℕ
last_value samples before = last_of (λ s. s.value) samples before

-- the value of a channel in a state: the last one with this time at most, else 0
abbrev pub value_at : List Sample → ℕ → ℕ → ℕ
value_at samples channel t = last_value (up_to t (of_channel channel samples)) 0
