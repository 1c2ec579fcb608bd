-- The result of the converter in each state, by the conversions begun so far (this kit's own).
use Rattle.std.specs.Prelude.{◌≡◌, ℕ, ◌+◌, ◌<◌, Bool, ◌&&◌, ◌⊎◌, if◌then◌else◌, Option, Some, None, List, fold}
use Rattle.std.proofs.Common.{zero, suc}
use Rattle.kc_span.specs.Span.{Counted}
use Rattle.kc_convert.specs.declared.sample.Sample.{Sample}
use Rattle.kc_convert.specs.Samples.{value_at}
use Rattle.kc_convert.specs.Converting.{Converting, new_converter, converter_further, converter_out, is_low, goes, channel_in, sample_time, conversion_time}
use Rattle.kc_extra.specs.Histories.{Access, Driven, data_at}

abbrev pub is_command : Access → Bool
is_command a = a.is_write && is_low a.window a.sfr

abbrev pub selected_by : ℕ → Access → ℕ
selected_by channel a = if is_command a then channel_in a.value else channel

-- the channel of the last command written before state t
unfoldable pub selected_before : Driven → ℕ → ℕ
selected_before h zero = 0
selected_before h (suc t) = fold selected_by (selected_before h t) (h.accesses t)

abbrev pub begun_by : Option ℕ → Access → Option ℕ
begun_by begun a = if is_command a && goes a.value then Some (channel_in a.value) else begun

-- the channel of the conversion that begins in state t, if one does: by HSO channel 15, or by the last command with GO
abbrev pub begins : Driven → ℕ → Option ℕ
begins h t = fold begun_by (if h.starts t then Some (selected_before h t) else None) (h.accesses t)

-- a conversion of this channel begins in state s, and none between it and state t ends it
pub record IsLast (h : Driven) (t s channel : ℕ) : Type 0 where
  pub starts : begins h s ≡ Some channel
  pub alone : (u : ℕ) → s < u → u < t → begins h u ≡ None

-- a conversion that began in state s has its result in state s + 80 where no later one ended it
abbrev pub IsWhole : Driven → ℕ → ℕ → Type 0
IsWhole h s channel = IsLast h (s + conversion_time) s channel

-- the last one that has its result before state t
pub record IsLastWhole (h : Driven) (t s channel : ℕ) : Type 0 where
  pub whole : IsWhole h s channel
  pub past : s + conversion_time < t
  pub last : (u other : ℕ) → s < u → u + conversion_time < t → IsWhole h u other → ⊥

-- The result as state t begins: the value that the channel of that conversion had 8 states after its start, where the values
-- are those from state `from` on; 0 where there is none.
abbrev pub IsConverted : List Sample → ℕ → Driven → ℕ → ℕ → Type 0
IsConverted values from h t result =
    ((s : ℕ) × (channel : ℕ) × IsLastWhole h t s channel × (result ≡ value_at values channel (from + (s + sample_time))))
    ⊎ (((s channel : ℕ) → s + conversion_time < t → IsWhole h s channel → ⊥) × (result ≡ 0))

abbrev pub converter_at : List Sample → ℕ → Driven → ℕ → Counted Converting
converter_at values from h t = data_at converter_further (record { inner = new_converter values from; moves = 0 }) h t

abbrev pub ResultsAreConverted : Type 0
ResultsAreConverted = (values : List Sample) (from : ℕ) (h : Driven) (t : ℕ) → IsConverted values from h t (converter_at values from h t).inner.result

-- request 1 comes in exactly the states in which a conversion has its result
pub record IsReported (values : List Sample) (from : ℕ) (h : Driven) (t : ℕ) : Type 0 where
  pub raised : (converter_out t (converter_at values from h t).inner).raised.0 ≡ 2 → (s : ℕ) × (channel : ℕ) × IsWhole h s channel × (s + conversion_time ≡ t)
  pub whole : (s channel : ℕ) → IsWhole h s channel → s + conversion_time ≡ t → (converter_out t (converter_at values from h t).inner).raised.0 ≡ 2

abbrev pub EndsAreKnown : Type 0
EndsAreKnown = (values : List Sample) (from : ℕ) (h : Driven) (t : ℕ) → IsReported values from h t
