use Rattle.std.proofs.Common.{◌≡◌, ℕ, inl, inr}
use Rattle.std.proofs.Math.ListN.{get_or, replicate}
use Rattle.std.proofs.lemmas.Bool.{cases_lt}
use Rattle.std.proofs.lemmas.List.{get_or-replicate, get_or_past, length-replicate}
use Rattle.kc_base.specs.declared.types.Level.TheVariants.{Low}
use Rattle.kc_trace.specs.declared.life.Signal.{Signal}
use Rattle.kc_trace.specs.declared.life.Signal.TheVariants.{Output, Input}
use Rattle.kc_trace.specs.Tables.{level_in}
use Rattle.kc_trace.proofs.levels.Levels.low.Goals as goal

all_low : (count n : ℕ) → get_or (replicate count Low) n Low ≡ Low
all_low count n = elim (cases_lt n count) [
  | inl within ↦ get_or-replicate count n Low Low within
  | inr past ↦ get_or_past (replicate count Low) n Low (rw length-replicate past)
]

low_in : (count : ℕ) (signal : Signal) → level_in (record { outputs = replicate count Low; inputs = replicate count Low }) signal ≡ Low
low_in count (Output pin) = all_low count pin.0
low_in count (Input pin) = all_low count pin.0

pub returns : goal.returns
returns c = low_in 256
