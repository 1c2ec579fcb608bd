-- Numbers that a converter never passes.
use Rattle.std.specs.Prelude.{ℕ, ◌*◌, ◌<◌, ◌≤◌, Option, IfSome}
use Rattle.kc_base.specs.Limits.{max_states}
use Rattle.kc_convert.specs.Samples.{channel_count}

pub record IsBounded (first command last : ℕ) (start : Option ℕ) (value : ℕ) : Type 0 where
  pub from : first ≤ 4 * max_states
  pub selected : command < channel_count
  pub channel : last < channel_count
  pub begun : IfSome start (λ s. s ≤ 4 * max_states)
  pub result : value ≤ 1023
