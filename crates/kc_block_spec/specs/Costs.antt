-- What accesses and Ticks cost in calls of units (this kit's own).
use Rattle.std.specs.Prelude.{◌≡◌, ℕ, ◌+◌, ◌≤◌, Result, OnErr}
use Rattle.kc_base.specs.declared.types.Kind.{Kind}

-- so many calls of units that count, and so many moves of units at most
pub record Costs (calls few before after moved_before moved_after : ℕ) : Type 0 where
  pub spent : after ≡ before + calls
  pub moves : moved_after ≤ moved_before + few

-- so many calls at most, and as many moves
pub record CostsAtMost (calls before after moved_before moved_after : ℕ) : Type 0 where
  pub spent : after ≤ before + calls
  pub moves : moved_after ≤ moved_before + calls

-- what refuses changes nothing, and makes no call
pub record RefusesFreely {A S : Type 0} (result : Result A Kind) (old new : S) (before after : ℕ) : Type 0 where
  pub same : OnErr result (new ≡ old)
  pub no_call : OnErr result (after ≡ before)
