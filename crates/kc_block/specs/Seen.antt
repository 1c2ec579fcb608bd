-- What a block shows of itself (this kit's own).
use Rattle.std.specs.Prelude.{ℕ}
use Rattle.kc_block_spec.specs.Units.{Units}
use Rattle.kc_block_units.specs.Scheduler.{Scheduler}

pub record Seen (X : Type 0) : Type 0 where
  -- the present state
  pub time : ℕ
  -- all units at its start
  pub units : Units X
  -- the units as they are held, each at a state of its own
  pub held : Scheduler X
  -- how often the four units were moved, together
  pub moves : ℕ
