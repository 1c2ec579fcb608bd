-- The whole of a board that is run (this kit's own).
use Rattle.std.specs.Prelude.{ℕ}
use Rattle.kc_block_units.specs.Scheduler.{Scheduler}
use Rattle.kc_machine_spec.specs.Machine.{Machine}

-- a machine; beside it the units as its block holds them, each at a state of its own, and how often they were moved, together
pub record Whole (X : Type 0) : Type 0 where
  pub machine : Machine X
  pub held : Scheduler X
  pub moves : ℕ
