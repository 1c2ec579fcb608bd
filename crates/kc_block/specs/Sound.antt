-- What is so of the units that a block holds (this kit's own).
use Rattle.std.specs.Prelude.{ℕ, ◌≤◌, IsTrue}
use Rattle.kc_exec_spec.specs.Window.{is_wsr}
use Rattle.kc_extra.specs.Further.{Further}
use Rattle.kc_block_units.specs.Scheduler.{Scheduler, IsScheduled}

pub record IsSound {X : Type 0} (f : Further X) (agrees : ℕ → ℕ → X → Type 0) (h : Scheduler X) (time : ℕ) : Type 0 where
  pub scheduled : IsScheduled f agrees h time
  pub window : IsTrue (is_wsr h.board_registers.wsr)
  pub bound : time ≤ 3000000000000000
