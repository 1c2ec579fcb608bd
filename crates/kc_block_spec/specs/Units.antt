-- The peripheral units of the board with what joins them, all in one state (80C196KC User's Manual, "Peripherals"; the
-- further unit is this kit's own).
use Rattle.std.specs.Prelude.{Bool, List}
use Rattle.kc_base.specs.declared.types.Edge.{Edge}
use Rattle.kc_stim.specs.Drives.{Drives}
use Rattle.kc_timers.specs.T2.{T2}
use Rattle.kc_hso.specs.Cam.{Cam}
use Rattle.kc_hsi.specs.Input.{Input}
use Rattle.kc_block_spec.specs.declared.board_registers.BoardRegisters.{BoardRegisters}

pub record Units (X : Type 0) : Type 0 where
  -- stimuli and wires, which nothing changes
  pub drives : Drives
  pub board_registers : BoardRegisters
  -- bit 5 of IOS1: Timer 1 has overflowed
  pub overflowed : Bool
  pub timer2 : T2
  pub hso : Cam
  pub hsi : Input
  pub further : X

-- all units one state time on, and the edges of printed pins
pub record Ticked (X : Type 0) : Type 0 where
  pub units : Units X
  pub edges : List Edge
