-- The units of the board at the start of state 0 (80C196KC User's Manual, "Reset"; the start levels are this kit's own).
use Rattle.std.specs.Prelude.{false, None, replicate}
use Rattle.kc_stim.specs.Drives.{Drives}
use Rattle.kc_hsi.specs.Input as hsi
use Rattle.kc_block_spec.specs.declared.board_registers.BoardRegisters.{BoardRegisters}
use Rattle.kc_block_spec.specs.Units.{Units}
use Rattle.kc_block_spec.specs.Levels.{stimulated_before}

-- both ports' latches are high where they may be, all else is 0
abbrev pub first_board_registers : Drives → BoardRegisters
first_board_registers drives = record {
  levels = stimulated_before drives 0;
  ios1 = 0;
  ios2 = 0;
  ioc0 = 0;
  ioc1 = 0;
  ioc2 = 0;
  ioc3 = 0;
  requests = record { pending = 0; mask = 0; select = 0; service = 0 };
  wsr = 0;
  port1 = 0xFF;
  port2 = 0xE1;
}

abbrev pub first_units : {X : Type 0} → Drives → X → Units X
first_units drives further = record {
  drives = drives;
  board_registers = first_board_registers drives;
  overflowed = false;
  timer2 = record { value = 0; captured = 0 };
  hso = record { command = 0; slots = replicate 8 None; holding = None; latches = replicate 6 false };
  hsi = hsi.start.inner;
  further = further;
}
