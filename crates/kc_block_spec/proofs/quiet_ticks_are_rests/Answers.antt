use Rattle.kc_block_spec.proofs.Rests.{quiet_ticks_are_rests, quiet_ticks_keep_board_registers}
use Rattle.kc_block_spec.proofs.quiet_ticks_are_rests.Goals as goal

pub returns-clause-rests : goal.returns-clause-rests
returns-clause-rests g c = quiet_ticks_are_rests

pub returns-clause-board_registers : goal.returns-clause-board_registers
returns-clause-board_registers g c = quiet_ticks_keep_board_registers
