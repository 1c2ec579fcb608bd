use Rattle.kc_base.specs.Bits.{bit}
use Rattle.kc_block_sfr.proofs.seeing.has_flag.Goals as goal

pub returns : goal.returns
returns g c = c.has_overflowed.ensures (bit c.args.scheduler.now.board_registers.ioc1 2) c.args.scheduler.now.flag.unit
