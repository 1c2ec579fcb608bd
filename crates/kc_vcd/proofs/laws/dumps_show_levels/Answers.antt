use Rattle.kc_vcd.proofs.RunDumps.{run_levels}
use Rattle.kc_vcd.proofs.laws.dumps_show_levels.Goals as goal

pub returns : goal.returns
returns c = run_levels
