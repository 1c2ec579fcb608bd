use Rattle.kc_vcd.proofs.RunDumps.{run_values}
use Rattle.kc_vcd.proofs.laws.dumps_show_values.Goals as goal

pub returns : goal.returns
returns c = run_values
