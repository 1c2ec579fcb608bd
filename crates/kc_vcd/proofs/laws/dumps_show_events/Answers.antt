use Rattle.kc_vcd.proofs.RunDumps.{run_events}
use Rattle.kc_vcd.proofs.laws.dumps_show_events.Goals as goal

pub returns : goal.returns
returns c = run_events
