use Rattle.kc_machine_spec.proofs.Runs.{run_for-cut}
use Rattle.kc_machine_spec.proofs.laws.part_of_activity.Goals as goal

pub returns : goal.returns
returns g c = run_for-cut
