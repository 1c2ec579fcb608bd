use Rattle.kc_machine_spec.proofs.Runs.{run_for-whole}
use Rattle.kc_machine_spec.proofs.laws.whole_activity.Goals as goal

pub returns : goal.returns
returns g c = run_for-whole
