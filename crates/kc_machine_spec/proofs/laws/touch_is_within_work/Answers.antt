use Rattle.kc_machine_spec.proofs.Works.{touch_is_within_work}
use Rattle.kc_machine_spec.proofs.laws.touch_is_within_work.Goals as goal

pub returns : goal.returns
returns g c = touch_is_within_work
