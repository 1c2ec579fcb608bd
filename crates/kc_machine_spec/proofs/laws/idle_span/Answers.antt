use Rattle.kc_machine_spec.proofs.Idle.{rests_to_due}
use Rattle.kc_machine_spec.proofs.laws.idle_span.Goals as goal

pub returns : goal.returns
returns g c = rests_to_due
