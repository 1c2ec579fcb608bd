use Rattle.kc_trace.proofs.Printed.{Prints-cons}
use Rattle.kc_machine.proofs.finals.put_finals.Goals as goal

pub returns : goal.returns
returns g c = Prints-cons _ _ _ _ _ c.put_end.ensures c.put_state.ensures
