use Rattle.kc_machine.proofs.finals.put_end.Goals as goal

pub returns : goal.returns
returns g c = rw c.stopped.ensures.value at c.put_one.ensures
