use Rattle.std.proofs.Common.{}
use Rattle.kc_timers.proofs.timer2.Timer2.due.Goals as goal

pub returns-then-control-clause-due : goal.returns-then-control-clause-due
returns-then-control-clause-due g c = rw (← c.self.view_is) (c.due_state.ensures c.self.inside.captured)
