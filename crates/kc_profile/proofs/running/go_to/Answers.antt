use Rattle.std.proofs.Common.{arith}
use Rattle.kc_trace.proofs.Printed.{printed}
use Rattle.kc_profile.proofs.Going.{ran-lines, fails-lines}
use Rattle.kc_profile.proofs.running.go_to.Goals as goal

pub returns-in-Ok-clause-lines : goal.returns-in-Ok-clause-lines
returns-in-Ok-clause-lines g c =
    ran-lines g.X.Extra.further c.args.stop c.args.machine.now.machine _ c.run.new.self.machine _ c.requires.lasts (omega (arith, c.requires.ahead)) c.in-Ok.ensures.machine
    (printed _ _ _ c.run.ensures.lines c.in-Ok.ensures.counts)

pub returns-in-Err-clause-lines : goal.returns-in-Err-clause-lines
returns-in-Err-clause-lines g c =
    fails-lines g.X.Extra.further c.args.stop c.args.machine.now.machine _ c.run.new.self.machine _ c.requires.lasts (omega (arith, c.run.ensures.within, c.requires.ahead)) c.in-Err.ensures.fails
