use Rattle.std.proofs.Common.{◌-◌, arith}
use Rattle.kc_debug.proofs.Idling.{idles-stood, idles-fail}
use Rattle.kc_debug.proofs.Passing.{spends-some}
use Rattle.kc_debug.proofs.carrying.pass_idle.Goals as goal

pub returns-in-Ok-clause-stood : goal.returns-in-Ok-clause-stood
returns-in-Ok-clause-stood g c = idles-stood g.X.Extra.further c.args.end c.args.machine.now.machine c.run.new.self.machine c.requires.ahead c.requires.idles c.in-Ok.ensures.machine

pub returns-in-Ok-clause-spent : goal.returns-in-Ok-clause-spent
returns-in-Ok-clause-spent g c =
    spends-some g.X.Extra.further (c.args.end - c.args.machine.now.machine.time) c.run.new.self.machine.time c.args.machine.now c.args.steps.now c.run.new.self c.run.new.steps (omega (arith, c.run.ensures.within)) c.run.ensures.spent c.run.ensures.moves

pub returns-in-Err-clause-fails : goal.returns-in-Err-clause-fails
returns-in-Err-clause-fails g c = idles-fail g.X.Extra.further c.args.end c.args.machine.now.machine _ c.run.new.self.machine _ c.requires.ahead c.requires.idles c.in-Err.ensures.fails

pub returns-in-Err-clause-spent : goal.returns-in-Err-clause-spent
returns-in-Err-clause-spent g c =
    spends-some g.X.Extra.further (c.args.end - c.args.machine.now.machine.time) c.run.new.self.machine.time c.args.machine.now c.args.steps.now c.run.new.self c.run.new.steps (omega (arith, c.run.ensures.within)) c.run.ensures.spent c.run.ensures.moves
