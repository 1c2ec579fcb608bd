use Rattle.std.proofs.Common.{◌+◌, ◌-◌, ◌^◌, arith}
use Rattle.kc_profile.proofs.Few.{few-more}
use Rattle.kc_machine_tests.proofs.profile.go.Goals as goal

pub run_profiled-requires-clause-few : goal.run_profiled-requires-clause-few
run_profiled-requires-clause-few g c = few-more 1000 (2 ^ 64 - 1 - c.args.until) c.args.statistics.now (omega (arith, c.requires.until)) c.requires.few

pub returns-in-Ok-clause-few : goal.returns-in-Ok-clause-few
returns-in-Ok-clause-few g c none =
    few-more (0 + (c.run_profiled.new.machine.machine.time - c.args.machine.now.machine.time)) 1000 c.run_profiled.new.statistics (omega (arith, c.run_profiled.ensures.within, c.requires.until, c.requires.time)) (c.run_profiled.ensures.few 0 none)

pub returns-in-Err-clause-few : goal.returns-in-Err-clause-few
returns-in-Err-clause-few g c none =
    few-more (0 + (c.run_profiled.new.machine.machine.time - c.args.machine.now.machine.time)) 1000 c.run_profiled.new.statistics (omega (arith, c.run_profiled.ensures.within, c.requires.until, c.requires.time)) (c.run_profiled.ensures.few 0 none)
