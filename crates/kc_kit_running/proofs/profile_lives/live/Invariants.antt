use Rattle.std.proofs.Common.{◌-◌}
use Rattle.kc_trace.specs.Trace.{out_of}
use Rattle.kc_kit_running.proofs.LifeLemmas.{OnWay}
use Rattle.kc_kit_running.proofs.profile_lives.live.Given as goal

-- some states of the life have passed without an end, and are counted
abbrev pub invariant-spans : goal.invariant-spans
invariant-spans g l =
    OnWay l.until l.initial.account.statistics.life l.initial.machine.machine (out_of g.S.Sink.written g.S.Sink.faults l.initial.out) l.initial.steps l.machine.machine (out_of g.S.Sink.written g.S.Sink.faults l.out) l.steps l.account.profile
    l.account.statistics

abbrev pub decreases-spans : goal.decreases-spans
decreases-spans g l = l.until - l.machine.machine.time
