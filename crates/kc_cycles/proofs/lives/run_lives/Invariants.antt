use Rattle.kc_extra.specs.contracts.pair_unit.PairExtra.TheImpl as pair
use Rattle.kc_trace.specs.Trace.{out_of}
use Rattle.kc_cycles.specs.contracts.watchdog.Watchdog as watchdog_type
use Rattle.kc_cycles.specs.contracts.watchdog.WatchdogExtra.TheImpl as watchdog
use Rattle.kc_cycles.proofs.Fitted.{Way}
use Rattle.kc_cycles.proofs.lives.run_lives.Given as goal

-- the lives before this one have been reported
abbrev pub invariant-lives : goal.invariant-lives
invariant-lives g l =
    Way (pair.ghosts g.row.M-X watchdog_type.the_row g.M.X.Extra pair.no_dict watchdog.ghosts pair.no_dict).further (g.M.Maker.made l.maker l.stimuli) l.image l.stimuli l.until l.lives
    (out_of g.S.Sink.written g.S.Sink.faults l.initial.out) l.initial.steps l.left l.from (out_of g.S.Sink.written g.S.Sink.faults l.out) l.steps

abbrev pub decreases-lives : goal.decreases-lives
decreases-lives g l = l.left
