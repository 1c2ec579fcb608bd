use Rattle.kc_extra.specs.contracts.pair_unit.PairExtra.TheImpl as pair
use Rattle.kc_trace.specs.Trace.{out_of}
use Rattle.kc_cycles.specs.contracts.watchdog.Watchdog as watchdog_type
use Rattle.kc_cycles.specs.contracts.watchdog.WatchdogExtra.TheImpl as watchdog
use Rattle.kc_debug.proofs.Scripted.{Way}
use Rattle.kc_debug.proofs.in_lives.debug_lives.Given as goal

-- the commands before this one have been carried out
abbrev pub invariant-loop-index : goal.invariant-loop-index
invariant-loop-index g l =
    Way (pair.ghosts g.row.M-X watchdog_type.the_row g.M.X.Extra pair.no_dict watchdog.ghosts pair.no_dict).further (g.M.Maker.made l.lives.maker.now l.lives.stimuli.now) l.lives.image.now l.lives.stimuli.now l.lives.most l.lines l.commands
    (out_of g.S.Sink.written g.S.Sink.faults l.initial.out) l.index l.life (out_of g.S.Sink.written g.S.Sink.faults l.out)
