use Rattle.kc_trace.specs.Trace.{out_of}
use Rattle.kc_kit_running.specs.Profiled.{known}
use Rattle.kc_kit_running.proofs.WatchLemmas.{Watching}
use Rattle.kc_kit_running.proofs.profile_lives.watch_lives.Given as goal

-- the lives before this one have been reported and counted
abbrev pub invariant-lives : goal.invariant-lives
invariant-lives g l =
    Watching l.states l.most (known l.lines) l.fn.board.driving l.fn.board.image (out_of g.S.Sink.written g.S.Sink.faults l.initial.out) l.left l.from l.life
    (out_of g.S.Sink.written g.S.Sink.faults l.out) l.accounts.profile.items l.accounts.cover.items l.sums.profile l.sums.statistics

abbrev pub decreases-lives : goal.decreases-lives
decreases-lives g l = l.left
