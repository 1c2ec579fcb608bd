use Rattle.std.proofs.Common.{◌≤◌, ℕ, Option, sym, subst}
use Rattle.std.specs.Prelude.{IfSome, IfOk, IfErr}
use Rattle.kc_trace.specs.Trace.{out_of}
use Rattle.kc_kit_running.specs.Passing.{HasFailed, HasPassed}
use Rattle.kc_kit_running.specs.Profiled.{known, run_over}
use Rattle.kc_kit_running.proofs.profile_run.watch.Goals as goal

pub watch_lives-requires-clause-some : goal.watch_lives-requires-clause-some
watch_lives-requires-clause-some g c = subst (λ (o : Option ℕ). IfSome o (λ n. 1 ≤ n)) c.in-Some.is c.requires.bounded.some

pub watch_lives-requires-clause-few : goal.watch_lives-requires-clause-few
watch_lives-requires-clause-few g c = subst (λ (o : Option ℕ). IfSome o (λ n. n ≤ 1000)) c.in-Some.is c.requires.bounded.few

pub returns-in-None-clause-passed : goal.returns-in-None-clause-passed
returns-in-None-clause-passed g c =
    let board = c.args.board in
    subst (λ (lives : Option ℕ). IfOk c.watch_once.result (λ w. HasPassed (run_over lives c.args.extent.states (known c.args.lines.now) board.driving board.image) (out_of g.S.Sink.written g.S.Sink.faults c.args.out.now) w.how (record { profile = w.accounts.profile.items; cover = w.accounts.cover.items }) (out_of g.S.Sink.written g.S.Sink.faults c.watch_once.new.out))) (sym c.in-None.is) c.watch_once.ensures.passed

pub returns-in-None-clause-failed : goal.returns-in-None-clause-failed
returns-in-None-clause-failed g c =
    let board = c.args.board in
    subst (λ (lives : Option ℕ). IfErr c.watch_once.result (λ fault. HasFailed (run_over lives c.args.extent.states (known c.args.lines.now) board.driving board.image) (out_of g.S.Sink.written g.S.Sink.faults c.args.out.now) fault (out_of g.S.Sink.written g.S.Sink.faults c.watch_once.new.out))) (sym c.in-None.is) c.watch_once.ensures.failed

pub returns-in-Some-clause-passed : goal.returns-in-Some-clause-passed
returns-in-Some-clause-passed g c =
    let board = c.args.board in
    subst (λ (lives : Option ℕ). IfOk c.watch_lives.result (λ w. HasPassed (run_over lives c.args.extent.states (known c.args.lines.now) board.driving board.image) (out_of g.S.Sink.written g.S.Sink.faults c.args.out.now) w.how (record { profile = w.accounts.profile.items; cover = w.accounts.cover.items }) (out_of g.S.Sink.written g.S.Sink.faults c.watch_lives.new.out))) (sym c.in-Some.is) c.watch_lives.ensures.passed

pub returns-in-Some-clause-failed : goal.returns-in-Some-clause-failed
returns-in-Some-clause-failed g c =
    let board = c.args.board in
    subst (λ (lives : Option ℕ). IfErr c.watch_lives.result (λ fault. HasFailed (run_over lives c.args.extent.states (known c.args.lines.now) board.driving board.image) (out_of g.S.Sink.written g.S.Sink.faults c.args.out.now) fault (out_of g.S.Sink.written g.S.Sink.faults c.watch_lives.new.out))) (sym c.in-Some.is) c.watch_lives.ensures.failed
