use Rattle.kc_kit_verdict.specs.Verdicts.{IsVerdict}
use Rattle.kc_kit_verdict.proofs.VerdictLemmas.{run_checked, faults_given}
use Rattle.kc_kit_verdict.proofs.checking.check_run.Goals as goal

pub returns-clause-answer : goal.returns-clause-answer
returns-clause-answer g c =
    let lives = c.in_ok-lives.ensures in
    run_checked c.args.name.now c.args.text.now c.args.rules c.args.stimuli (g.S.Source.to_come c.args.source) c.in_ok-lives.lives c.in_ok-watch.watch c.watch_run-watched.new.watch c.watch_run-watched.result c.run_verdict-verdict.result
    c.in_ok-watch.ensures lives.steps lives.wrong c.watch_run-watched.ensures.watched c.watch_run-watched.ensures.wrong c.run_verdict-verdict.ensures

pub returns-clause-faults : goal.returns-clause-faults
returns-clause-faults g c =
    let w = c.watch_run-watched.new.watch in
    faults_given (IsVerdict c.args.name.now c.args.text.now w.rules.rules w.monitors.items) (g.S.Source.faults c.args.source) c.in_ok-lives.lives.trace.faults c.watch_run-watched.new.lives.trace.faults
    (g.S.Source.faults c.into_source-source.result) c.watch_run-watched.result c.run_verdict-verdict.result c.in_ok-lives.ensures.faults c.into_source-source.ensures c.run_verdict-verdict.ensures c.watch_run-watched.ensures.faults
