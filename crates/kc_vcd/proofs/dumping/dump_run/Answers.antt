use Rattle.kc_vcd.proofs.Reported.{run_dumped}
use Rattle.kc_vcd.proofs.dumping.dump_run.Goals as goal

pub returns-clause-answer : goal.returns-clause-answer
returns-clause-answer g c =
    let lives = c.in_ok-lives.ensures in
    run_dumped c.args.clock c.args.stimuli c.args.values (g.S.Source.to_come c.args.source) c.in_ok-lives.lives c.in_ok-shown.shown c.dump_of_lives-dump.result
    c.in_ok-shown.ensures lives.steps lives.wrong c.dump_of_lives-dump.ensures.dump c.dump_of_lives-dump.ensures.wrong
