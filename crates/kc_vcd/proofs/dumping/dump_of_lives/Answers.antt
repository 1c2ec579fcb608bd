use Rattle.kc_vcd.proofs.Reported.{dumped_all}
use Rattle.kc_vcd.proofs.dumping.dump_of_lives.Goals as goal

pub returns-in-Ok-ended-clause-dump : goal.returns-in-Ok-ended-clause-dump
returns-in-Ok-ended-clause-dump g c =
    let reported = c.in-Ok-report.ensures.reported in
    (reported.0, reported.1, dumped_all c.args.shown.now c.in-Ok.writer c.report.new.writer reported.0 c.in-Ok-ended.text.items c.in-Ok.ensures reported.2 c.in-Ok-ended.ensures)
