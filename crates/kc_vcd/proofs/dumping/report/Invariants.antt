use Rattle.kc_vcd.proofs.Reported.{HasComeTo}
use Rattle.kc_vcd.proofs.dumping.report.Given as goal

abbrev pub invariant-loop : goal.invariant-loop
invariant-loop g l = HasComeTo l.initial.lives l.initial.writer l.lives l.writer
