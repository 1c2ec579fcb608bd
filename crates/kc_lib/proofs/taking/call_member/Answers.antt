use Rattle.kc_lib.proofs.StandingLemmas.{out_work, called_again}
use Rattle.kc_lib.proofs.taking.call_member.Goals as goal

pub returns-then-not-is_needed-clause-work : goal.returns-then-not-is_needed-clause-work
returns-then-not-is_needed-clause-work c = out_work c.args.standings.now c.args.number c.is_needed.result c.if-standings-number.false c.is_needed.ensures c.if-not-is_needed.true

pub returns-else-not-is_needed-clause-called : goal.returns-else-not-is_needed-clause-called
returns-else-not-is_needed-clause-called c = called_again c.args.standings.now c.args.number c.is_needed.result c.if-standings-number.false c.is_needed.ensures c.if-not-is_needed.false
