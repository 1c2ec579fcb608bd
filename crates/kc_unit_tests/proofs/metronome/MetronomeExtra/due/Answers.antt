use Rattle.kc_unit_tests.proofs.Beats.{beat_due}
use Rattle.kc_unit_tests.proofs.metronome.MetronomeExtra.due.Goals as goal

pub returns-clause-due : goal.returns-clause-due
returns-clause-due g c = beat_due c.args.now _
