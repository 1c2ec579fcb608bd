use Rattle.std.proofs.Common.{◌-◌, sym}
use Rattle.kc_unit_tests.proofs.Beats.{beat_after}
use Rattle.kc_unit_tests.proofs.metronome.MetronomeExtra.quiet_to.Goals as goal

pub returns-clause-plain : goal.returns-clause-plain
returns-clause-plain g c = sym (beat_after c.args._now (c.args._to - c.args._now) _)
