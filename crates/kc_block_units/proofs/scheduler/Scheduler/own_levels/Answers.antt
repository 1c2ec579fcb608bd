use Rattle.std.proofs.Common.{sym, ◌∙◌, arith}
use Rattle.kc_block_units.proofs.CatchingUp.{no_stimulus}
use Rattle.kc_block_units.proofs.Due.{slot_ahead}
use Rattle.kc_block_units.specs.Standing.{standing}
use Rattle.kc_block_units.proofs.scheduler.Scheduler.own_levels.Goals as goal

pub returns-else-stimuli_due : goal.returns-else-stimuli_due
returns-else-stimuli_due g c =
    c.unwired.ensures c.args.now c.requires.scheduled.held.outs c.requires.scheduled.held.are
    ∙ no_stimulus g.X.Extra.further g.X.Extra.agrees (record { rests = g.met.X.Extra.rests; rests_out = g.met.X.Extra.rests_out; rest_keeps = g.met.X.Extra.rest_keeps; keeps = g.met.X.Extra.keeps; start_keeps = g.met.X.Extra.start_keeps }) (standing g.X.Extra.plain c.args.self.now) c.args.now c.requires.scheduled
    (slot_ahead g.X.Extra.further g.X.Extra.agrees (standing g.X.Extra.plain c.args.self.now) c.args.now 5 c.requires.scheduled (omega arith) (sym c.requires.due ∙ c.if-stimuli_due.false))
