use Rattle.std.proofs.Common.{sym, ◌∙◌, ap, arith}
use Rattle.std.specs.Prelude.{bit_or}
use Rattle.kc_block_spec.specs.Levels.{wired}
use Rattle.kc_block_units.proofs.CatchingUp.{levels_stay, levels_from}
use Rattle.kc_block_units.proofs.Due.{slot_ahead}
use Rattle.kc_block_units.specs.Standing.{standing}
use Rattle.kc_block_units.proofs.scheduler.Scheduler.levels.Goals as goal

pub returns-then-not-is_due : goal.returns-then-not-is_due
returns-then-not-is_due g c =
    levels_stay g.X.Extra.further g.X.Extra.agrees (record { rests = g.met.X.Extra.rests; rests_out = g.met.X.Extra.rests_out; rest_keeps = g.met.X.Extra.rest_keeps; keeps = g.met.X.Extra.keeps; start_keeps = g.met.X.Extra.start_keeps }) (standing g.X.Extra.plain c.args.self.now) c.args.now c.requires
    (slot_ahead g.X.Extra.further g.X.Extra.agrees (standing g.X.Extra.plain c.args.self.now) c.args.now 5 c.requires (omega arith) (sym c.is_due-stimuli_due.ensures ∙ c.if-not-stimuli_due.true))
    (slot_ahead g.X.Extra.further g.X.Extra.agrees (standing g.X.Extra.plain c.args.self.now) c.args.now 6 c.requires (omega arith) (sym c.is_due.ensures ∙ c.if-not-is_due.true))

pub returns : goal.returns
returns g c =
    ap (λ m. bit_or c.own_levels-own.result m) (c.wired.ensures ∙ ap (wired c.args.self.now.stimuli) c.outputs.ensures.value)
    ∙ levels_from g.X.Extra.further g.X.Extra.agrees (record { rests = g.met.X.Extra.rests; rests_out = g.met.X.Extra.rests_out; rest_keeps = g.met.X.Extra.rest_keeps; keeps = g.met.X.Extra.keeps; start_keeps = g.met.X.Extra.start_keeps }) (standing g.X.Extra.plain c.args.self.now) c.args.now c.requires c.own_levels-own.result c.own_levels-own.ensures
