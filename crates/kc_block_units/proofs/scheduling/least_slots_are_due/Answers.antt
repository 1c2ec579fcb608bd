use Rattle.kc_block_units.proofs.Due.{least_slot_is_due, no_slot_is_due}
use Rattle.kc_block_units.proofs.scheduling.least_slots_are_due.Goals as goal

pub returns-clause-due : goal.returns-clause-due
returns-clause-due g c =
    least_slot_is_due g.X.Extra.further g.X.Extra.agrees (record { rests = g.met.X.Extra.rests; rests_out = g.met.X.Extra.rests_out; rest_keeps = g.met.X.Extra.rest_keeps; keeps = g.met.X.Extra.keeps; start_keeps = g.met.X.Extra.start_keeps })

pub returns-clause-none : goal.returns-clause-none
returns-clause-none g c =
    no_slot_is_due g.X.Extra.further g.X.Extra.agrees (record { rests = g.met.X.Extra.rests; rests_out = g.met.X.Extra.rests_out; rest_keeps = g.met.X.Extra.rest_keeps; keeps = g.met.X.Extra.keeps; start_keeps = g.met.X.Extra.start_keeps })
