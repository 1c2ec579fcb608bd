use Rattle.kc_block_units.proofs.Known.{touches_are_known, further_agrees}
use Rattle.kc_block_units.proofs.scheduling.touches_are_known.Goals as goal

pub returns-clause-known : goal.returns-clause-known
returns-clause-known g c =
    touches_are_known g.X.Extra.further g.X.Extra.agrees (record { rests = g.met.X.Extra.rests; rests_out = g.met.X.Extra.rests_out; rest_keeps = g.met.X.Extra.rest_keeps; keeps = g.met.X.Extra.keeps; start_keeps = g.met.X.Extra.start_keeps })

pub returns-clause-agrees : goal.returns-clause-agrees
returns-clause-agrees g c =
    further_agrees g.X.Extra.further g.X.Extra.agrees (record { rests = g.met.X.Extra.rests; rests_out = g.met.X.Extra.rests_out; rest_keeps = g.met.X.Extra.rest_keeps; keeps = g.met.X.Extra.keeps; start_keeps = g.met.X.Extra.start_keeps })
