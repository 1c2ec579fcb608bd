use Rattle.kc_block_units.proofs.Joins.{events_join}
use Rattle.kc_block_units.proofs.scheduling.events_join.Goals as goal

pub returns : goal.returns
returns g c =
    events_join g.X.Extra.further g.X.Extra.agrees (record { rests = g.met.X.Extra.rests; rests_out = g.met.X.Extra.rests_out; rest_keeps = g.met.X.Extra.rest_keeps; keeps = g.met.X.Extra.keeps; start_keeps = g.met.X.Extra.start_keeps })
