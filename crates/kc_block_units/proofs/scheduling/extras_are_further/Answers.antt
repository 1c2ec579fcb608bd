use Rattle.kc_block_units.proofs.scheduling.extras_are_further.Goals as goal

pub returns : goal.returns
returns g c = record { rests = g.met.X.Extra.rests; rests_out = g.met.X.Extra.rests_out; rest_keeps = g.met.X.Extra.rest_keeps; keeps = g.met.X.Extra.keeps; start_keeps = g.met.X.Extra.start_keeps }
