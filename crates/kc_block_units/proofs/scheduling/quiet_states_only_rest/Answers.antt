use Rattle.kc_block_units.proofs.Spans.{quiet_state, quiet_span, goes_on}
use Rattle.kc_block_units.proofs.scheduling.quiet_states_only_rest.Goals as goal

pub returns-clause-state : goal.returns-clause-state
returns-clause-state g c =
    quiet_state g.X.Extra.further g.X.Extra.agrees (record { rests = g.met.X.Extra.rests; rests_out = g.met.X.Extra.rests_out; rest_keeps = g.met.X.Extra.rest_keeps; keeps = g.met.X.Extra.keeps; start_keeps = g.met.X.Extra.start_keeps })

pub returns-clause-span : goal.returns-clause-span
returns-clause-span g c =
    quiet_span g.X.Extra.further g.X.Extra.agrees (record { rests = g.met.X.Extra.rests; rests_out = g.met.X.Extra.rests_out; rest_keeps = g.met.X.Extra.rest_keeps; keeps = g.met.X.Extra.keeps; start_keeps = g.met.X.Extra.start_keeps })

pub returns-clause-stays : goal.returns-clause-stays
returns-clause-stays g c =
    goes_on g.X.Extra.further g.X.Extra.agrees (record { rests = g.met.X.Extra.rests; rests_out = g.met.X.Extra.rests_out; rest_keeps = g.met.X.Extra.rest_keeps; keeps = g.met.X.Extra.keeps; start_keeps = g.met.X.Extra.start_keeps })
