use Rattle.kc_block_units.proofs.Rows.{timer2_row, hso_row, hsi_row, flag_row, further_row}
use Rattle.kc_block_units.proofs.scheduling.untouched_scheduler_stay.Goals as goal

pub returns-clause-timer2 : goal.returns-clause-timer2
returns-clause-timer2 g c = timer2_row g.X.Extra.further g.X.Extra.agrees

pub returns-clause-hso : goal.returns-clause-hso
returns-clause-hso g c = hso_row g.X.Extra.further g.X.Extra.agrees

pub returns-clause-hsi : goal.returns-clause-hsi
returns-clause-hsi g c = hsi_row g.X.Extra.further g.X.Extra.agrees

pub returns-clause-further : goal.returns-clause-further
returns-clause-further g c =
    further_row g.X.Extra.further g.X.Extra.agrees (record { rests = g.met.X.Extra.rests; rests_out = g.met.X.Extra.rests_out; rest_keeps = g.met.X.Extra.rest_keeps; keeps = g.met.X.Extra.keeps; start_keeps = g.met.X.Extra.start_keeps })

pub returns-clause-flag : goal.returns-clause-flag
returns-clause-flag g c = flag_row g.X.Extra.further g.X.Extra.agrees
