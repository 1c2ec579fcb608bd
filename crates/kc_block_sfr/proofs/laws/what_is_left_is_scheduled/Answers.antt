use Rattle.kc_block_sfr.proofs.Left.{unread_left, flag_left, hsi_left, further_left, hso_left, command_left, timers_left, gate_left}
use Rattle.kc_block_sfr.proofs.laws.what_is_left_is_scheduled.Goals as goal

pub returns-clause-unread : goal.returns-clause-unread
returns-clause-unread g c = unread_left g.X.Extra.further g.X.Extra.agrees

pub returns-clause-flag : goal.returns-clause-flag
returns-clause-flag g c = flag_left g.X.Extra.further g.X.Extra.agrees

pub returns-clause-hsi : goal.returns-clause-hsi
returns-clause-hsi g c = hsi_left g.X.Extra.further g.X.Extra.agrees

pub returns-clause-further : goal.returns-clause-further
returns-clause-further g c = further_left g.X.Extra.further g.X.Extra.agrees (record {
  rests = g.met.X.Extra.rests;
  rests_out = g.met.X.Extra.rests_out;
  rest_keeps = g.met.X.Extra.rest_keeps;
  keeps = g.met.X.Extra.keeps;
  start_keeps = g.met.X.Extra.start_keeps;
})

pub returns-clause-hso : goal.returns-clause-hso
returns-clause-hso g c = hso_left g.X.Extra.further g.X.Extra.agrees

pub returns-clause-command : goal.returns-clause-command
returns-clause-command g c = command_left g.X.Extra.further g.X.Extra.agrees

pub returns-clause-timers : goal.returns-clause-timers
returns-clause-timers g c = timers_left g.X.Extra.further g.X.Extra.agrees

pub returns-clause-gate : goal.returns-clause-gate
returns-clause-gate g c = gate_left g.X.Extra.further g.X.Extra.agrees
