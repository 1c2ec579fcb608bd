use Rattle.kc_timers.proofs.T2Laws.{view_shows}
use Rattle.kc_timers.proofs.view_shows_values.Goals as goal

pub returns : goal.returns
returns c = view_shows
