use Rattle.kc_events.proofs.LifeLemmas.{steps_make_lives}
use Rattle.kc_events.proofs.laws.steps_make_lives.Goals as goal

pub returns : goal.returns
returns c = steps_make_lives
