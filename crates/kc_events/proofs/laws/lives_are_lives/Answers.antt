use Rattle.kc_events.proofs.LifeLemmas.{lives_are_lives}
use Rattle.kc_events.proofs.laws.lives_are_lives.Goals as goal

pub returns : goal.returns
returns c = lives_are_lives
