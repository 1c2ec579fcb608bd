use Rattle.kc_bound.proofs.Rising.{notes_stand}
use Rattle.kc_bound.proofs.laws.notes_stand_by_address.Goals as goal

pub returns : goal.returns
returns c = notes_stand
