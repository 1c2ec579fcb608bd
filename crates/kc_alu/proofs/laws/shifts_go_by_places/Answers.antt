use Rattle.kc_alu.proofs.Places.{shifts_go_by_places}
use Rattle.kc_alu.proofs.laws.shifts_go_by_places.Goals as goal

pub returns : goal.returns
returns c = shifts_go_by_places
