use Rattle.kc_alu.proofs.Normal.{normalizing_goes_by_places}
use Rattle.kc_alu.proofs.laws.normalizing_goes_by_places.Goals as goal

pub returns : goal.returns
returns c = normalizing_goes_by_places
