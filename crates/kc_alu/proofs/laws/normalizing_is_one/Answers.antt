use Rattle.kc_alu.proofs.Normal.{normalizing_is_one}
use Rattle.kc_alu.proofs.laws.normalizing_is_one.Goals as goal

pub returns : goal.returns
returns c = normalizing_is_one
