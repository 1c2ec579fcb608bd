use Rattle.kc_asm_laws.proofs.Reached.{targets_are_reached}
use Rattle.kc_asm_laws.proofs.branches.targets_are_reached.Goals as goal

pub returns : goal.returns
returns c = targets_are_reached c.sizes_are_numbered.ensures c.branches_reach.ensures
