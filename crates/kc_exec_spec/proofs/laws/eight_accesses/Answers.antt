use Rattle.kc_exec_spec.proofs.Counting.{effect-most}
use Rattle.kc_exec_spec.proofs.laws.eight_accesses.Goals as goal

pub returns : goal.returns
returns c = effect-most
