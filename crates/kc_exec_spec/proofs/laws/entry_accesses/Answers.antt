use Rattle.kc_exec_spec.proofs.Counting.{entry-most}
use Rattle.kc_exec_spec.proofs.laws.entry_accesses.Goals as goal

pub returns : goal.returns
returns c = entry-most
