use Rattle.kc_exec_spec.proofs.Counting.{any_trap-most}
use Rattle.kc_exec_spec.proofs.laws.trap_accesses.Goals as goal

pub returns : goal.returns
returns c = any_trap-most
