use Rattle.kc_exec_spec.proofs.Counting.{word-most}
use Rattle.kc_exec_spec.proofs.laws.word_accesses.Goals as goal

pub returns : goal.returns
returns c = word-most
