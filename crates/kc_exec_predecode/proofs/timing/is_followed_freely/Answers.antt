use Rattle.kc_exec_predecode.proofs.Known.{free_known}
use Rattle.kc_exec_predecode.proofs.timing.is_followed_freely.Goals as goal

pub returns-clause-free : goal.returns-clause-free
returns-clause-free c = λ predecoded. free_known c.args.predecoded.now predecoded
