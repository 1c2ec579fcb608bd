use Rattle.kc_trace.proofs.Outs.{Puts-append}
use Rattle.kc_trace.proofs.laws.texts_join.Goals as goal

pub returns : goal.returns
returns c = Puts-append
