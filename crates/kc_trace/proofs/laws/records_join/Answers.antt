use Rattle.kc_trace.proofs.Printed.{Prints-append}
use Rattle.kc_trace.proofs.laws.records_join.Goals as goal

pub returns : goal.returns
returns c = Prints-append
