use Rattle.std.proofs.Common.{[], refl}
use Rattle.kc_trace.proofs.Printed.{Prints-none, Prints-one}
use Rattle.kc_machine.proofs.passing.put_last.Goals as goal

pub returns-in-Some : goal.returns-in-Some
returns-in-Some g c = rw c.in-Some.is (Prints-one _ _ _ c.put_one.ensures)

pub returns-in_default : goal.returns-in_default
returns-in_default g c = rw c.in_default.is (Prints-none [] _ refl)
