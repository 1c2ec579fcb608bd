use Rattle.std.proofs.Common.{◌≡◌, [], refl}
use Rattle.kc_trace.proofs.Printed.{Prints-none}
use Rattle.kc_machine.proofs.parts.Core.put_edges.Goals as goal

pub returns-then-is_empty : goal.returns-then-is_empty
returns-then-is_empty g c =
    let none : c.args.self.now.bus.edges ≡ [] = rw c.if-is_empty.true at c.is_empty.ensures in
    rw none (Prints-none [] _ refl)
