use Rattle.std.specs.Prelude.{slice_index_or, None}
use Rattle.kc_hso.proofs.Found.{due_found}
use Rattle.kc_hso.proofs.hso.Hso.slot_due.Goals as goal

pub returns-clause-found : goal.returns-clause-found
returns-clause-found c =
    rw (← c.self.view_is)
    (due_found c.args.t2 c.args.now c.args.slot (slice_index_or c.self.inside.slots c.args.slot None) c.slot_due.result c.slot_due.ensures.due c.slot_due.ensures.bound)
