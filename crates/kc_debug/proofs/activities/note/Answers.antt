use Rattle.kc_debug.proofs.Passing.{busy, kept-same}
use Rattle.kc_debug.proofs.activities.note.Goals as goal

pub returns-else-between : goal.returns-else-between
returns-else-between g c = kept-same c.args.begun.now _ c.requires (busy c.args.machine.now.machine c.between.result c.if-between.false c.between.ensures)
