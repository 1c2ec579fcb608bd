use Rattle.kc_machine_spec.proofs.Coming.{rows-nothing, rows-more}
use Rattle.kc_machine.proofs.finals.put_registers.Goals as goal

pub loop-row-init : goal.loop-row-init
loop-row-init g c = rows-nothing _ _

pub loop-row-preserved : goal.loop-row-preserved
loop-row-preserved g c = rows-more _ _ _ _ _ c.loop-row.invariant (rw c.row_of-bytes.ensures at c.put_one.ensures)
