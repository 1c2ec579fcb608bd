use Rattle.std.proofs.Common.{drop}
use Rattle.kc_trace.proofs.Printed.{Prints-append}
use Rattle.kc_machine_spec.specs.declared.doing.End.TheVariants.{Spent}
use Rattle.kc_machine_spec.specs.Text.{processor_lines, register_rows}
use Rattle.kc_machine.specs.Seen.{machine_of}
use Rattle.kc_machine.proofs.finals.put_state.Goals as goal

pub returns : goal.returns
returns g c =
    Prints-append _ (drop 1 (processor_lines Spent (machine_of c.args.core.now))) _ (register_rows 16 c.args.core.now.bus.memory.items) _ c.put_processor.ensures (rw c.deref.ensures.value at c.put_registers.ensures)
