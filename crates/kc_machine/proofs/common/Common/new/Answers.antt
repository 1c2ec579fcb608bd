use Rattle.std.proofs.Common.{sym, subst}
use Rattle.kc_machine.specs.Prepared.{IsTable}
use Rattle.kc_machine.proofs.Prepared.{table_blank}
use Rattle.kc_machine.proofs.common.Common.new.Goals as goal

pub invariant_of-result-clause-known : goal.invariant_of-result-clause-known
invariant_of-result-clause-known g c =
    subst (λ items. IsTable items c.args.memory.items) (sym (c.in_ok-predecoded.ensures.items_if_clones_equal (λ y h. h)))
    (table_blank c.args.memory.items 0x3FFA c.blank.result c.blank.ensures)
