use Rattle.std.proofs.Common.{◌≡◌, ◌+◌, ◌-◌, sym, subst, arith}
use Rattle.kc_machine.specs.Prepared.{IsSlot}
use Rattle.kc_machine.proofs.Prepared.{table_keep}
use Rattle.kc_machine.proofs.common.Common.look_ahead.Goals as goal

pub invariant_of-self-clause-known : goal.invariant_of-self-clause-known
invariant_of-self-clause-known g c =
    let common = c.args.self.now in
    let has = c.if-has_slot.ensures in
    let place : 0x2000 + (c.args.addr - 0x2000) ≡ c.args.addr = omega (arith, has.0) in
    table_keep common.predecoded.items common.memory.items (c.args.addr - 0x2000) c.prepared_at.result (omega (arith, common.predecoded.ok.0, common.slots, has.0, has.1))
    (subst (λ at. IsSlot common.memory.items at c.prepared_at.result) (sym place) c.prepared_at.ensures) common.known
