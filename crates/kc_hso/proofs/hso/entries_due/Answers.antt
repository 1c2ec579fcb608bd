use Rattle.std.proofs.Common.{◌≡◌, None, ◌-◌, w8, arith, rules}
use Rattle.std.specs.Prelude.{bit_and}
use Rattle.std.proofs.lemmas.Nat.Bits.{bit_at-trailing_zeros}
use Rattle.kc_hso.proofs.DueTimes.{due_more}
use Rattle.kc_hso.proofs.Standing.{other_bits}
use Rattle.kc_hso.proofs.hso.entries_due.Goals as goal

pub loop-left-preserved : goal.loop-left-preserved
loop-left-preserved c = λ command latches.
    let left = c.loop-left.left in
    let low = bit_at-trailing_zeros w8 left (omega (arith, c.loop-left-test.true)) (search rules) in
    rw c.earlier-best.ensures
    (due_more c.args.view c.args.now (record { command = command; slots = c.args.slots.now; holding = None; latches = latches })
    _ left (bit_and left (left - 1)) (λ k lt other. other_bits left _ k low.1 low.2 other)
    c.loop-left.best c.slot_due.result (c.loop-left.invariant command latches) c.slot_due.ensures.due)

pub returns : goal.returns
returns c = λ command latches.
    let none : c.loop-left.left ≡ 0 = omega (arith, c.loop-left-test.false) in
    rw none at (c.loop-left.invariant command latches)
