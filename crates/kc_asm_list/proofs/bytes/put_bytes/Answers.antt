use Rattle.std.proofs.Common.{◌≡◌, ◌<◌, arith}
use Rattle.std.proofs.lemmas.Grind.{common_steps}
use Rattle.kc_asm_list.proofs.Steps.{one_more, no_more}
use Rattle.kc_asm_list.proofs.bytes.put_bytes.Goals as goal

pub loop-left-preserved : goal.loop-left-preserved
loop-left-preserved c =
    let some : 0 < c.loop-left.left = omega (arith, c.loop-left-test.true) in
    let step = one_more c.args.object.now c.args.spot.now c.loop-left.column c.loop-left.at c.loop-left.left some in
    record {
      columns = c.column_after-column.ensures.within;
      within = omega (arith, some, c.loop-left.invariant.within);
      goes_on = grind (arith, common_steps, step, c.loop-left.invariant.goes_on, c.in_ok-put_turn.ensures, c.in_ok-put_relocatable.ensures, c.column_after-column.ensures.value);
    }

pub returns : goal.returns
returns c =
    let zero : c.loop-left.left ≡ 0 = omega (arith, c.loop-left-test.false) in
    let last = no_more c.args.object.now c.args.spot.now c.loop-left.column c.loop-left.at in
    grind (arith, common_steps, zero, last, c.loop-left.invariant.goes_on)
