use Rattle.std.proofs.Common.{◌≡◌, ◌+◌, ◌-◌, arith}
use Rattle.std.proofs.lemmas.Grind.{common_steps}
use Rattle.kc_asm_list.proofs.Steps.{no_more}
use Rattle.kc_asm_list.proofs.statements.put_rest.Goals as goal

pub returns-else-count-gt8 : goal.returns-else-count-gt8
returns-else-count-gt8 c =
    let zero : c.args.count - 8 ≡ 0 = omega (arith, c.if-count-gt8.false) in
    let last = no_more c.args.object.now c.args.spot.now 8 (c.args.spot.now.place + 8) in
    grind (arith, common_steps, zero, last)
