use Rattle.std.proofs.Common.{◌≡◌, ◌<◌, length, get_or, rules}
use Rattle.kc_vcd.proofs.Trimmed.{skip_step}
use Rattle.kc_vcd.proofs.writing.trimmed.Goals as goal

pub loop-left-preserved : goal.loop-left-preserved
loop-left-preserved c =
    let zero : get_or c.loop-left.left.now 0 0 ≡ 48 = search rules in
    let some : 1 < length c.loop-left.left.now = search rules in
    skip_step c.loop-left.left.now c.args.digits.now zero some c.loop-left.invariant
