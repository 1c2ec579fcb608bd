use Rattle.std.proofs.Common.{◌≤◌, length, arith}
use Rattle.kc_asm_origin.proofs.reporting.reports_with.Goals as goal

pub reports-requires : goal.reports-requires
reports-requires c =
    let few : length c.in_ok-changed.changed.items ≤ 65535 = omega (arith, c.in_ok-changed.ensures.each, c.requires) in
    rw c.deref.ensures.value few
