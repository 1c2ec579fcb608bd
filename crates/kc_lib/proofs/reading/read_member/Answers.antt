use Rattle.std.proofs.Common.{◌≤◌, length, arith}
use Rattle.kc_lib.proofs.reading.read_member.Goals as goal

pub overflow_add-result-in-Err-At : goal.overflow_add-result-in-Err-At
overflow_add-result-in-Err-At c =
    let first = rw c.in-Err-At.field-0-is at c.in-Err-At.ensures.first in
    let within : c.in-Err-At.place ≤ length c.args.object.now = first.1 in
    record { fits = omega (arith, within, c.requires.at, c.requires.short) }
