use Rattle.std.proofs.Common.{◌≡◌, ◌<◌, false, not, length, arith}
use Rattle.kc_bound_find.specs.Refusals.{is_of_instruction}
use Rattle.kc_bound_find.proofs.Refusing.{joined, some_given}
use Rattle.kc_bound_find.proofs.finding.find.Goals as goal

pub returns-in_ok-rising-in-Refused : goal.returns-in_ok-rising-in-Refused
returns-in_ok-rising-in-Refused c =
    let before = c.reach.new.refused.items in
    let given = c.refuse_all.new.refused.items in
    let why = c.in-Refused.why in
    let others = c.in-Refused.addresses.items in
    let is = rw c.as_slice.ensures.value at c.in_ok-refuse_all-in-Refused.ensures in
    let solved : (is_of_instruction why ≡ false) × (not c.is_empty.result ≡ false → 0 < length others) = rw c.in-Refused.is at c.in_ok-found.ensures in
    joined c.args.image.now c.args.notes.now before given c.in_ok-rising-in-Refused.field-0.items why others
    c.in_ok-table.ensures solved.0 is (some_given before given why others c.reach.new.refused.len c.is_empty.result (omega (arith, c.reach.new.refused.ok.0)) c.is_empty.ensures is solved.1) c.in_ok-rising-in-Refused.ensures
