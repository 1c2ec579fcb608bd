use Rattle.std.proofs.Common.{◌≡◌, ◌<◌, ◌≤◌, ◌%◌, arith}
use Rattle.std.proofs.lemmas.Bool.Decides.{nat_tests}
use Rattle.kc_convert.proofs.PulseSpanLaws.{fall_due, rise_due, never_rises}
use Rattle.kc_convert.proofs.pulses.next_edge.Goals.{else-place-ne0-via-then-place-ne0+else-place-width, else-place-ne0-via-else-place-ne0}
use Rattle.kc_convert.proofs.pulses.next_edge.Goals as goal

pub returns-then-place-width : goal.returns-then-place-width
returns-then-place-width c = λ pin.
    let width : c.from-width.result ≡ c.args.in_force = c.from-width.ensures in
    let on : c.args.now % 256 ≡ 0 → ⊥ = λ e. grind (arith, nat_tests) in
    let le : c.args.now % 256 ≤ c.args.in_force = grind (arith, nat_tests) in
    let byte : c.args.in_force < 256 = c.ranges.in_force.fits in
    rw width (fall_due pin c.args.now _ on le byte)

pub returns-then-written-eq0 : goal.returns-then-written-eq0
returns-then-written-eq0 c = λ pin.
    let width : c.from-width.result ≡ c.args.in_force = c.from-width.ensures in
    let none : c.args.written ≡ 0 = grind (arith, nat_tests) in
    let low : (c.args.now % 256 ≡ 0 → ⊥) → c.args.in_force < c.args.now % 256 = λ on. elim c.else-place-ne0.branch [
      | else-place-ne0-via-then-place-ne0+else-place-width w ↦ grind (arith, nat_tests, w.if-place-width.false)
      | else-place-ne0-via-else-place-ne0 w ↦ grind (arith, nat_tests, w.if-place-ne0.false)
    ] in
    never_rises pin c.args.now _ low none

pub returns : goal.returns
returns c = λ pin.
    let width : c.from-width.result ≡ c.args.in_force = c.from-width.ensures in
    let some : 0 < c.args.written = grind (arith, nat_tests) in
    let low : (c.args.now % 256 ≡ 0 → ⊥) → c.args.in_force < c.args.now % 256 = λ on. elim c.else-place-ne0.branch [
      | else-place-ne0-via-then-place-ne0+else-place-width w ↦ grind (arith, nat_tests, w.if-place-width.false)
      | else-place-ne0-via-else-place-ne0 w ↦ grind (arith, nat_tests, w.if-place-ne0.false)
    ] in
    rw c.periods_before.ensures (rise_due pin c.args.now _ low some)
