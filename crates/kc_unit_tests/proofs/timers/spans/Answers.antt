use Rattle.std.proofs.Common.{◌<◌, true, false, refl, arith}
use Rattle.kc_timers.specs.declared.T2Control.{T2Control}
use Rattle.kc_timers.proofs.T2Laws.{timer2_due}
use Rattle.kc_unit_tests.proofs.timers.spans.Goals as goal

abbrev slow : T2Control
slow = record { hsi1 = false; internal = true; fast = false; down = false; reset_on = false; reset_hsi0 = false }

pub quiet_to-requires-clause-quiet : goal.quiet_to-requires-clause-quiet
quiet_to-requires-clause-quiet g c = λ k lt.
    let small : 0 < 65536 = omega arith in
    let sooner : k < 524287 = omega arith in
    rw c.write.ensures ((timer2_due slow 0 (record { value = 0; captured = c.loop.timer.inner.captured }) small refl).before k sooner)
