use Rattle.std.proofs.Common.{◌≡◌, ℕ, ◌+◌, ◌-◌, ◌*◌, ◌/◌, ◌<◌, ◌≤◌, true, subst, sym, ◌∙◌, ap, Some}
use Rattle.kc_serial.specs.Frames.{bit_length}
use Rattle.kc_serial.specs.Quiet.{keeps_level, SendingBefore}
use Rattle.kc_serial.specs.declared.sending.Sending.TheVariants.{Busy}
use Rattle.kc_serial.proofs.FrameLaws.{frame_before}
use Rattle.kc_serial.proofs.sending.sending_left.Goals as goal

pub returns-else-is_over-clause-before : goal.returns-else-is_over-clause-before
returns-else-is_over-clause-before c =
    let bit : c.bit_length-bit.result ≡ bit_length c.in-Busy.frame.rate = c.bit_length-bit.ensures.value in
    let found : SendingBefore (Busy c.in-Busy.frame) (Some (c.next_change-change.result * bit_length c.in-Busy.frame.rate - 1 - c.in-Busy.frame.age)) =
    frame_before c.in-Busy.frame.byte c.in-Busy.frame.rate c.in-Busy.frame.age c.next_change-change.result
    (subst (λ b. c.in-Busy.frame.age / b + 1 ≤ c.next_change-change.result) bit c.next_change-change.ensures.later)
    c.next_change-change.ensures.within
    (subst (λ b. (i : ℕ) → c.in-Busy.frame.age / b + 1 ≤ i → i < c.next_change-change.result → keeps_level c.in-Busy.frame.byte i ≡ true) bit c.next_change-change.ensures.same)
    c.next_change-change.ensures.other in
    let left : c.next_change-change.result * bit_length c.in-Busy.frame.rate - 1 - c.in-Busy.frame.age ≡ c.from.result =
    sym (c.from.ensures ∙ ap (λ b. c.next_change-change.result * b - 1 - c.in-Busy.frame.age) bit) in
    subst (λ s. SendingBefore s (Some c.from.result)) (sym c.in-Busy.is) (subst (λ n. SendingBefore (Busy c.in-Busy.frame) (Some n)) left found)
