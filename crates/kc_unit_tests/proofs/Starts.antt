-- HSI3 is low before state 0, be it wired or not.
use Rattle.std.proofs.Common.{[], ◌≡◌, ◌==◌, Bool, true, false, ◌&&◌, refl, ◌∙◌, ap, arith}
use Rattle.std.specs.Int.{bit_at}
use Rattle.kc_base.specs.Bits.{bit, weight}
use Rattle.kc_base.specs.Levels.{is_high}
use Rattle.kc_base.specs.Pins.{pin_count, pin_facts}
use Rattle.kc_stim.specs.Drives.{Drives, level_before, start_of}
use Rattle.kc_stim.specs.Proper.{is_driven}
use Rattle.kc_block_spec.specs.Levels.{stimulated_before}
use Rattle.kc_block_spec.proofs.Masks.{mask_bit}
use Rattle.kc_unit_tests.specs.Blinking.{new_beacon, beacon_agrees}
use Rattle.kc_unit_tests.specs.BlinkingLaws.{twice}
use Rattle.kc_unit_tests.specs.Starting.{FitsEachBoard}

no_level : (b : Bool) → (b && false) ≡ false
no_level true = refl
no_level false = refl

low_at_start : (drives : Drives) → drives.stimuli.start ≡ [] → bit (stimulated_before drives 0) 21 ≡ false
unfolding pin_facts
low_at_start drives first =
    let one : bit_at (stimulated_before drives 0) 21 ≡ weight (is_driven drives 21 && false) 1 =
    mask_bit (λ pin. is_driven drives pin && is_high (level_before drives.stimuli pin 0)) pin_count 21 (omega arith)
    ∙ ap (λ known. weight (is_driven drives 21 && is_high (start_of known 21)) 1) first in
    ap (λ n. n == 1) (one ∙ ap (λ b. weight b 1) (no_level (is_driven drives 21)))

pub fits_each_board : FitsEachBoard beacon_agrees (record { inner = new_beacon; moves = 0 })
fits_each_board drives m first = ap (λ n. bit n 21) (twice (stimulated_before drives 0) m) ∙ low_at_start drives first
