-- The levels of the inputs before state 0.
use Rattle.std.proofs.Common.{◌≡◌, ℕ, ◌<◌, ◌==◌, Bool, true, false, ◌&&◌, refl, ◌∙◌, ap, arith, Option, []}
use Rattle.std.specs.Prelude.{is_none}
use Rattle.kc_base.specs.Bits.{bit, weight}
use Rattle.kc_base.specs.Levels.{is_high}
use Rattle.kc_base.specs.Pins.{pin_count, pin_facts, is_input, may_be_wired, rxd}
use Rattle.kc_stim.specs.Drives.{Drives, start_of}
use Rattle.kc_stim.specs.Proper.{AreProper, is_driven}
use Rattle.kc_block_spec.specs.Levels.{stimulated_before}
use Rattle.kc_block_spec.proofs.Masks.{mask_bit}
use Rattle.kc_block_units.proofs.InputMasks.{no_wire}

-- an input that may not be wired has its level of the start
pub unwired_start : (d : Drives) (pin : ℕ) → AreProper d → pin < pin_count → is_input pin ≡ true → may_be_wired pin ≡ false →
    bit (stimulated_before d 0) pin ≡ is_high (start_of d.stimuli.start pin)
unwired_start d pin proper lt input other =
    let driven : is_driven d pin ≡ true =
    ap (λ (wire : Option ℕ). is_input pin && is_none wire) (no_wire d pin proper other) ∙ ap (λ is. is && true) input in
    ap (λ n. n == 1) (mask_bit (λ n. is_driven d n && is_high (start_of d.stimuli.start n)) pin_count pin lt ∙ ap (λ is. weight (is && is_high (start_of d.stimuli.start pin)) 1) driven)
    ∙ weighed (is_high (start_of d.stimuli.start pin))
  where
    weighed : (b : Bool) → (weight b 1 == 1) ≡ b
    weighed true = refl
    weighed false = refl

pub rxd_starts_high : (d : Drives) → AreProper d → d.stimuli.start ≡ [] → bit (stimulated_before d 0) rxd ≡ true
unfolding pin_facts
rxd_starts_high d proper first =
    unwired_start d rxd proper (omega arith) refl refl ∙ ap (λ known. is_high (start_of known rxd)) first
