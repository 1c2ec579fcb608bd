use Rattle.std.proofs.Common.{◌&&◌, ◌^◌, sym, ◌∙◌, ap}
use Rattle.std.specs.Prelude.{bit_or}
use Rattle.kc_base.specs.Bits.{weight}
use Rattle.kc_base.specs.Levels.{is_high}
use Rattle.kc_stim.specs.Drives.{start_of}
use Rattle.kc_stim.specs.Proper.{is_driven}
use Rattle.kc_block_spec.specs.Levels.{mask_of}
use Rattle.kc_block_units.proofs.InputMasks.{mask_next, mask_start}
use Rattle.kc_block_units.proofs.inputs.start_levels.Goals as goal

pub loop-pin-init : goal.loop-pin-init
loop-pin-init c = sym (mask_start (λ pin. is_driven c.args.stimuli.now pin && is_high (start_of c.args.stimuli.now.stimuli.start pin)))

pub loop-pin-preserved : goal.loop-pin-preserved
loop-pin-preserved c =
    c.with_pin-mask.ensures
    ∙ ap (λ m. bit_or m (weight c.starts_driven_high.result (2 ^ c.loop-pin.pin))) c.loop-pin.invariant
    ∙ ap (λ b. bit_or (mask_of (λ pin. is_driven c.args.stimuli.now pin && is_high (start_of c.args.stimuli.now.stimuli.start pin)) c.loop-pin.pin) (weight b (2 ^ c.loop-pin.pin))) c.starts_driven_high.ensures
    ∙ sym (mask_next (λ pin. is_driven c.args.stimuli.now pin && is_high (start_of c.args.stimuli.now.stimuli.start pin)) c.loop-pin.pin)
