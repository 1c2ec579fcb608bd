use Rattle.std.proofs.Common.{◌≡◌, ◌+◌, ◌^◌, refl, sym, ◌∙◌, ap, arith}
use Rattle.std.specs.Prelude.{bit_or}
use Rattle.kc_base.specs.Bits.{weight}
use Rattle.kc_base.specs.Pins.{extint}
use Rattle.kc_stim.specs.Drives.{wire_to}
use Rattle.kc_block_spec.specs.Levels.{mask_of, follows}
use Rattle.kc_block_units.proofs.InputMasks.{mask_next, wires_below, wires_above, no_wires}
use Rattle.kc_block_units.proofs.inputs.wired.Goals as goal

pub returns-then-has_no_wire : goal.returns-then-has_no_wire
returns-then-has_no_wire c = no_wires c.args.stimuli.now (λ o. follows o c.args.outputs) refl (sym c.has_no_wire.ensures ∙ c.if-has_no_wire.true)

pub loop-pin-init : goal.loop-pin-init
loop-pin-init c = sym (wires_below c.args.stimuli.now c.requires (λ o. follows o c.args.outputs) refl)

pub loop-pin-preserved : goal.loop-pin-preserved
loop-pin-preserved c =
    c.with_pin-mask.ensures
    ∙ ap (λ m. bit_or m (weight c.follows.result (2 ^ c.loop-pin.pin))) c.loop-pin.invariant
    ∙ ap (λ b. bit_or (mask_of (λ pin. follows (wire_to c.args.stimuli.now.wires pin) c.args.outputs) c.loop-pin.pin) (weight b (2 ^ c.loop-pin.pin))) c.follows.ensures
    ∙ sym (mask_next (λ pin. follows (wire_to c.args.stimuli.now.wires pin) c.args.outputs) c.loop-pin.pin)

pub returns : goal.returns
returns c =
    let all : c.loop-pin.pin ≡ extint + 1 = omega arith in
    c.loop-pin.invariant
    ∙ ap (mask_of (λ pin. follows (wire_to c.args.stimuli.now.wires pin) c.args.outputs)) all
    ∙ sym (wires_above c.args.stimuli.now c.requires (λ o. follows o c.args.outputs) refl)
