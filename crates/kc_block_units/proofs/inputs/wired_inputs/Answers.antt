use Rattle.std.proofs.Common.{◌≡◌, ◌+◌, ◌^◌, refl, sym, ◌∙◌, ap, arith}
use Rattle.std.specs.Prelude.{is_some, bit_or}
use Rattle.kc_base.specs.Bits.{weight}
use Rattle.kc_base.specs.Pins.{extint}
use Rattle.kc_stim.specs.Drives.{wire_to}
use Rattle.kc_block_spec.specs.Levels.{mask_of}
use Rattle.kc_block_units.proofs.InputMasks.{mask_next, wires_below, wires_above, no_wires}
use Rattle.kc_block_units.proofs.inputs.wired_inputs.Goals as goal

pub returns-then-has_no_wire : goal.returns-then-has_no_wire
returns-then-has_no_wire c = no_wires c.args.stimuli.now (λ o. is_some o) refl (sym c.has_no_wire.ensures ∙ c.if-has_no_wire.true)

pub loop-pin-init : goal.loop-pin-init
loop-pin-init c = sym (wires_below c.args.stimuli.now c.requires (λ o. is_some o) refl)

pub loop-pin-preserved : goal.loop-pin-preserved
loop-pin-preserved c =
    c.with_pin-mask.ensures
    ∙ ap (λ m. bit_or m (weight c.has_wire.result (2 ^ c.loop-pin.pin))) c.loop-pin.invariant
    ∙ ap (λ b. bit_or (mask_of (λ pin. is_some (wire_to c.args.stimuli.now.wires pin)) c.loop-pin.pin) (weight b (2 ^ c.loop-pin.pin))) c.has_wire.ensures
    ∙ sym (mask_next (λ pin. is_some (wire_to c.args.stimuli.now.wires pin)) c.loop-pin.pin)

pub returns : goal.returns
returns c =
    let all : c.loop-pin.pin ≡ extint + 1 = omega arith in
    c.loop-pin.invariant
    ∙ ap (mask_of (λ pin. is_some (wire_to c.args.stimuli.now.wires pin))) all
    ∙ sym (wires_above c.args.stimuli.now c.requires (λ o. is_some o) refl)
