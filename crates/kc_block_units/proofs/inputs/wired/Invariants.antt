use Rattle.std.proofs.Common.{◌≡◌}
use Rattle.kc_stim.specs.Drives.{wire_to}
use Rattle.kc_block_spec.specs.Levels.{mask_of, follows}
use Rattle.kc_block_units.proofs.inputs.wired.Given as goal

abbrev pub invariant-loop-pin : goal.invariant-loop-pin
invariant-loop-pin l = l.mask ≡ mask_of (λ pin. follows (wire_to l.stimuli.wires pin) l.outputs) l.pin
