use Rattle.std.proofs.Common.{◌≡◌}
use Rattle.std.specs.Prelude.{is_some}
use Rattle.kc_stim.specs.Drives.{wire_to}
use Rattle.kc_block_spec.specs.Levels.{mask_of}
use Rattle.kc_block_units.proofs.inputs.wired_inputs.Given as goal

abbrev pub invariant-loop-pin : goal.invariant-loop-pin
invariant-loop-pin l = l.mask ≡ mask_of (λ pin. is_some (wire_to l.stimuli.wires pin)) l.pin
