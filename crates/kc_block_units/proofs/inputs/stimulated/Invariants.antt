use Rattle.std.proofs.Common.{◌≡◌, ◌&&◌}
use Rattle.kc_base.specs.Levels.{is_high}
use Rattle.kc_stim.specs.Drives.{level_at}
use Rattle.kc_stim.specs.Proper.{is_driven}
use Rattle.kc_block_spec.specs.Levels.{mask_of}
use Rattle.kc_block_units.proofs.inputs.stimulated.Given as goal

abbrev pub invariant-loop-pin : goal.invariant-loop-pin
invariant-loop-pin l = l.mask ≡ mask_of (λ pin. is_driven l.stimuli pin && is_high (level_at l.stimuli.stimuli pin l.at)) l.pin
