use Rattle.std.proofs.Common.{◌≡◌, ◌+◌, ◌*◌, ◌≤◌, ◌++◌, length}
use Rattle.kc_profile.specs.Cover as spec
use Rattle.kc_profile.proofs.cover.put_jump_lines.Given as goal

abbrev pub invariant-loop-left : goal.invariant-loop-left
invariant-loop-left l = record {
  goes_on : l.text.items ++ spec.jumps_text l.statistics l.line l.before l.left ≡ l.initial.text.items ++ spec.jumps_text l.statistics 0 0 l.fn.instructions;
  few : l.before + length l.left ≤ length l.fn.instructions;
}

abbrev pub decreases-loop-left : goal.decreases-loop-left
decreases-loop-left l = length l.left
