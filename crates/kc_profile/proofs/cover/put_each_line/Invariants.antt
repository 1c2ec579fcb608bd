use Rattle.std.proofs.Common.{◌≡◌, ◌+◌, ◌≤◌, ◌++◌, length}
use Rattle.std.specs.Prelude.{count_by, flat_map}
use Rattle.kc_profile.specs.Cover as spec
use Rattle.kc_profile.proofs.cover.put_each_line.Given as goal

abbrev pub invariant-loop-left : goal.invariant-loop-left
invariant-loop-left l = record {
  goes_on : l.text.items ++ flat_map spec.line_line (spec.lines_of l.statistics l.times l.left) ≡ l.initial.text.items ++ flat_map spec.line_line (spec.lines_of l.statistics 0 l.fn.instructions);
  found : l.tally.found + length (spec.lines_of l.statistics l.times l.left) ≡ length (spec.lines_of l.statistics 0 l.fn.instructions);
  hit : l.tally.hit + count_by spec.has_run (spec.lines_of l.statistics l.times l.left) ≡ count_by spec.has_run (spec.lines_of l.statistics 0 l.fn.instructions);
  part : l.tally.hit ≤ l.tally.found;
  few : l.tally.found + length l.left ≤ length l.fn.instructions;
}

abbrev pub decreases-loop-left : goal.decreases-loop-left
decreases-loop-left l = length l.left
