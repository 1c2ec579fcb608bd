use Rattle.std.proofs.Common.{◌≡◌, ◌≤◌, length}
use Rattle.kc_obj.specs.Reading.{read_on, answer_of, first_fault}
use Rattle.kc_obj.proofs.decoding.read.Given as goal

abbrev pub invariant-loop-left : goal.invariant-loop-left
invariant-loop-left l = record {
  read : read_on first_fault l.left l.bytes l.at l.reading ≡ answer_of l.bytes;
  within : l.at ≤ length l.bytes;
}

abbrev pub decreases-loop-left : goal.decreases-loop-left
decreases-loop-left l = l.left
