use Rattle.std.proofs.Common.{◌≡◌, ◌-◌, ◌≤◌, drop, length}
use Rattle.kc_lib.specs.Reading.{lengths_fault}
use Rattle.kc_lib.proofs.reading.check_lengths.Given as goal

abbrev pub invariant-loop-member : goal.invariant-loop-member
invariant-loop-member l = record {
  within : length l.left ≤ length l.bytes;
  same : lengths_fault (length l.bytes) (l.count - l._member) l.left ≡ lengths_fault (length l.bytes) l.count (drop 4 l.bytes);
}
