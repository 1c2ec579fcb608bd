use Rattle.std.proofs.Common.{◌≡◌, ◌-◌, ◌≤◌, None, [], drop, length}
use Rattle.kc_lib.specs.Givers.{Knows}
use Rattle.kc_lib.specs.Reading.{lengths_fault, members}
use Rattle.kc_lib.proofs.reading.read_members.Given as goal

abbrev pub invariant-loop-member : goal.invariant-loop-member
invariant-loop-member l = record {
  within : length l.left ≤ length l.bytes;
  whole : lengths_fault (length l.bytes) (l.count - l._member) l.left ≡ None;
  knows : Knows l.givers.numbers.entries l.members.items;
  same : members (length l.bytes) (l.count - l._member) l.members.items l.left ≡ members (length l.bytes) l.count [] (drop 4 l.bytes);
}
