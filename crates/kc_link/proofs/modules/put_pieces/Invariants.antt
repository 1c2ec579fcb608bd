use Rattle.std.proofs.Common.{◌≡◌, ◌+◌, ◌++◌, length}
use Rattle.kc_link.specs.Map as spec
use Rattle.kc_link.proofs.modules.put_pieces.Given as goal

abbrev pub invariant-loop-left : goal.invariant-loop-left
invariant-loop-left l = record {
  goes_on : l.text.items ++ spec.piece_lines l.placed l.index l.name l.number l.left ≡ l.initial.text.items ++ spec.piece_lines l.placed l.index l.name 0 l.fn.segments;
  count : l.number + length l.left ≡ length l.fn.segments;
}

abbrev pub decreases-loop-left : goal.decreases-loop-left
decreases-loop-left l = length l.left
