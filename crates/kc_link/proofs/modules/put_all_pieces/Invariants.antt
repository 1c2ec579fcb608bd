use Rattle.std.proofs.Common.{◌≡◌, ◌+◌, ◌++◌, length}
use Rattle.kc_link.specs.Map as spec
use Rattle.kc_link.proofs.modules.put_all_pieces.Given as goal

abbrev pub invariant-loop-left : goal.invariant-loop-left
invariant-loop-left l = record {
  goes_on : l.text.items ++ spec.all_piece_lines l.placed l.index l.left ≡ l.initial.text.items ++ spec.all_piece_lines l.placed 0 l.fn.modules;
  count : l.index + length l.left ≡ length l.fn.modules;
}

abbrev pub decreases-loop-left : goal.decreases-loop-left
decreases-loop-left l = length l.left
