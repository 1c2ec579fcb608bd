use Rattle.std.proofs.Common.{◌≡◌, ◌+◌, ◌≤◌, drop, length}
use Rattle.kc_branch.specs.Forms as spec
use Rattle.kc_branch.proofs.relaxation.branches.Given as goal

abbrev pub invariant-loop-piece : goal.invariant-loop-piece
invariant-loop-piece l = record {
  bound : l.count ≤ l.piece-index;
  counted : l.count + length (spec.start_forms (drop l.piece-index l.pieces)) ≡ length (spec.start_forms l.pieces);
}
