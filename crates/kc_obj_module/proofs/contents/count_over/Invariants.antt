use Rattle.std.proofs.Common.{◌≡◌, ◌-◌, ◌≤◌, true, length, drop}
use Rattle.kc_obj_module.specs.Contents.{contents_in_order, SameFrom}
use Rattle.kc_obj_module.proofs.contents.count_over.Given as goal

abbrev pub invariant-loop-n : goal.invariant-loop-n
invariant-loop-n l = record {
  within : l.n ≤ length l.contents;
  ordered : contents_in_order (drop l.n l.contents) ≡ true;
  same : SameFrom l.piece l.offset (drop l.n l.contents) l.contents;
}

abbrev pub decreases-loop-n : goal.decreases-loop-n
decreases-loop-n l = length l.contents - l.n
