use Rattle.std.proofs.Common.{◌≡◌, length}
use Rattle.kc_link_place.specs.Placing.{put_at}
use Rattle.kc_link_place.proofs.places.put_at.Given as goal

abbrev pub invariant-loop-left : goal.invariant-loop-left
invariant-loop-left l = put_at l.left l.index l.number ≡ put_at l.fn.puts l.fn.index l.fn.number

abbrev pub decreases-loop-left : goal.decreases-loop-left
decreases-loop-left l = length l.left
