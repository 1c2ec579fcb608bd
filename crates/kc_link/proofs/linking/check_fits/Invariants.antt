use Rattle.std.proofs.Common.{◌≡◌, ◌+◌, length}
use Rattle.kc_link.specs.Placed.{unfit_by}
use Rattle.kc_link.proofs.linking.check_fits.Given as goal

abbrev pub invariant-loop-left : goal.invariant-loop-left
invariant-loop-left l = record {
  goes_on : unfit_by l.index l.left l.ahead ≡ unfit_by 0 l.fn.modules l.fn.bases;
  count : l.index + length l.left ≡ length l.fn.modules;
}

abbrev pub decreases-loop-left : goal.decreases-loop-left
decreases-loop-left l = length l.left
