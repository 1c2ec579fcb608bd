use Rattle.std.proofs.Common.{length}
use Rattle.kc_branch.proofs.layout.+start.Given as goal

abbrev pub decreases-start : goal.decreases-start
decreases-start l = length l.pieces.now
