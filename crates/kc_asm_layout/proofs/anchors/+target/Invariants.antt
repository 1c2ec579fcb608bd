use Rattle.std.proofs.Common.{length}
use Rattle.kc_asm_layout.proofs.anchors.+target.Given as goal

abbrev pub decreases-target : goal.decreases-target
decreases-target l = length l.args.now
