use Rattle.kc_asm_laws.proofs.Anchors.{anchors_hold}
use Rattle.kc_asm_laws.proofs.branches.anchors_hold.Goals as goal

pub returns : goal.returns
returns c = anchors_hold
