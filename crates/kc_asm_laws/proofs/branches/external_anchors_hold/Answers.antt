use Rattle.kc_asm_laws.proofs.Anchors.{external_anchors_hold}
use Rattle.kc_asm_laws.proofs.branches.external_anchors_hold.Goals as goal

pub returns : goal.returns
returns c = external_anchors_hold
