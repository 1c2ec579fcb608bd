use Rattle.kc_asm_list.proofs.Kept.{runs_rise}
use Rattle.kc_asm_list.proofs.relocatable_bytes.byte_at.Goals as goal

pub content_at-requires : goal.content_at-requires
content_at-requires c = rw c.contents.ensures (runs_rise c.args.object.now c.keeps_rules.ensures)
