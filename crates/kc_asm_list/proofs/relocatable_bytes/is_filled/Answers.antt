use Rattle.kc_asm_list.proofs.Kept.{fixups_rise}
use Rattle.kc_asm_list.proofs.relocatable_bytes.is_filled.Goals as goal

pub fill-requires : goal.fill-requires
fill-requires c = rw c.fixups.ensures (fixups_rise c.args.object.now c.keeps_rules.ensures)
