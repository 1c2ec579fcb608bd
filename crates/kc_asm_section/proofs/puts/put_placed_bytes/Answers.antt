use Rattle.std.proofs.Common.{refl}
use Rattle.kc_asm_section.proofs.PlacedBytes.{placed_bytes_below}
use Rattle.kc_asm_section.proofs.puts.put_placed_bytes.Goals as goal

pub loop-left-init : goal.loop-left-init
loop-left-init c = rw c.placed_bytes-left.ensures.placed_bytes (c.requires.starts, placed_bytes_below c.args.part.now c.placed_bytes-left.ensures.section, refl)
