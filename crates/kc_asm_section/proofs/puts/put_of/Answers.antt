use Rattle.std.proofs.Common.{◌+◌}
use Rattle.kc_asm_section.proofs.PlacedBytes.{room_left}
use Rattle.kc_asm_section.proofs.puts.put_of.Goals as goal

pub shown-requires : goal.shown-requires
shown-requires c = room_left (c.start_of.result + c.args.placed_byte.offset) c.args.placed_byte.relocatable_byte c.requires.starts
