use Rattle.std.proofs.Common.{sym, subst, List}
use Rattle.std.specs.List.{All}
use Rattle.kc_asm_encode.specs.declared.relocatable_byte.RelocatableByte.{RelocatableByte}
use Rattle.kc_asm_encode.specs.Relocating.{HasRoom}
use Rattle.kc_asm_encode.proofs.Most.{relocatables_have_room}
use Rattle.kc_asm_encode.proofs.relocatable_bytes.relocatables_of.Goals as goal

pub returns-clause-room : goal.returns-clause-room
returns-clause-room c = λ place. subst (λ (os : List RelocatableByte). All (HasRoom place) os) (sym c.row_relocatables.ensures.items) (relocatables_have_room c.args.insn.now c.row_relocatables.ensures.opcode place)
