use Rattle.std.proofs.Common.{◌≡◌, ◌++◌, map, take}
use Rattle.kc_asm_encode.specs.declared.relocatable_byte.RelocatableByte.TheVariants as relocatable_bytes
use Rattle.kc_asm_emit.proofs.items.push_bytes.Given as goal

abbrev pub invariant-loop-byte : goal.invariant-loop-byte
invariant-loop-byte l = l.list.items ≡ l.fn.list.items ++ map relocatable_bytes.Plain (take l.byte-index l.bytes)
