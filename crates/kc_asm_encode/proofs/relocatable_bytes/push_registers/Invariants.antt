use Rattle.std.proofs.Common.{◌≡◌, ◌++◌, map, take, drop, ◌+◌}
use Rattle.arrayvec.specs.ArrayVec.{array_vec_len}
use Rattle.kc_asm_encode.specs.RelocatableBytes as relocatable_bytes
use Rattle.kc_asm_encode.proofs.relocatable_bytes.push_registers.Given as goal

abbrev pub invariant-loop-value : goal.invariant-loop-value
invariant-loop-value l = record {
  items : l.list.items ≡ l.fn.list.items ++ map relocatable_bytes.byte_of (take l.value-index (drop l.fn.from l.fn.regs));
  len : array_vec_len l.list ≡ array_vec_len l.fn.list + l.value-index;
}
