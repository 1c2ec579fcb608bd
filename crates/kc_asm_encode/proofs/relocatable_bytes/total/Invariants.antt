use Rattle.std.proofs.Common.{◌≡◌, ◌≤◌, ◌*◌, length, take}
use Rattle.kc_asm_encode.specs.RelocatableBytes.{all_relocatable_bytes}
use Rattle.kc_asm_encode.proofs.relocatable_bytes.total.Given as goal

abbrev pub invariant-loop-insn : goal.invariant-loop-insn
invariant-loop-insn l = record {
  count : l.count ≡ length (all_relocatable_bytes (take l.insn-index l.list));
  bound : l.count ≤ 8 * l.insn-index;
}
