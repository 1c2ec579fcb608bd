use Rattle.std.proofs.Common.{◌≡◌, ◌++◌, drop}
use Rattle.kc_asm_encode.specs.RelocatableBytes.{all_relocatable_bytes}
use Rattle.kc_asm_emit.proofs.chosen.joined.Given as goal

abbrev pub invariant-loop-insn : goal.invariant-loop-insn
invariant-loop-insn l = l.relocatable_bytes.items ++ all_relocatable_bytes (drop l.insn-index l.list) ≡ all_relocatable_bytes l.list
