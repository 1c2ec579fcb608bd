use Rattle.std.proofs.Common.{◌-◌, drop, length, refl, arith}
use Rattle.std.proofs.lemmas.Option.{slice_get_read}
use Rattle.kc_asm_section.proofs.Gathering.{addable_at, addable_after, addable_first}
use Rattle.kc_asm_section.proofs.gather.gather.Goals as goal

pub gather_all-requires-clause-of_registers : goal.gather_all-requires-clause-of_registers
gather_all-requires-clause-of_registers c =
    addable_at c.args.parts.now 0 c.registers-item.result c.requires.parts (slice_get_read c.args.parts.now (length c.args.parts.now) 0 c.registers-item.result refl (omega arith) c.registers-item.is)

pub gather_all-requires-clause-of_code : goal.gather_all-requires-clause-of_code
gather_all-requires-clause-of_code c =
    addable_at c.args.parts.now 1 c.code-item.result c.requires.parts (slice_get_read c.args.parts.now (length c.args.parts.now) 1 c.code-item.result refl (omega arith) c.code-item.is)

pub gather_all-requires-clause-of_ram : goal.gather_all-requires-clause-of_ram
gather_all-requires-clause-of_ram c =
    addable_at c.args.parts.now 2 c.ram-item.result c.requires.parts (slice_get_read c.args.parts.now (length c.args.parts.now) 2 c.ram-item.result refl (omega arith) c.ram-item.is)

pub gather_all-requires-clause-of_absolute : goal.gather_all-requires-clause-of_absolute
gather_all-requires-clause-of_absolute c = addable_first (length c.args.parts.now - 3) (drop 3 c.args.parts.now) (addable_after 3 c.args.parts.now c.requires.parts)
