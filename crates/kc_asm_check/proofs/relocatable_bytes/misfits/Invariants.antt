use Rattle.std.proofs.Common.{◌≡◌, drop}
use Rattle.kc_lex.specs.Codes.{lesser_number}
use Rattle.kc_asm_emit.specs.Faults.{least}
use Rattle.kc_asm_check.specs.Codes as spec
use Rattle.kc_asm_check.proofs.relocatable_bytes.misfits.Given as goal

abbrev pub invariant-loop-relocatable_byte : goal.invariant-loop-relocatable_byte
invariant-loop-relocatable_byte l =
    lesser_number l.code (least (spec.misfits l.jumps l.address l.piece l.at (drop l.relocatable_byte-index l.relocatable_bytes)))
    ≡ least (spec.misfits l.jumps l.address l.piece l.place l.relocatable_bytes)
