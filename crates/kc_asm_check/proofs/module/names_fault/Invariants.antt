use Rattle.std.proofs.Common.{◌≡◌, List, drop}
use Rattle.std.specs.List.{flat_map}
use Rattle.kc_asm_symbols.specs.Located.{Located}
use Rattle.kc_asm_symbols.specs.Meanings.{in_all}
use Rattle.kc_asm_symbols.specs.Walk.{IsBehind}
use Rattle.kc_lex.specs.Codes.{lesser_number}
use Rattle.kc_asm_emit.specs.Faults.{least}
use Rattle.kc_asm_check.specs.Codes as spec
use Rattle.kc_asm_check.proofs.module.names_fault.Given as goal

abbrev pub invariant-loop-name : goal.invariant-loop-name
invariant-loop-name l =
    (all before : List Located) → IsBehind l.meanings all before
    → lesser_number l.code (least (flat_map (spec.name_faults (in_all all)) (drop l.name-index l.names))) ≡ least (flat_map (spec.name_faults (in_all all)) l.names)
