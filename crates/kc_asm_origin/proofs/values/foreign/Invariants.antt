use Rattle.std.proofs.Common.{◌≡◌, List, drop}
use Rattle.kc_asm_symbols.specs.Located.{Located}
use Rattle.kc_asm_symbols.specs.Meanings.{in_all}
use Rattle.kc_asm_symbols.specs.Walk.{IsBehind}
use Rattle.kc_asm_origin.specs.Values.{foreign_among}
use Rattle.kc_asm_origin.proofs.values.foreign.Given as goal

abbrev pub invariant-loop-name : goal.invariant-loop-name
invariant-loop-name l = (all before : List Located) → IsBehind l.meanings all before → foreign_among (in_all all) (drop l.name-index l.names) ≡ foreign_among (in_all all) l.names
