use Rattle.std.proofs.Common.{◌≡◌, map, drop}
use Rattle.std.specs.List.{flat_map}
use Rattle.kc_source_statement.specs.Trees.{item_tree}
use Rattle.kc_lex.specs.Codes.{lesser_number}
use Rattle.kc_asm_emit.specs.Faults as faults
use Rattle.kc_asm_emit.proofs.faults.data_fault.Given as goal

abbrev pub invariant-loop-item : goal.invariant-loop-item
invariant-loop-item g l =
    lesser_number l.code (faults.least (flat_map (faults.item_faults (g.S.Scope.answers l.scope) l.size) (map item_tree (drop l.item-index l.items))))
    ≡ faults.least (flat_map (faults.item_faults (g.S.Scope.answers l.scope) l.size) (map item_tree l.items))
