use Rattle.std.proofs.Common.{◌≡◌, length}
use Rattle.std.specs.Prelude.{map}
use Rattle.kc_source_statement.specs.Trees.{item_tree}
use Rattle.kc_source_statement.specs.Operands.{item, parts, all_some}
use Rattle.kc_source_statement.proofs.PartLemmas.{after_some}
use Rattle.kc_source_statement.proofs.parts.items.Given as goal

abbrev pub invariant-parts : goal.invariant-parts
invariant-parts l = after_some (map item_tree l.items) (all_some (item l.bytes) (parts l.left)) ≡ all_some (item l.bytes) (parts l.tokens)

abbrev pub decreases-parts : goal.decreases-parts
decreases-parts l = length l.left
