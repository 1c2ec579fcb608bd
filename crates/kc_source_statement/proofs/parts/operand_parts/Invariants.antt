use Rattle.std.proofs.Common.{◌≡◌, length}
use Rattle.std.specs.Prelude.{map}
use Rattle.kc_source_statement.specs.Trees.{arg_tree}
use Rattle.kc_source_statement.specs.Operands.{operand, parts, all_some}
use Rattle.kc_source_statement.proofs.PartLemmas.{after_some}
use Rattle.kc_source_statement.proofs.parts.operand_parts.Given as goal

abbrev pub invariant-parts : goal.invariant-parts
invariant-parts l = after_some (map arg_tree l.args) (all_some operand (parts l.left)) ≡ all_some operand (parts l.tokens)

abbrev pub decreases-parts : goal.decreases-parts
decreases-parts l = length l.left
