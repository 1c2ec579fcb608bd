use Rattle.std.proofs.Common.{◌≡◌, length}
use Rattle.kc_source_statement.specs.Operands.{name_in, parts, all_some}
use Rattle.kc_source_statement.proofs.PartLemmas.{after_some}
use Rattle.kc_source_statement.proofs.parts.names.Given as goal

abbrev pub invariant-parts : goal.invariant-parts
invariant-parts l = after_some (l.names) (all_some (name_in l.typed) (parts l.left)) ≡ all_some (name_in l.typed) (parts l.tokens)

abbrev pub decreases-parts : goal.decreases-parts
decreases-parts l = length l.left
