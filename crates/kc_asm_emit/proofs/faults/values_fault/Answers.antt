use Rattle.std.proofs.Common.{◌≡◌, true, map, sym, ap, ◌∙◌}
use Rattle.std.specs.List.{list_all}
use Rattle.kc_source_statement.specs.Trees.{arg_tree}
use Rattle.kc_asm_emit.specs.Arguments.{arguments, has_values}
use Rattle.kc_asm_emit.specs.Faults.{least}
use Rattle.kc_asm_emit.proofs.FaultLemmas.{least_none}
use Rattle.kc_asm_emit.proofs.ValueLemmas.{no_faults}
use Rattle.kc_asm_emit.proofs.faults.values_fault.Goals as goal

pub returns-then-have_values : goal.returns-then-have_values
returns-then-have_values g c =
    let trees = map arg_tree c.args.args.now in
    let valued : list_all has_values (arguments (g.S.Scope.answers c.args.scope.now) trees) ≡ true =
    ap (list_all has_values) (sym c.requires) ∙ sym c.if-have_values.ensures in
    sym least_none ∙ sym (ap least (no_faults (g.S.Scope.answers c.args.scope.now) trees valued))
