use Rattle.std.proofs.Common.{Err, sym, ap, ◌∙◌}
use Rattle.kc_expr.specs.Tree.{tree_of}
use Rattle.kc_expr.proofs.UnreportedLemmas.{never_reported}
use Rattle.kc_expr.proofs.evaluate.value.Goals as goal

pub unreachable-requires : goal.unreachable-requires
unreachable-requires c = never_reported c.args.symbols.now (tree_of c.args.expr.now) (sym c.value_over.ensures ∙ c.in-Err-ReportedElsewhere.is ∙ ap Err c.in-Err-ReportedElsewhere.field-0-is)
