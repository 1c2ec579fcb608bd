use Rattle.std.proofs.Common.{sym, ◌∙◌}
use Rattle.kc_source_statement.specs.Trees.{arg_tree}
use Rattle.kc_asm_symbols.specs.Externals.{arg_trees}
use Rattle.kc_asm_symbols.proofs.ExternalLemmas.{found, passed, ended}
use Rattle.kc_asm_symbols.proofs.external_names.args_use.Goals as goal

pub returns-then-arg_uses : goal.returns-then-arg_uses
returns-then-arg_uses c = found arg_trees arg_tree c.args.args.now c.loop-arg.arg-index c.arg-item.result c.loop-arg-test.true c.arg-item.is (sym c.arg_uses.ensures ∙ c.if-arg_uses.true) c.loop-arg.invariant

pub loop-arg-preserved : goal.loop-arg-preserved
loop-arg-preserved c = passed arg_trees arg_tree c.args.args.now c.loop-arg.arg-index c.arg-item.result c.loop-arg-test.true c.arg-item.is (sym c.arg_uses.ensures ∙ c.if-arg_uses.false) c.loop-arg.invariant

pub returns : goal.returns
returns c = ended arg_trees arg_tree c.args.args.now c.loop-arg.arg-index c.loop-arg-test.false c.loop-arg.invariant
