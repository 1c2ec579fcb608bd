use Rattle.std.proofs.Common.{sym, ◌∙◌}
use Rattle.kc_source_statement.specs.Trees.{item_tree}
use Rattle.kc_asm_symbols.specs.Externals.{item_trees}
use Rattle.kc_asm_symbols.proofs.ExternalLemmas.{found, passed, ended}
use Rattle.kc_asm_symbols.proofs.external_names.items_use.Goals as goal

pub returns-then-item_uses : goal.returns-then-item_uses
returns-then-item_uses c = found item_trees item_tree c.args.items.now c.loop-item.item-index c.item-item.result c.loop-item-test.true c.item-item.is (sym c.item_uses.ensures ∙ c.if-item_uses.true) c.loop-item.invariant

pub loop-item-preserved : goal.loop-item-preserved
loop-item-preserved c = passed item_trees item_tree c.args.items.now c.loop-item.item-index c.item-item.result c.loop-item-test.true c.item-item.is (sym c.item_uses.ensures ∙ c.if-item_uses.false) c.loop-item.invariant

pub returns : goal.returns
returns c = ended item_trees item_tree c.args.items.now c.loop-item.item-index c.loop-item-test.false c.loop-item.invariant
