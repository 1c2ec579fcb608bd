use Rattle.std.proofs.Common.{◌+◌, drop, sym, ap, ◌∙◌}
use Rattle.std.specs.Option.{option_or}
use Rattle.kc_source_statement.specs.Trees.{item_tree}
use Rattle.kc_asm_symbols.specs.Externals.{item_trees}
use Rattle.kc_asm_origin.proofs.Walks.{among, element, elements}
use Rattle.kc_asm_origin.proofs.expressions.in_items.Goals as goal

pub returns-in-Some : goal.returns-in-Some
returns-in-Some g c =
    let look = g.S.Scope.answers c.args.scope.now in
    sym (ap (λ o. option_or o (among look item_trees item_tree (drop (c.loop-item.item-index + 1) c.args.items.now))) c.in-Some.is)
    ∙ element look item_trees item_tree c.args.items.now c.loop-item.item-index c.item-item.result c.in_ok-found.found c.loop-item-test.true c.item-item.is c.in_ok-found.ensures c.loop-item.invariant

pub loop-item-preserved : goal.loop-item-preserved
loop-item-preserved g c =
    let look = g.S.Scope.answers c.args.scope.now in
    sym (ap (λ o. option_or o (among look item_trees item_tree (drop (c.loop-item.item-index + 1) c.args.items.now))) c.in-None.is)
    ∙ element look item_trees item_tree c.args.items.now c.loop-item.item-index c.item-item.result c.in_ok-found.found c.loop-item-test.true c.item-item.is c.in_ok-found.ensures c.loop-item.invariant

pub returns : goal.returns
returns g c = elements (g.S.Scope.answers c.args.scope.now) item_trees item_tree c.args.items.now c.loop-item.item-index c.loop-item-test.false c.loop-item.invariant
