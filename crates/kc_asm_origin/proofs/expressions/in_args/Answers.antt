use Rattle.std.proofs.Common.{◌+◌, drop, sym, ap, ◌∙◌}
use Rattle.std.specs.Option.{option_or}
use Rattle.kc_source_statement.specs.Trees.{arg_tree}
use Rattle.kc_asm_symbols.specs.Externals.{arg_trees}
use Rattle.kc_asm_origin.proofs.Walks.{among, element, elements}
use Rattle.kc_asm_origin.proofs.expressions.in_args.Goals as goal

pub returns-in-Some : goal.returns-in-Some
returns-in-Some g c =
    let look = g.S.Scope.answers c.args.scope.now in
    sym (ap (λ o. option_or o (among look arg_trees arg_tree (drop (c.loop-arg.arg-index + 1) c.args.args.now))) c.in-Some.is)
    ∙ element look arg_trees arg_tree c.args.args.now c.loop-arg.arg-index c.arg-item.result c.in_ok-found.found c.loop-arg-test.true c.arg-item.is c.in_ok-found.ensures c.loop-arg.invariant

pub loop-arg-preserved : goal.loop-arg-preserved
loop-arg-preserved g c =
    let look = g.S.Scope.answers c.args.scope.now in
    sym (ap (λ o. option_or o (among look arg_trees arg_tree (drop (c.loop-arg.arg-index + 1) c.args.args.now))) c.in-None.is)
    ∙ element look arg_trees arg_tree c.args.args.now c.loop-arg.arg-index c.arg-item.result c.in_ok-found.found c.loop-arg-test.true c.arg-item.is c.in_ok-found.ensures c.loop-arg.invariant

pub returns : goal.returns
returns g c = elements (g.S.Scope.answers c.args.scope.now) arg_trees arg_tree c.args.args.now c.loop-arg.arg-index c.loop-arg-test.false c.loop-arg.invariant
