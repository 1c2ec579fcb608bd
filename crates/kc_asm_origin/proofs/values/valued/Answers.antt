use Rattle.std.proofs.Common.{◌≡◌, ◌+◌, ◌∷◌, List, drop, subst, arith}
use Rattle.kc_source_statement.specs.declared.statement.Stmt.{Stmt}
use Rattle.kc_source_statement.specs.Trees.{action_tree}
use Rattle.kc_asm_symbols.proofs.SegmentLemmas.{few_pieces}
use Rattle.kc_asm_symbols.proofs.ExternalLemmas.{prefix}
use Rattle.kc_asm_origin.proofs.Walks.{Walked, At, walk_starts, enters, reported, leaves, walk_ends}
use Rattle.kc_asm_origin.proofs.values.valued.Goals as goal

pub loop-i-init : goal.loop-i-init
loop-i-init c =
    let count : c.first-segment.result.count ≡ 3 = λ j. (c.first-segment.ensures j).count in
    record {
      few = omega (arith, count);
      walked = walk_starts c.in_ok-meanings.meanings c.args.line c.args.code c.first-segment.result c.args.stmts.now c.first-segment.ensures c.in_ok-meanings.ensures;
    }

pub returns-in-Some : goal.returns-in-Some
returns-in-Some c =
    let stmts = c.args.stmts.now in
    let i = c.loop-i.i in
    let s = c.index-stmts-i.result in
    let g = c.loop-i.segment in
    let rest = drop (i + 1) stmts in
    let split : drop i stmts ≡ s ∷ rest = prefix stmts i s c.loop-i-test.true c.index-stmts-i.is in
    let here : At c.enter.new.self c.args.line c.args.code i g stmts rest s c.in_ok-found.found
    = enters c.loop-i.meanings c.enter.new.self c.args.line c.args.code i g stmts rest s c.value_at.result c.in_ok-found.found c.value_at.ensures c.enter.ensures c.in_ok-found.ensures
    (subst (λ (ss : List Stmt). Walked c.loop-i.meanings c.args.line c.args.code i g stmts ss) split c.loop-i.invariant.walked) in
    reported c.enter.new.self c.args.line c.args.code i g stmts rest s c.in_ok-found.found c.in-Some.name c.in-Some.is here

pub loop-i-preserved : goal.loop-i-preserved
loop-i-preserved c =
    let stmts = c.args.stmts.now in
    let i = c.loop-i.i in
    let s = c.index-stmts-i.result in
    let g = c.loop-i.segment in
    let rest = drop (i + 1) stmts in
    let split : drop i stmts ≡ s ∷ rest = prefix stmts i s c.loop-i-test.true c.index-stmts-i.is in
    let here : At c.enter.new.self c.args.line c.args.code i g stmts rest s c.in_ok-found.found
    = enters c.loop-i.meanings c.enter.new.self c.args.line c.args.code i g stmts rest s c.value_at.result c.in_ok-found.found c.value_at.ensures c.enter.ensures c.in_ok-found.ensures
    (subst (λ (ss : List Stmt). Walked c.loop-i.meanings c.args.line c.args.code i g stmts ss) split c.loop-i.invariant.walked) in
    record {
      few = few_pieces g c.after-segment.result (action_tree s.action) i c.after-segment.ensures.value c.loop-i.invariant.few;
      walked = leaves c.enter.new.self c.leave.new.self c.args.line c.args.code i g c.after-segment.result stmts rest s c.in_ok-found.found c.in-None.is c.after-segment.ensures.value c.in_ok-leave.ensures here;
    }

pub returns : goal.returns
returns c = walk_ends c.loop-i.meanings c.args.line c.args.code c.loop-i.i c.loop-i.segment c.args.stmts.now c.loop-i-test.false c.loop-i.invariant.walked
