use Rattle.std.proofs.Common.{◌≡◌, ◌+◌, ◌∷◌, List, drop, length, sym, ap, subst, ◌∙◌, arith}
use Rattle.kc_source_statement.specs.declared.statement.Stmt.{Stmt}
use Rattle.kc_source_statement.specs.Trees.{action_tree}
use Rattle.kc_asm_symbols.proofs.SegmentLemmas.{few_pieces}
use Rattle.kc_asm_symbols.proofs.ExternalLemmas.{prefix}
use Rattle.kc_asm_layout.specs.StatementSizes.{at_zero, on_its_own, statement_sizes}
use Rattle.kc_asm_layout.specs.Bounds.{AreBounded}
use Rattle.kc_asm_layout.proofs.BoundLemmas.{sizes_bounded}
use Rattle.kc_asm_layout.proofs.Steps.{Walked, walk_starts, walk_more, walk_ends, size_record_count}
use Rattle.kc_asm_layout.proofs.walk.statement_sizes.Goals as goal

pub loop-i-init : goal.loop-i-init
loop-i-init c =
    let count : c.first-segment.result.count ≡ 3 = λ j. (c.first-segment.ensures j).count in
    record {
      few = omega (arith, count);
      walked = walk_starts c.in_ok-look.look c.in_ok-own.own c.new-size_records.result.items c.first-segment.result c.args.stmts.now c.new-size_records.ensures.items c.first-segment.ensures
          (c.in_ok-look.ensures at_zero (sym (c.as_slice.ensures.value ∙ c.in_ok-at_zero.ensures.values)))
          (c.in_ok-own.ensures on_its_own (sym (c.as_slice-2.ensures.value ∙ c.in_ok-on_their_own.ensures.values)));
    }

pub loop-i-preserved : goal.loop-i-preserved
loop-i-preserved c =
    let stmts = c.args.stmts.now in
    let i = c.loop-i.i in
    let s = c.index-stmts-i.result in
    let g = c.loop-i.segment in
    let split : drop i stmts ≡ s ∷ drop (i + 1) stmts = prefix stmts i s c.loop-i-test.true c.index-stmts-i.is in
    record {
      few = few_pieces g c.after-segment.result (action_tree s.action) i c.after-segment.ensures.value c.loop-i.invariant.few;
      walked = walk_more c.loop-i.look c.enter.new.self c.leave.new.self c.loop-i.own c.enter-in-loop-i.new.self c.leave-in-loop-i.new.self c.loop-i.size_records.items c.push.new.self.items
          c.in_ok-size_record.size_record i g c.after-segment.result stmts (drop (i + 1) stmts) s c.value_at.result c.own_place.result
          c.value_at.ensures (c.own_place.ensures g) c.after-segment.ensures.value c.enter.ensures c.enter-in-loop-i.ensures c.in_ok-leave.ensures c.in_ok-leave-2.ensures
          (c.in_ok-size_record.ensures c.value_at.result) c.in_ok-push.ensures.items
          (subst (λ (rest : List Stmt). Walked c.loop-i.look c.loop-i.own c.loop-i.size_records.items i g stmts rest) split c.loop-i.invariant.walked);
    }

pub of-requires : goal.of-requires
of-requires c =
    let whole : c.loop-i.size_records.items ≡ statement_sizes c.args.stmts.now = walk_ends c.loop-i.look c.loop-i.own c.loop-i.size_records.items c.loop-i.i c.loop-i.segment c.args.stmts.now c.loop-i-test.false c.loop-i.invariant.walked in
    subst AreBounded (sym whole) (sizes_bounded c.args.stmts.now c.requires.statements)

pub returns-clause-size_records : goal.returns-clause-size_records
returns-clause-size_records c =
    c.of.ensures ∙ walk_ends c.loop-i.look c.loop-i.own c.loop-i.size_records.items c.loop-i.i c.loop-i.segment c.args.stmts.now c.loop-i-test.false c.loop-i.invariant.walked

pub returns-clause-count : goal.returns-clause-count
returns-clause-count c = ap length (returns-clause-size_records c) ∙ size_record_count c.args.stmts.now
