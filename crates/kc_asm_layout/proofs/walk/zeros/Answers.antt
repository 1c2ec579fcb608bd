use Rattle.std.proofs.Common.{◌≡◌, ◌+◌, ◌++◌, [], ◌∷◌, List, drop, length, ap, subst, ◌∙◌}
use Rattle.kc_source_statement.specs.declared.statement.Stmt.{Stmt}
use Rattle.kc_source_statement.specs.Trees.{action_tree}
use Rattle.kc_asm_symbols.specs.Located.{located_by, located_from, place_values}
use Rattle.kc_asm_symbols.proofs.SegmentLemmas.{few_pieces}
use Rattle.kc_asm_symbols.proofs.ExternalLemmas.{prefix}
use Rattle.kc_asm_symbols.proofs.ValueLemmas.{value_more, all_values, value_count}
use Rattle.kc_asm_layout.specs.StatementSizes.{at_zero}
use Rattle.kc_asm_layout.proofs.walk.zeros.Goals as goal

pub loop-i-preserved : goal.loop-i-preserved
loop-i-preserved c =
    let stmts = c.args.stmts.now in
    let i = c.loop-i.i in
    let s = c.index-stmts-i.result in
    let g = c.loop-i.segment in
    let vs = c.loop-i.values.items in
    let all = place_values (located_by at_zero stmts) in
    let split : drop i stmts ≡ s ∷ drop (i + 1) stmts = prefix stmts i s c.loop-i-test.true c.index-stmts-i.is in
    record {
      few = few_pieces g c.after-segment.result (action_tree s.action) i c.after-segment.ensures.value c.loop-i.invariant.few;
      so_far = value_more at_zero i g c.after-segment.result s (drop (i + 1) stmts) vs c.push.new.self.items all c.after-segment.ensures.value
          (c.in_ok-push.ensures.items ∙ ap (λ v. vs ++ v ∷ []) c.value_at.ensures)
          (subst (λ (ss : List Stmt). vs ++ place_values (located_from at_zero i g ss) ≡ all) split c.loop-i.invariant.so_far);
    }

pub returns-clause-values : goal.returns-clause-values
returns-clause-values c =
    all_values at_zero c.loop-i.i c.loop-i.segment c.args.stmts.now c.loop-i.values.items (place_values (located_by at_zero c.args.stmts.now)) c.loop-i-test.false c.loop-i.invariant.so_far

pub returns-clause-count : goal.returns-clause-count
returns-clause-count c = ap length (returns-clause-values c) ∙ value_count at_zero c.args.stmts.now
