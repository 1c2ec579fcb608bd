use Rattle.std.proofs.Common.{◌≡◌, ◌++◌, ◌+◌, ◌∷◌, drop, subst, List}
use Rattle.kc_source_statement.specs.Trees.{action_tree}
use Rattle.kc_source_statement.specs.declared.statement.Stmt.{Stmt}
use Rattle.kc_asm_symbols.specs.Located.{located_by, located_from}
use Rattle.kc_asm_symbols.specs.Externals.{externals, externals_from}
use Rattle.kc_asm_symbols.proofs.SegmentLemmas.{few_pieces}
use Rattle.kc_asm_symbols.proofs.ExternalLemmas.{prefix, declares, all_declared}
use Rattle.kc_asm_symbols.proofs.external_names.externals.Goals as goal

pub loop-stmt-preserved : goal.loop-stmt-preserved
loop-stmt-preserved c =
    let stmts = c.args.stmts.now in
    let i = c.loop-stmt.stmt-index in
    let s = c.stmt-item.result in
    let g = c.loop-stmt.segment in
    let ts = c.loop-stmt.taken.items in
    let split : drop i stmts ≡ s ∷ drop (i + 1) stmts = prefix stmts i s c.loop-stmt-test.true c.stmt-item.is in
    record {
      few = few_pieces g c.after-segment.result (action_tree s.action) i c.after-segment.ensures.value c.loop-stmt.invariant.few;
      so_far = λ values. declares values i g c.after-segment.result c.loop-stmt.used c.in_ok-used.used s (drop (i + 1) stmts) ts c.push_declared.new.taken.items (externals (located_by values stmts))
          c.in_ok-used.ensures.items c.in_ok-used.ensures.used c.after-segment.ensures.value
          (subst (λ (ss : List Stmt). ts ++ externals_from c.loop-stmt.used (located_from values i g ss) ≡ externals (located_by values stmts)) split (c.loop-stmt.invariant.so_far values));
    }

pub returns : goal.returns
returns c = λ values. all_declared values c.loop-stmt.segment c.loop-stmt.used c.args.stmts.now c.loop-stmt.stmt-index c.loop-stmt.taken.items (externals (located_by values c.args.stmts.now)) c.loop-stmt-test.false (c.loop-stmt.invariant.so_far values)
