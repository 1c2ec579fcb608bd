use Rattle.std.proofs.Common.{◌≡◌, ◌+◌, ◌∷◌, ◌||◌, List, ℕ, drop, ap, subst, ◌∙◌}
use Rattle.kc_source_statement.specs.declared.statement.Stmt.{Stmt}
use Rattle.kc_source_statement.specs.Trees.{action_tree}
use Rattle.kc_asm_symbols.specs.Meanings.{with_set}
use Rattle.kc_asm_symbols.specs.Tables.{is_defined_by_set}
use Rattle.kc_asm_symbols.proofs.ExternalLemmas.{prefix}
use Rattle.kc_asm_symbols.proofs.WalkLemmas.{set_in, set_starts, set_more, set_all}
use Rattle.kc_asm_symbols.proofs.names.numbers_of.Goals as goal

pub loop-stmt-init : goal.loop-stmt-init
loop-stmt-init c = set_starts c.args.stmts.now (is_defined_by_set c.add.new.self) (c.in_ok-add.ensures ∙ c.new-numbers.ensures)

pub loop-stmt-preserved : goal.loop-stmt-preserved
loop-stmt-preserved c =
    let stmts = c.args.stmts.now in
    let i = c.loop-stmt.stmt-index in
    let s = c.stmt-item.result in
    let look = is_defined_by_set c.loop-stmt.numbers in
    let split : drop i stmts ≡ s ∷ drop (i + 1) stmts = prefix stmts i s c.loop-stmt-test.true c.stmt-item.is in
    set_more s (drop (i + 1) stmts) look (is_defined_by_set c.add_defined.new.numbers) (set_in stmts) (c.in_ok-add_defined.ensures ∙ ap (with_set (action_tree s.action)) c.in_ok-add_label.ensures)
    (subst (λ (ss : List Stmt). (q : List ℕ) → (set_in ss q || look q) ≡ set_in stmts q) split c.loop-stmt.invariant)

pub returns : goal.returns
returns c = λ values. set_all values c.loop-stmt.stmt-index c.args.stmts.now (is_defined_by_set c.loop-stmt.numbers) c.loop-stmt-test.false c.loop-stmt.invariant
