use Rattle.std.proofs.Common.{◌+◌, ◌++◌, ℕ, List, drop, ap, sym, ◌∙◌}
use Rattle.kc_asm_symbols.specs.Located.{first_segment}
use Rattle.kc_asm_symbols.specs.Meanings.{in_all}
use Rattle.kc_asm_symbols.specs.Tables.{is_marked}
use Rattle.kc_asm_unlinked_laws.specs.Collecting.{publics_of as distinct_publics, distinct_from}
use Rattle.std.specs.Prelude.{[]}
use Rattle.kc_asm.specs.Giving.{given_from}
use Rattle.kc_asm.proofs.NamedLemmas.{given_in, given_at, given_no_more, given_everywhere}
use Rattle.kc_asm.proofs.GivenLemmas.{given_none, all_distinct}
use Rattle.kc_asm.proofs.publics.publics_of.Goals as goal

pub loop-stmt-init : goal.loop-stmt-init
loop-stmt-init c = λ all before behind. (λ i. c.new-2.ensures.items i ++ given_from (in_all all) (c.new.ensures i) (given_in c.args.stmts.now))

pub loop-stmt-preserved : goal.loop-stmt-preserved
loop-stmt-preserved c = λ all before behind.
    let stmts = c.args.stmts.now in
    let i = c.loop-stmt.stmt-index in
    let s = c.stmt-item.result in
    c.in_ok-give_in.ensures all before (given_in (drop (i + 1) stmts)) behind
    ∙ ap (λ (ns : List (List ℕ)). c.loop-stmt.publics.items.items ++ given_from (in_all all) (is_marked c.loop-stmt.publics.seen) ns)
    (sym (given_at stmts i s c.loop-stmt-test.true c.stmt-item.is))
    ∙ c.loop-stmt.invariant all before behind

pub returns : goal.returns
returns c = λ all before behind values.
    let stmts = c.args.stmts.now in
    let i = c.loop-stmt.stmt-index in
    let ps = c.loop-stmt.publics.items.items in
    sym (given_none (in_all all) (is_marked c.loop-stmt.publics.seen) ps)
    ∙ ap (λ (ns : List (List ℕ)). ps ++ given_from (in_all all) (is_marked c.loop-stmt.publics.seen) ns) (sym (given_no_more stmts i c.loop-stmt-test.false))
    ∙ c.loop-stmt.invariant all before behind
    ∙ all_distinct (in_all all) (given_in stmts)
    ∙ ap (λ (ns : List (List ℕ)). distinct_publics (in_all all) (distinct_from [] ns)) (sym (given_everywhere values 0 first_segment stmts))
