use Rattle.std.proofs.Common.{◌+◌, drop, sym, ◌∙◌}
use Rattle.kc_asm_symbols.specs.Located.{value_at, first_segment}
use Rattle.kc_asm.proofs.NamedLemmas.{name_in, named_at, named_never, named_from}
use Rattle.kc_asm.proofs.naming.name_of.Goals as goal

pub returns-in-Some : goal.returns-in-Some
returns-in-Some c = λ places.
    let stmts = c.args.stmts.now in
    let i = c.loop-stmt.stmt-index in
    c.in-Some.ensures (name_in (drop (i + 1) stmts))
    ∙ sym (named_at stmts i c.stmt-item.result c.loop-stmt-test.true c.stmt-item.is)
    ∙ c.loop-stmt.invariant ∙ sym (named_from (λ i g. value_at g (places i)) 0 first_segment stmts)

pub loop-stmt-preserved : goal.loop-stmt-preserved
loop-stmt-preserved c =
    let stmts = c.args.stmts.now in
    let i = c.loop-stmt.stmt-index in
    c.in_default.ensures (name_in (drop (i + 1) stmts))
    ∙ sym (named_at stmts i c.stmt-item.result c.loop-stmt-test.true c.stmt-item.is)
    ∙ c.loop-stmt.invariant

pub returns : goal.returns
returns c = λ places.
    let stmts = c.args.stmts.now in
    sym (named_never stmts c.loop-stmt.stmt-index c.loop-stmt-test.false)
    ∙ c.loop-stmt.invariant ∙ sym (named_from (λ i g. value_at g (places i)) 0 first_segment stmts)
