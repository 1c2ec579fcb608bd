use Rattle.std.proofs.Common.{◌∙◌, ap, subst}
use Rattle.kc_lex.specs.LineFaults as faults
use Rattle.kc_expr.specs.declared.values.Value.{Value}
use Rattle.kc_asm_symbols.specs.Located.{located_at}
use Rattle.kc_asm_symbols.specs.Walk.{IsAt}
use Rattle.kc_asm_check.proofs.walk.Walk.enter.Goals as goal

pub returns-clause-at : goal.returns-clause-at
returns-clause-at c = λ all before behind.
    subst (λ (v : Value). IsAt c.enter.new.self all before (located_at c.args.self.now.segment v c.args.stmt.now)) c.value_at-here.ensures
    (c.enter.ensures all before c.args.self.now.segment behind)

pub returns-clause-found : goal.returns-clause-found
returns-clause-found c = λ all before behind.
    c.lesser-self.ensures
    ∙ ap (faults.lesser c.args.self.now.found)
    (c.at_line.ensures ∙ ap (faults.at_line c.args.stmt.now.line) (c.in_ok-code.ensures all before (returns-clause-at c all before behind)))
