use Rattle.std.proofs.Common.{◌≡◌, ◌≤◌, ◌∙◌, length, refl, ap, subst, arith}
use Rattle.std.specs.Prelude.{IfOk}
use Rattle.kc_source.specs.Faults.{AreStatements, all_said, all_uses}
use Rattle.kc_source_laws.proofs.Counts.{lines_numbered, stmt_count}
use Rattle.kc_asm_layout.specs.StatementSizes.{at_zero}
use Rattle.kc_asm_symbols.specs.Located.{located_by}
use Rattle.kc_asm_origin.specs.Uses.{used_at}
use Rattle.kc_asm_origin.specs.Values.{symbol_at}
use Rattle.kc_asm_origin.proofs.SymbolWhole.{by_macros, by_statements, of_values}
use Rattle.kc_asm_origin.proofs.symbol_reporting.symbol.Goals as goal

pub valued-requires-clause-few : goal.valued-requires-clause-few
valued-requires-clause-few c =
    let text : length c.deref.result.now ≤ 65535 = rw c.deref.ensures.value c.in-Ok-expand.ensures.few in
    let few : length c.in-Ok-statements.stmts.items ≤ 65536 = omega (arith, text, stmt_count c.in-Ok-statements.stmts.items c.deref.result.now c.in-Ok-statements.ensures) in
    rw c.deref-in-Ok-statements.ensures.value few

pub returns-in-Ok-statements : goal.returns-in-Ok-statements
returns-in-Ok-statements c =
    let stmts = c.in-Ok-statements.stmts.items in
    let said : AreStatements stmts c.in-Ok-expand.text.items = rw c.deref.ensures.value at c.in-Ok-statements.ensures in
    let whole = of_values c.args.source.now c.args.line c.args.code c.in-Ok.read.items c.in-Ok-expand.text.items stmts (symbol_at c.args.line c.args.code (located_by at_zero stmts))
    c.in-Ok.ensures (c.in-Ok-expand.ensures.lines (lines_numbered c.args.source.now c.in-Ok.read.items c.requires c.in-Ok.ensures)) said refl in
    subst (λ x. IfOk c.valued.result (λ o. o ≡ x)) (ap (λ ss. symbol_at c.args.line c.args.code (located_by at_zero ss)) c.deref-in-Ok-statements.ensures.value ∙ whole) c.valued.ensures

pub returns-in-Err-At-expand : goal.returns-in-Err-At-expand
returns-in-Err-At-expand c =
    let read = c.in-Ok.read.items in
    by_macros c.args.source.now c.args.line c.args.code read c.in-Err-At-expand.field-0 c.in-Err-At-expand.field-0-is c.in-Ok.ensures
    (c.in-Err-At-expand.ensures.lines (lines_numbered c.args.source.now read c.requires c.in-Ok.ensures))

pub returns-in-Err-At-statements : goal.returns-in-Err-At-statements
returns-in-Err-At-statements c =
    let read = c.in-Ok.read.items in
    let text = c.in-Ok-expand.text.items in
    let whole = by_statements c.args.source.now c.args.line c.args.code read text c.in-Err-At-statements.field-0 c.in-Err-At-statements.field-0-is
    c.in-Ok.ensures (c.in-Ok-expand.ensures.lines (lines_numbered c.args.source.now read c.requires c.in-Ok.ensures)) (rw c.deref.ensures.value at c.in-Err-At-statements.ensures) in
    subst (λ x. IfOk c.used.result (λ o. o ≡ x)) (ap (λ t. used_at c.args.line c.args.code (all_uses (all_said t))) c.deref-in-Err-At-statements.ensures.value ∙ whole) c.used.ensures
