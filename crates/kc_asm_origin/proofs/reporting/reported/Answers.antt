use Rattle.std.proofs.Common.{◌≤◌, ◌∙◌, length, inr, ap, arith}
use Rattle.kc_source_laws.proofs.Counts.{stmt_count}
use Rattle.kc_asm_check.specs.Checking.{first_fault}
use Rattle.kc_asm_origin.proofs.reporting.reported.Goals as goal

pub reported_of_values-requires-clause-few : goal.reported_of_values-requires-clause-few
reported_of_values-requires-clause-few c =
    let few : length c.in-Ok.stmts.items ≤ 65536 = omega (arith, c.requires, stmt_count c.in-Ok.stmts.items c.args.text.now c.in-Ok.ensures) in
    rw c.deref.ensures.value few

pub returns-in_ok-reported-in-Ok : goal.returns-in_ok-reported-in-Ok
returns-in_ok-reported-in-Ok c = inr (c.in-Ok.stmts.items, c.in-Ok.ensures, c.in_ok-reported-in-Ok.ensures ∙ ap first_fault c.deref.ensures.value)
