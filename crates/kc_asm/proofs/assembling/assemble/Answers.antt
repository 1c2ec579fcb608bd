use Rattle.std.proofs.Common.{◌≤◌, inr, length, sym, subst, arith, Ok, Err}
use Rattle.kc_lex.specs.declared.fault.SourceFault.{SourceFault}
use Rattle.kc_source.specs.Faults.{AreStatements}
use Rattle.kc_asm_symbols.specs.Reported.{AreReadWell}
use Rattle.kc_asm.specs.Assembled.{AreSaid, IsMade, IsAssembled}
use Rattle.kc_asm.proofs.Characters.{has_characters}
use Rattle.kc_asm.proofs.Said.{said_well}
use Rattle.kc_asm.proofs.Refused.{by_macros, by_statements}
use Rattle.kc_source_laws.proofs.Counts.{lines_numbered, stmt_count}
use Rattle.kc_asm.proofs.assembling.assemble.Goals as goal

pub module_or_fault-requires-clause-few : goal.module_or_fault-requires-clause-few
module_or_fault-requires-clause-few c =
    let text : length c.deref.result.now ≤ 65535 = rw c.deref.ensures.value c.in_ok-text.ensures.few in
    let few : length c.in_ok-stmts.stmts.items ≤ 65535 = omega (arith, text, stmt_count c.in_ok-stmts.stmts.items c.deref.result.now c.in_ok-stmts.ensures) in
    rw c.deref-2.ensures.value few

pub module_or_fault-requires-clause-read : goal.module_or_fault-requires-clause-read
module_or_fault-requires-clause-read c =
    let statements : AreStatements c.in_ok-stmts.stmts.items c.in_ok-text.text.items = rw c.deref.ensures.value at c.in_ok-stmts.ensures in
    let said : AreSaid c.args.source.now c.in_ok-stmts.stmts.items = (c.in_ok-text.text.items, (c.in_ok-lines.lines.items, c.in_ok-lines.ensures, (c.in_ok-text.ensures.lines (lines_numbered c.args.source.now c.in_ok-lines.lines.items c.requires c.in_ok-lines.ensures))), statements) in
    let read : AreReadWell c.in_ok-stmts.stmts.items = said_well c.sources_are_read_well.ensures c.args.source.now c.in_ok-stmts.stmts.items said in
    rw c.deref-2.ensures.value read

pub returns-in-Ok-Ok : goal.returns-in-Ok-Ok
returns-in-Ok-Ok c =
    let statements : AreStatements c.in_ok-stmts.stmts.items c.in_ok-text.text.items = rw c.deref.ensures.value at c.in_ok-stmts.ensures in
    let said : AreSaid c.args.source.now c.in_ok-stmts.stmts.items = (c.in_ok-text.text.items, (c.in_ok-lines.lines.items, c.in_ok-lines.ensures, (c.in_ok-text.ensures.lines (lines_numbered c.args.source.now c.in_ok-lines.lines.items c.requires c.in_ok-lines.ensures))), statements) in
    let made : IsMade c.in_ok-stmts.stmts.items (Ok c.in-Ok-Ok.module) = rw (c.deref-2.ensures.value, c.in-Ok-Ok.field-0-is) at c.in-Ok-Ok.ensures in
    let characters = has_characters c.args.source.now c.in_ok-stmts.stmts.items
    (c.statements_are_of_the_text.ensures c.args.source.now c.in_ok-lines.lines.items c.in_ok-text.text.items c.in_ok-stmts.stmts.items c.in_ok-lines.ensures (c.in_ok-text.ensures.lines (lines_numbered c.args.source.now c.in_ok-lines.lines.items c.requires c.in_ok-lines.ensures)) statements) in
    record { stmts = c.in_ok-stmts.stmts.items; said = said; characters = characters; sound = made.1; unlinked = made.0; collected = made.2; few = made.3; made = made.4 }

pub returns-in-Ok-Err : goal.returns-in-Ok-Err
returns-in-Ok-Err c =
    let statements : AreStatements c.in_ok-stmts.stmts.items c.in_ok-text.text.items = rw c.deref.ensures.value at c.in_ok-stmts.ensures in
    let said : AreSaid c.args.source.now c.in_ok-stmts.stmts.items = (c.in_ok-text.text.items, (c.in_ok-lines.lines.items, c.in_ok-lines.ensures, (c.in_ok-text.ensures.lines (lines_numbered c.args.source.now c.in_ok-lines.lines.items c.requires c.in_ok-lines.ensures))), statements) in
    let reported : IsMade c.in_ok-stmts.stmts.items (Err c.in-Ok-Err.fault) = rw (c.deref-2.ensures.value, c.in-Ok-Err.field-0-is) at c.in-Ok-Err.ensures in
    subst (λ (e : SourceFault). IsAssembled c.args.source.now (Err e)) (sym c.from.ensures) (inr (inr (inr (c.in_ok-stmts.stmts.items, said, reported))))

pub returns-in_err-text : goal.returns-in_err-text
returns-in_err-text c =
    let lines = c.in_ok-lines.lines.items in
    by_macros c.args.source.now lines c.in_err-text.field-0.0 c.from_residual-in_err-text.result c.in_ok-lines.ensures c.from_residual-in_err-text.ensures.1
    (c.in_err-text.ensures.lines (lines_numbered c.args.source.now lines c.requires c.in_ok-lines.ensures))

pub returns-in_err-stmts : goal.returns-in_err-stmts
returns-in_err-stmts c =
    let lines = c.in_ok-lines.lines.items in
    by_statements c.args.source.now lines c.in_ok-text.text.items c.in_err-stmts.field-0.0 c.from_residual-in_err-stmts.result c.in_ok-lines.ensures
    (c.in_ok-text.ensures.lines (lines_numbered c.args.source.now lines c.requires c.in_ok-lines.ensures)) c.from_residual-in_err-stmts.ensures.1
    (rw c.deref.ensures.value at c.in_err-stmts.ensures)
