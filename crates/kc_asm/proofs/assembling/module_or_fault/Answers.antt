use Rattle.std.proofs.Common.{◌≤◌, Result, length, subst, arith}
use Rattle.kc_asm_check.specs.Checked.{IsExamined}
use Rattle.kc_asm_check.specs.declared.checked.Checked.{Checked}
use Rattle.kc_lex.specs.LineFaults.{Fault}
use Rattle.kc_asm_section.specs.ModuleOf.{pieces_in}
use Rattle.kc_asm.proofs.assembling.module_or_fault.Goals as goal

pub module_of-requires : goal.module_of-requires
module_of-requires c =
    let examined = subst (λ (r : Result Checked Fault). IsExamined c.args.stmts.now r) c.in-Ok.is c.in_ok-checked.ensures in
    let count = c.pieces_are_few.ensures c.args.stmts.now c.in_ok-unlinked.unlinked c.in_ok-unlinked.ensures in
    let few : length (pieces_in c.in_ok-unlinked.unlinked) ≤ 65536 = omega (arith, count, c.requires.few) in
    c.unlinked_modules_are_unlinked.ensures c.args.stmts.now c.in_ok-unlinked.unlinked c.requires.read examined.0 c.in_ok-unlinked.ensures few

pub returns : goal.returns
returns c =
    let examined = subst (λ (r : Result Checked Fault). IsExamined c.args.stmts.now r) c.in-Ok.is c.in_ok-checked.ensures in
    let count = c.pieces_are_few.ensures c.args.stmts.now c.in_ok-unlinked.unlinked c.in_ok-unlinked.ensures in
    let few : length (pieces_in c.in_ok-unlinked.unlinked) ≤ 65536 = omega (arith, count, c.requires.few) in
    (c.in_ok-unlinked.unlinked, examined.0, c.in_ok-unlinked.ensures, few, c.in_ok-module_of.ensures)
