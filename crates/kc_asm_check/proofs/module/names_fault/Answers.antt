use Rattle.std.proofs.Common.{◌∙◌, ap}
use Rattle.kc_asm_symbols.specs.Meanings.{in_all}
use Rattle.kc_lex.specs.Codes.{lesser_number}
use Rattle.kc_asm_check.specs.Codes.{name_faults}
use Rattle.kc_asm_check.proofs.NameLemmas.{advances, ends}
use Rattle.kc_asm_check.proofs.module.names_fault.Goals as goal

pub loop-name-preserved : goal.loop-name-preserved
loop-name-preserved c = λ all before behind.
    advances (name_faults (in_all all)) c.args.names.now c.loop-name.name-index c.name-item.result _ _ _
    c.loop-name-test.true c.name-item.is (c.lesser_number-code.ensures ∙ ap (lesser_number c.loop-name.code) (c.name_fault.ensures all before behind)) (c.loop-name.invariant all before behind)

pub returns : goal.returns
returns c = λ all before behind.
    ends (name_faults (in_all all)) c.args.names.now c.loop-name.name-index _ _ c.loop-name-test.false (c.loop-name.invariant all before behind)
