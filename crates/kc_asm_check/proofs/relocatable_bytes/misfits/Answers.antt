use Rattle.std.proofs.Common.{◌∙◌, ap, refl}
use Rattle.kc_asm_encode.specs.declared.relocatable_byte.RelocatableByte.TheVariants.{Plain}
use Rattle.kc_lex.specs.Codes.{lesser_number}
use Rattle.kc_asm_check.specs.Codes.{examined}
use Rattle.kc_asm_check.proofs.RelocatableByteLemmas.{advances, ends}
use Rattle.kc_asm_check.proofs.relocatable_bytes.misfits.Goals as goal

pub loop-relocatable_byte-preserved : goal.loop-relocatable_byte-preserved
loop-relocatable_byte-preserved c =
    advances c.args.jumps c.args.address c.args.piece c.loop-relocatable_byte.at c.args.relocatable_bytes.now c.loop-relocatable_byte.relocatable_byte-index (Plain 0) _ _ _ _
    c.loop-relocatable_byte-test.true refl
    (c.lesser_number-code.ensures ∙ ap (lesser_number c.loop-relocatable_byte.code) (c.examined.ensures ∙ ap (examined c.args.jumps) c.relocatable_misfit.ensures)) c.loop-relocatable_byte.invariant

pub returns : goal.returns
returns c =
    ends c.args.jumps c.args.address c.args.piece c.loop-relocatable_byte.at c.args.relocatable_bytes.now c.loop-relocatable_byte.relocatable_byte-index _ _ c.loop-relocatable_byte-test.false c.loop-relocatable_byte.invariant
