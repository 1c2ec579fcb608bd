use Rattle.std.proofs.Common.{◌≡◌, ◌∙◌, length, arith}
use Rattle.kc_asm_encode.specs.Instructions.{instructions}
use Rattle.kc_asm_encode.specs.RelocatableBytes.{all_relocatable_bytes}
use Rattle.kc_asm_encode.proofs.Stays.{length_anywhere}
use Rattle.kc_asm_encode.proofs.Most.{length_most}
use Rattle.kc_asm_encode.proofs.relocatable_bytes.length.Goals as goal

pub returns-clause-count : goal.returns-clause-count
returns-clause-count c = λ here.
    let e : c.total.result ≡ length (all_relocatable_bytes (instructions c.args.word.now c.args.args.now c.args.form c.fixed.result)) = cc in
    e ∙ length_anywhere c.args.word.now c.args.args.now c.args.form c.fixed.result here

pub returns-clause-most : goal.returns-clause-most
returns-clause-most c =
    let e : c.total.result ≡ length (all_relocatable_bytes (instructions c.args.word.now c.args.args.now c.args.form c.fixed.result)) = cc in
    omega (arith, e, length_most c.args.word.now c.args.args.now c.args.form c.fixed.result)
