use Rattle.std.proofs.Common.{◌≡◌, ◌∙◌, sym, subst, arith, ℕ, ◌<◌, ◌-◌, Some, None}
use Rattle.kc_lex.specs.Instructions.{least, first_opcode}
use Rattle.kc_asm_encode.specs.Opcodes.{opcode_of, is_opcode_for}
use Rattle.kc_asm_encode.proofs.Search.{opcode_from, opcode_none, least_step, least_found, least_none}
use Rattle.kc_asm_encode.proofs.opcode.opcode_of.Goals as goal

pub loop-opcode-init : goal.loop-opcode-init
loop-opcode-init c =
    let f : first_opcode c.args.word.now c.args.signed ≡ Some c.in_ok-first.first = sym c.in_ok-first.ensures in
    subst (λ (k : ℕ). opcode_of c.args.word.now c.args.args.now c.args.signed ≡ least (is_opcode_for c.args.word.now c.args.args.now c.args.signed) (256 - k) k) (sym c.from-opcode.ensures)
    (opcode_from c.args.word.now c.args.args.now c.args.signed c.in_ok-first.first f)

pub returns-in_err-first : goal.returns-in_err-first
returns-in_err-first c =
    let f : first_opcode c.args.word.now c.args.signed ≡ None = sym c.in_err-first.ensures in
    c.from_residual.ensures ∙ sym (opcode_none c.args.word.now c.args.args.now c.args.signed f)

pub returns-then-is_opcode_for : goal.returns-then-is_opcode_for
returns-then-is_opcode_for c =
    let h : c.loop-opcode.opcode < 256 = omega arith in
    sym (c.loop-opcode.invariant ∙ least_found (is_opcode_for c.args.word.now c.args.args.now c.args.signed) 256 c.loop-opcode.opcode h (sym c.if-is_opcode_for.ensures))

pub loop-opcode-preserved : goal.loop-opcode-preserved
loop-opcode-preserved c =
    let h : c.loop-opcode.opcode < 256 = omega arith in
    c.loop-opcode.invariant ∙ least_step (is_opcode_for c.args.word.now c.args.args.now c.args.signed) 256 c.loop-opcode.opcode h (sym c.if-is_opcode_for.ensures)

pub returns : goal.returns
returns c = sym (c.loop-opcode.invariant ∙ least_none (is_opcode_for c.args.word.now c.args.args.now c.args.signed) 256 c.loop-opcode.opcode (omega arith))
