-- The bytes of instructions go in pairs.
use Rattle.std.proofs.Common.{◌≡◌, ℕ, Bool, true, false, List, [], ◌∷◌, ◌++◌, take, drop, map, refl, sym, subst, append_assoc, Option, Some, None}
use Rattle.kc_expr.specs.declared.values.Value.{Value}
use Rattle.kc_isa.specs.declared.layout.Form.{Form}
use Rattle.kc_isa.specs.declared.layout.Form.TheVariants.{Mode, Distance11, Distance16}
use Rattle.kc_isa.specs.declared.layout.Layout.{Layout}
use Rattle.kc_isa.specs.Names.{Shown}
use Rattle.kc_isa.specs.Layout.{layout_of}
use Rattle.kc_isa.specs.Formed.{is_byte}
use Rattle.kc_code.specs.Spelling.{prefix}
use Rattle.kc_asm_encode.specs.declared.relocatable_byte.RelocatableByte.{RelocatableByte}
use Rattle.kc_asm_encode.specs.declared.relocatable_byte.RelocatableByte.TheVariants.{Plain, First}
use Rattle.kc_asm_encode.specs.declared.argument.Argument.{Argument}
use Rattle.kc_branch.specs.declared.piece.Form.{Form as BranchForm}
use Rattle.kc_asm_encode.specs.declared.word.Word.{Word}
use Rattle.kc_asm_encode.specs.declared.word.Word.TheVariants.{Absent, Register, Immediate, Indirect, Increment, Short, Long, Count, Jump}
use Rattle.kc_asm_encode.specs.declared.word.RelocatableInsn.{RelocatableInsn}
use Rattle.kc_asm_encode.specs.Branches.{Line, in_full}
use Rattle.kc_asm_encode.specs.Instructions.{instruction, listed, all_lines, instructions}
use Rattle.kc_asm_encode.specs.RelocatableBytes.{byte_of, operand_relocatables, opcode_relocatable, laid_relocatables, row_relocatables, insn_relocatables, all_relocatable_bytes}
use Rattle.kc_asm_encode.specs.Suits.{IsInstruction}
use Rattle.kc_asm_encode.specs.Pairs.{Pending, opens, Follows, IsPairedFrom, IsPaired}
use Rattle.kc_asm_encode.proofs.Spelled.{JumpLast, jump_last, relocatables_are}
use Rattle.kc_asm_encode.proofs.Found.{instruction_found}

paired-from : (p : Pending) (xs ys : List RelocatableByte) → IsPairedFrom p xs → IsPaired ys → IsPairedFrom p (xs ++ ys)
paired-from p [] ys h k = subst (λ (q : Pending). IsPairedFrom q ys) (sym h) k
paired-from p (x ∷ xs) ys h k = (h.0, paired-from (opens x) xs ys h.1 k)

pub paired-append : (xs ys : List RelocatableByte) → IsPaired xs → IsPaired ys → IsPaired (xs ++ ys)
paired-append xs ys h k = paired-from None xs ys h k

paired-plain : (xs : List ℕ) → IsPaired (map Plain xs)
paired-plain [] = refl
paired-plain (x ∷ xs) = (tt, paired-plain xs)

paired-bytes : (vs : List Value) → IsPaired (map byte_of vs)
paired-bytes [] = refl
paired-bytes (v ∷ vs) = (tt, paired-bytes vs)

-- an operand whose first byte is not in the opcode
paired_operand : (form : Form) (byte : Bool) (o : Word) → opens (opcode_relocatable form 0 o) ≡ None → IsPaired (operand_relocatables form byte o)
paired_operand form byte Absent e = refl
paired_operand form byte (Register v) e = (tt, refl)
paired_operand form byte (Indirect v) e = (tt, refl)
paired_operand form byte (Increment v) e = (tt, refl)
paired_operand form byte (Short base offset) e = (tt, (tt, refl))
paired_operand form byte (Long base offset) e = (tt, (tt, ((refl, refl), refl)))
paired_operand form byte (Count v) e = (tt, refl)
paired_operand Mode true (Immediate v) e = (tt, refl)
paired_operand Mode false (Immediate v) e = (tt, ((refl, refl), refl))
paired_operand form byte (Immediate v) e = (tt, refl)
paired_operand Distance11 byte (Jump v) e = absurd (cc e)
paired_operand Distance16 byte (Jump v) e = (tt, ((refl, refl), refl))
paired_operand form byte (Jump v) e = (tt, refl)

plain_laid : (l : Layout) (byte : Bool) (w : RelocatableInsn) → opens (opcode_relocatable l.form 0 w.operand) ≡ None → IsPaired (laid_relocatables l byte w)
plain_laid l byte w e =
    paired-append (map byte_of (take l.before w.regs)) (operand_relocatables l.form byte w.operand ++ map byte_of (take l.after (drop l.before w.regs)))
    (paired-bytes (take l.before w.regs))
    (paired-append (operand_relocatables l.form byte w.operand) (map byte_of (take l.after (drop l.before w.regs))) (paired_operand l.form byte w.operand e) (paired-bytes (take l.after (drop l.before w.regs))))

abbrev OpensNothing : Form → ℕ → Word → Type 0
OpensNothing form opcode o = (opens (opcode_relocatable form opcode o) ≡ None) × (opens (opcode_relocatable form 0 o) ≡ None) × Follows None (opcode_relocatable form opcode o)

plain_opcode : (before after : ℕ) (form : Form) (byte : Bool) (opcode : ℕ) (signed : Bool) (o : Word) (regs : List Value) → OpensNothing form opcode o →
    let l : Layout = record { before = before; form = form; after = after } in
    let w : RelocatableInsn = record { opcode = opcode; signed = signed; operand = o; regs = regs } in
    IsPaired (opcode_relocatable form opcode o ∷ laid_relocatables l byte w)
plain_opcode before after form byte opcode signed o regs h =
    let l : Layout = record { before = before; form = form; after = after } in
    let w : RelocatableInsn = record { opcode = opcode; signed = signed; operand = o; regs = regs } in
    (h.2, subst (λ (p : Pending). IsPairedFrom p (laid_relocatables l byte w)) (sym h.0) (plain_laid l byte w h.1))

near_opcode : (before after : ℕ) (byte : Bool) (opcode : ℕ) (signed : Bool) (v : Value) (regs : List Value) → before ≡ 0 → after ≡ 0 →
    let l : Layout = record { before = before; form = Distance11; after = after } in
    let w : RelocatableInsn = record { opcode = opcode; signed = signed; operand = Jump v; regs = regs } in
    IsPaired (First 3 opcode v ∷ laid_relocatables l byte w)
near_opcode before after byte opcode signed v regs h k = rw (h, k) (tt, ((refl, refl), refl))

paired_laid : (before after : ℕ) (form : Form) (byte : Bool) (opcode : ℕ) (signed : Bool) (o : Word) (regs : List Value) →
    let l : Layout = record { before = before; form = form; after = after } in
    JumpLast l o →
    let w : RelocatableInsn = record { opcode = opcode; signed = signed; operand = o; regs = regs } in
    IsPaired (opcode_relocatable form opcode o ∷ laid_relocatables l byte w)
paired_laid before after Distance11 byte opcode signed (Jump v) regs h = near_opcode before after byte opcode signed v regs h.1 h.0
paired_laid before after Distance11 byte opcode signed o regs h = plain_opcode before after Distance11 byte opcode signed o regs (refl, refl, tt)
paired_laid before after form byte opcode signed o regs h = plain_opcode before after form byte opcode signed o regs (refl, refl, tt)

paired_row : (w : RelocatableInsn) (row : Shown) → JumpLast (layout_of row.shape) w.operand → IsPaired (row_relocatables w row)
paired_row w row h =
    let l : Layout = layout_of row.shape in
    paired-append (map Plain (prefix w.signed)) (opcode_relocatable l.form w.opcode w.operand ∷ laid_relocatables l (is_byte row.width) w)
    (paired-plain (prefix w.signed)) (paired_laid l.before l.after l.form (is_byte row.width) w.opcode w.signed w.operand w.regs h)

pub paired_insn : (word : List ℕ) (w : RelocatableInsn) → IsInstruction word w → IsPaired (insn_relocatables w)
paired_insn word w h =
    subst (λ (os : List RelocatableByte). IsPaired os) (sym (relocatables_are word w h)) (paired_row w h.row (jump_last h.row.shape w.opcode w.operand h.operand))

paired_listed : (word : List ℕ) (args : List Argument) (o : Option RelocatableInsn) → instruction word args ≡ o → IsPaired (all_relocatable_bytes (listed o))
paired_listed word args None e = refl
paired_listed word args (Some w) e = paired-append (insn_relocatables w) [] (paired_insn word w (instruction_found word args w e)) refl

pub listed-relocatable_bytes : (o : Option RelocatableInsn) (ws : List RelocatableInsn) → all_relocatable_bytes (listed o ++ ws) ≡ all_relocatable_bytes (listed o) ++ all_relocatable_bytes ws
listed-relocatable_bytes None ws = refl
listed-relocatable_bytes (Some w) ws = simp append_assoc

pub paired_lines : (ls : List Line) → IsPaired (all_relocatable_bytes (all_lines ls))
paired_lines [] = refl
paired_lines (l ∷ ls) = rw (listed-relocatable_bytes (instruction l.word l.args) (all_lines ls))
    (paired-append (all_relocatable_bytes (listed (instruction l.word l.args))) (all_relocatable_bytes (all_lines ls)) (paired_listed l.word l.args (instruction l.word l.args) refl) (paired_lines ls))

pub relocatables_are_paired : (word : List ℕ) (args : List Argument) (form : BranchForm) (here : Value) → IsPaired (all_relocatable_bytes (instructions word args form here))
unfolding instructions
relocatables_are_paired word args form here = paired_lines (in_full word args form here)
