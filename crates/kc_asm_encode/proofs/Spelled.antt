-- The filled bytes of a whole instruction.
use Rattle.std.proofs.Common.{◌≡◌, ℕ, ◌+◌, Bool, true, List, ◌∷◌, ◌++◌, length, take, drop, map, refl, sym, ◌∙◌, subst, length-append, arith}
use Rattle.std.proofs.lemmas.List.{take-map, drop-map}
use Rattle.kc_expr.specs.declared.values.Value.{Value}
use Rattle.kc_isa.specs.declared.layout.Form.{Form}
use Rattle.kc_isa.specs.declared.layout.Form.TheVariants.{NoOperand, Mode, ShiftCount, Distance11, Distance8, Distance16, OneByte}
use Rattle.kc_isa.specs.declared.layout.Layout.{Layout}
use Rattle.kc_isa.specs.declared.table.Shape.{Shape}
use Rattle.kc_isa.specs.declared.table.Shape.TheVariants as shapes
use Rattle.kc_isa.specs.Names.{Shown}
use Rattle.kc_isa.specs.Layout.{layout_of}
use Rattle.kc_isa.specs.Formed.{is_byte}
use Rattle.kc_code.specs.Spelling.{prefix, laid_bytes, row_spelling, spelling}
use Rattle.kc_obj_module.specs.Numbers.{Bases}
use Rattle.kc_asm_encode.specs.declared.relocatable_byte.RelocatableByte.{RelocatableByte}
use Rattle.kc_asm_encode.specs.declared.relocatable_byte.RelocatableByte.TheVariants.{Plain}
use Rattle.kc_asm_encode.specs.Filling.{address, filled}
use Rattle.kc_asm_encode.specs.declared.word.Word.{Word}
use Rattle.kc_asm_encode.specs.declared.word.Word.TheVariants.{Absent, Register, Immediate, Indirect, Increment, Short, Long, Count, Jump}
use Rattle.kc_asm_encode.specs.declared.word.RelocatableInsn.{RelocatableInsn}
use Rattle.kc_asm_encode.specs.Words.{insn_of}
use Rattle.kc_asm_encode.specs.RelocatableBytes.{byte_of, jump_relocatables, operand_relocatables, opcode_relocatable, laid_relocatables, row_relocatables, insn_relocatables}
use Rattle.kc_asm_encode.specs.Suits.{operand_suits, AllFit, IsInstruction, IsSettled, IsEven, HasWords}
use Rattle.kc_asm_encode.proofs.Fills.{filled-append, fit-beginning, fit-behind, filled-plain, filled-bytes, jump_length, IsNext, operand_filled, IsOver, opcode_filled}

-- what a layout has for a jump: nothing behind it, and nothing between the parts of 11 bits
abbrev pub IsHigh : Form → ℕ → Type 0
IsHigh Distance11 before = before ≡ 0
IsHigh form before = Unit {0}

abbrev pub JumpLast : Layout → Word → Type 0
JumpLast l (Jump v) = (l.after ≡ 0) × IsHigh l.form l.before
JumpLast l w = Unit {0}

-- a jump stands in the layouts that have a distance
jump_only : (form : Form) (opcode before after : ℕ) (w : Word) → operand_suits form opcode w ≡ true → ((v : Value) → operand_suits form opcode (Jump v) ≡ true → (after ≡ 0) × IsHigh form before) → JumpLast (record { before = before; form = form; after = after }) w
jump_only form opcode before after Absent h k = tt
jump_only form opcode before after (Register v) h k = tt
jump_only form opcode before after (Immediate v) h k = tt
jump_only form opcode before after (Indirect v) h k = tt
jump_only form opcode before after (Increment v) h k = tt
jump_only form opcode before after (Short base offset) h k = tt
jump_only form opcode before after (Long base offset) h k = tt
jump_only form opcode before after (Count v) h k = tt
jump_only form opcode before after (Jump v) h k = k v h

pub jump_last : (shape : Shape) (opcode : ℕ) (w : Word) → operand_suits (layout_of shape).form opcode w ≡ true → JumpLast (layout_of shape) w
jump_last shapes.Nothing opcode w h = jump_only NoOperand opcode 0 0 w h (λ v e. absurd (cc e))
jump_last shapes.One opcode w h = jump_only NoOperand opcode 0 1 w h (λ v e. absurd (cc e))
jump_last shapes.Two opcode w h = jump_only NoOperand opcode 0 2 w h (λ v e. absurd (cc e))
jump_last shapes.Four opcode w h = jump_only Mode opcode 0 0 w h (λ v e. absurd (cc e))
jump_last shapes.FourOne opcode w h = jump_only Mode opcode 0 1 w h (λ v e. absurd (cc e))
jump_last shapes.FourTwo opcode w h = jump_only Mode opcode 0 2 w h (λ v e. absurd (cc e))
jump_last shapes.Exchange opcode w h = jump_only Mode opcode 0 1 w h (λ v e. absurd (cc e))
jump_last shapes.CountOne opcode w h = jump_only ShiftCount opcode 0 1 w h (λ v e. absurd (cc e))
jump_last shapes.Near opcode w h = jump_only Distance11 opcode 0 0 w h (λ v e. (refl, refl))
jump_last shapes.Conditional opcode w h = jump_only Distance8 opcode 0 0 w h (λ v e. (refl, tt))
jump_last shapes.BitTest opcode w h = jump_only Distance8 opcode 1 0 w h (λ v e. (refl, tt))
jump_last shapes.Loop opcode w h = jump_only Distance8 opcode 1 0 w h (λ v e. (refl, tt))
jump_last shapes.TableJump opcode w h = jump_only NoOperand opcode 0 3 w h (λ v e. absurd (cc e))
jump_last shapes.Far opcode w h = jump_only Distance16 opcode 0 0 w h (λ v e. (refl, tt))
jump_last shapes.Key opcode w h = jump_only OneByte opcode 0 0 w h (λ v e. absurd (cc e))

abbrev pub beginning_relocatables : Layout → RelocatableInsn → List RelocatableByte
beginning_relocatables l w = map byte_of (take l.before w.regs)

abbrev pub back_relocatables : Layout → RelocatableInsn → List RelocatableByte
back_relocatables l w = map byte_of (take l.after (drop l.before w.regs))

body_filled : (b : Bases) (l : Layout) (byte : Bool) (w : RelocatableInsn) (a next : ℕ) → IsNext l.form w.operand (a + length (beginning_relocatables l w)) next →
    AllFit b a (laid_relocatables l byte w) → IsEven b w.operand → HasWords w.operand →
    filled b a (laid_relocatables l byte w) ≡ laid_bytes l byte (insn_of b next w)
body_filled b l byte w a next e h even words =
    let F : List RelocatableByte = beginning_relocatables l w in
    let O : List RelocatableByte = operand_relocatables l.form byte w.operand in
    let B : List RelocatableByte = back_relocatables l w in
    let behind : AllFit b (a + length F) (O ++ B) = fit-behind b a F (O ++ B) h in
    rw (filled-append b F (O ++ B) a)
    (rw (filled-append b O B (a + length F))
    (rw (filled-bytes b (take l.before w.regs) a (fit-beginning b a F (O ++ B) h))
    (rw (filled-bytes b (take l.after (drop l.before w.regs)) (a + length F + length O) (fit-behind b (a + length F) O B behind))
    (rw (operand_filled b l.form byte w.operand (a + length F) next e (fit-beginning b (a + length F) O B behind) even words)
    (rw (drop-map (address b) l.before w.regs, take-map (address b) l.before w.regs, take-map (address b) l.after (drop l.before w.regs)) refl)))))

jump-length : (form : Form) (v : Value) → length (jump_relocatables form v) ≡ jump_length form
jump-length Distance16 v = refl
jump-length form v = refl

pub jump_next : (l : Layout) (byte : Bool) (opcode : ℕ) (signed : Bool) (o : Word) (regs : List Value) (a : ℕ) → JumpLast l o →
    let w : RelocatableInsn = record { opcode = opcode; signed = signed; operand = o; regs = regs } in
    IsNext l.form o (a + length (beginning_relocatables l w)) (a + length (laid_relocatables l byte w))
jump_next l byte opcode signed (Jump v) regs a h =
    let B : List RelocatableByte = map byte_of (take l.before regs) in
    let A : List RelocatableByte = map byte_of (take l.after (drop l.before regs)) in
    let z : length A ≡ 0 = rw h.0 refl in
    omega (arith, length-append B (jump_relocatables l.form v ++ A), length-append (jump_relocatables l.form v) A, jump-length l.form v, z)
jump_next l byte opcode signed o regs a h = tt

pub jump_over : (before after : ℕ) (form : Form) (byte : Bool) (opcode : ℕ) (signed : Bool) (o : Word) (regs : List Value) (a : ℕ) →
    let l : Layout = record { before = before; form = form; after = after } in
    JumpLast l o →
    let w : RelocatableInsn = record { opcode = opcode; signed = signed; operand = o; regs = regs } in
    IsOver form o a ((a + 1) + length (laid_relocatables l byte w))
jump_over before after Distance11 byte opcode signed (Jump v) regs a h = rw (h.0, h.1) (omega arith)
jump_over before after Distance11 byte opcode signed o regs a h = tt
jump_over before after form byte opcode signed o regs a h = tt

-- the filled bytes of an instruction with a row
row_filled : (b : Bases) (w : RelocatableInsn) (row : Shown) (a : ℕ) → JumpLast (layout_of row.shape) w.operand → AllFit b a (row_relocatables w row) → IsEven b w.operand → HasWords w.operand →
    filled b a (row_relocatables w row) ≡ row_spelling (insn_of b (a + length (row_relocatables w row)) w) row
unfolding filled
row_filled b w row a h fit even words =
    let l : Layout = layout_of row.shape in
    let P : List RelocatableByte = map Plain (prefix w.signed) in
    let L : List RelocatableByte = laid_relocatables l (is_byte row.width) w in
    let o : RelocatableByte = opcode_relocatable l.form w.opcode w.operand in
    let p : ℕ = a + length P in
    let n : ℕ = (p + 1) + length L in
    let e : n ≡ a + length (row_relocatables w row) = omega (arith, length-append P (o ∷ L)) in
    let body : AllFit b (p + 1) L = (fit-behind b a P (o ∷ L) fit).1 in
    subst (λ (m : ℕ). filled b a (row_relocatables w row) ≡ row_spelling (insn_of b m w) row) e
    (rw (filled-append b P (o ∷ L) a)
    (rw (filled-plain b (prefix w.signed) a)
    (rw (opcode_filled b l.form w.opcode w.operand p n (jump_over l.before l.after l.form (is_byte row.width) w.opcode w.signed w.operand w.regs p h))
    (rw (body_filled b l (is_byte row.width) w (p + 1) n (jump_next l (is_byte row.width) w.opcode w.signed w.operand w.regs (p + 1) h) body even words) refl))))

pub relocatables_are : (word : List ℕ) (w : RelocatableInsn) (h : IsInstruction word w) → insn_relocatables w ≡ row_relocatables w h.row
relocatables_are word w h = rw (h.is, insn_relocatables) refl

pub filled_is_spelled : (b : Bases) (a : ℕ) (word : List ℕ) (w : RelocatableInsn) → IsInstruction word w → IsSettled b a w → filled b a (insn_relocatables w) ≡ spelling (insn_of b (a + length (insn_relocatables w)) w)
filled_is_spelled b a word w h s =
    let e : insn_relocatables w ≡ row_relocatables w h.row = relocatables_are word w h in
    let fit : AllFit b a (row_relocatables w h.row) = subst (λ (os : List RelocatableByte). AllFit b a os) e s.fit in
    let f : filled b a (row_relocatables w h.row) ≡ row_spelling (insn_of b (a + length (row_relocatables w h.row)) w) h.row = row_filled b w h.row a (jump_last h.row.shape w.opcode w.operand h.operand) fit s.even s.words in
    let g : spelling (insn_of b (a + length (row_relocatables w h.row)) w) ≡ row_spelling (insn_of b (a + length (row_relocatables w h.row)) w) h.row = rw (h.is, spelling) refl in
    subst (λ (os : List RelocatableByte). filled b a os ≡ spelling (insn_of b (a + length os) w)) (sym e) (f ∙ sym g)
