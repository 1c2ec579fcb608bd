-- An instruction whose numbers fit is well formed under the bases.
use Rattle.std.proofs.Common.{◌≡◌, ℕ, zero, suc, ◌+◌, ◌%◌, ◌<◌, Bool, true, false, List, ◌∷◌, ◌++◌, length, drop, map, refl, sym, ap, ◌∙◌, subst, length-append, arith}
use Rattle.std.proofs.lemmas.List.{drop-map, length-map}
use Rattle.std.specs.Prelude.{Some, negsuc, pos, ◌||◌, ◌&&◌, not, nat_lt, FitsSigned}
use Rattle.std.specs.Int.{w16, cast_signed}
use Rattle.std.proofs.lemmas.Int.{ints}
use Rattle.kc_expr.specs.declared.values.Base.{Base}
use Rattle.kc_expr.specs.declared.values.Base.TheVariants.{Fixed, Absolute, Piece, External}
use Rattle.kc_expr.specs.declared.values.Value.{Value}
use Rattle.kc_isa.specs.declared.layout.Form.{Form}
use Rattle.kc_isa.specs.declared.layout.Form.TheVariants.{NoOperand, Mode, ShiftCount, Distance11, Distance8, Distance16, OneByte}
use Rattle.kc_isa.specs.declared.layout.Layout.{Layout}
use Rattle.kc_isa.specs.declared.insn.Insn.{Insn}
use Rattle.kc_isa.specs.Names.{Shown, row_at}
use Rattle.kc_isa.specs.Layout.{layout_of}
use Rattle.kc_isa.specs.Formed.{is_byte, is_formed, row_fits, operand_fits, rest_is_0}
use Rattle.kc_code.specs.Spelling.{prefix, is_in_range, is_within, operand_in_range}
use Rattle.kc_code.specs.Ranges.{OperandHas}
use Rattle.kc_obj_module.specs.Numbers.{Bases, distance, number, fits}
use Rattle.kc_asm_encode.specs.declared.relocatable_byte.RelocatableByte.{RelocatableByte}
use Rattle.kc_asm_encode.specs.declared.relocatable_byte.RelocatableByte.TheVariants.{Plain, First}
use Rattle.kc_asm_encode.specs.Filling.{base_address, address}
use Rattle.kc_asm_encode.specs.declared.word.Word.{Word}
use Rattle.kc_asm_encode.specs.declared.word.Word.TheVariants.{Absent, Register, Immediate, Indirect, Increment, Short, Long, Count, Jump}
use Rattle.kc_asm_encode.specs.declared.word.RelocatableInsn.{RelocatableInsn}
use Rattle.kc_asm_encode.specs.Instructions.{no_regs}
use Rattle.kc_asm_encode.specs.Words.{operand_of, insn_of}
use Rattle.kc_asm_encode.specs.RelocatableBytes.{operand_relocatables, opcode_relocatable, laid_relocatables, row_relocatables, insn_relocatables}
use Rattle.kc_asm_encode.specs.Suits.{operand_suits, FitsAt, AllFit, IsEven, HasWords, IsInstruction, IsSettled, IsSound}
use Rattle.kc_asm_encode.proofs.Fills.{fit-beginning, fit-behind, distance-small, IsNext, IsOver}
use Rattle.kc_asm_encode.proofs.Spelled.{JumpLast, jump_last, jump_next, jump_over, beginning_relocatables, back_relocatables, relocatables_are}
use Rattle.std.proofs.lemmas.Bool.Decides.{Decides-eqb}
use Rattle.std.specs.Prelude.{◌==◌}

join : (a b : Bool) → a ≡ true → b ≡ true → (a && b) ≡ true
join a b h k = rw (h, k) refl

or-true : (b : Bool) → (b || true) ≡ true
or-true true = refl
or-true false = refl

or-left : (a b : Bool) → a ≡ true → (a || b) ≡ true
or-left a b h = rw h refl

even-test : (n : ℕ) → n % 2 ≡ 0 → (n % 2 == 0) ≡ true
even-test n h = (Decides-eqb (n % 2) 0).1 h

byte-test : (n : ℕ) → fits 1 n ≡ true → nat_lt n 256 ≡ true
unfolding fits
byte-test n h = h

immediate_formed : (b : Bases) (opcode : ℕ) (byte : Bool) (v : Value) (a : ℕ) → (opcode % 4 == 1) ≡ true → AllFit b a (operand_relocatables Mode byte (Immediate v)) →
    ((opcode % 4 == 1) && (nat_lt (address b v) 256 || not byte)) ≡ true
unfolding number
immediate_formed b opcode true v a s h = join _ _ s (or-left _ _ (byte-test (address b v) h.0))
immediate_formed b opcode false v a s h = join _ _ s (or-true (nat_lt (address b v) 256))

operand_formed : (b : Bases) (form : Form) (opcode : ℕ) (byte : Bool) (w : Word) (a next : ℕ) → operand_suits form opcode w ≡ true → AllFit b a (operand_relocatables form byte w) → IsEven b w →
    operand_fits form opcode byte (operand_of b next w) ≡ true
unfolding number
operand_formed b NoOperand opcode byte Absent a next s h even = refl
operand_formed b NoOperand opcode byte w a next s h even = absurd (cc s)
operand_formed b Mode opcode byte (Register v) a next s h even = s
operand_formed b Mode opcode byte (Immediate v) a next s h even = immediate_formed b opcode byte v a s h
operand_formed b Mode opcode byte (Indirect v) a next s h even = join _ _ s (even-test (address b v) even)
operand_formed b Mode opcode byte (Increment v) a next s h even = join _ _ s (even-test (address b v) even)
operand_formed b Mode opcode byte (Short base offset) a next s h even = join _ _ s (even-test (address b base) even)
operand_formed b Mode opcode byte (Long base offset) a next s h even = join _ _ s (even-test (address b base) even)
operand_formed b Mode opcode byte w a next s h even = absurd (cc s)
operand_formed b ShiftCount opcode byte (Count v) a next s h even = refl
operand_formed b ShiftCount opcode byte w a next s h even = absurd (cc s)
operand_formed b Distance11 opcode byte (Jump v) a next s h even = s
operand_formed b Distance11 opcode byte w a next s h even = absurd (cc s)
operand_formed b Distance8 opcode byte (Jump v) a next s h even = refl
operand_formed b Distance8 opcode byte w a next s h even = absurd (cc s)
operand_formed b Distance16 opcode byte (Jump v) a next s h even = refl
operand_formed b Distance16 opcode byte w a next s h even = absurd (cc s)
operand_formed b OneByte opcode byte (Immediate v) a next s h even = byte-test (address b v) h.0
operand_formed b OneByte opcode byte w a next s h even = absurd (cc s)

zeros : (b : Bases) (n : ℕ) → rest_is_0 n (map (address b) no_regs) ≡ true
zeros b zero = refl
zeros b (suc zero) = refl
zeros b (suc (suc zero)) = refl
zeros b (suc (suc (suc zero))) = refl
zeros b (suc (suc (suc (suc n)))) = refl

rest_zero : (b : Bases) (n : ℕ) (regs : List Value) → drop n regs ≡ drop n no_regs → rest_is_0 n (map (address b) regs) ≡ true
rest_zero b n regs e =
    let f : drop n (map (address b) regs) ≡ drop n (map (address b) no_regs) = drop-map (address b) n regs ∙ (ap (λ (vs : List Value). map (address b) vs) e ∙ sym (drop-map (address b) n no_regs)) in
    rw f (zeros b n)

within-8 : (n : ℕ) → n < 65536 → fits 2 n ≡ true → is_within (negsuc 127) (pos 127) (cast_signed w16 n) ≡ true
unfolding fits
within-8 n h e = grind (arith, ints, h, e)

within-11 : (n : ℕ) → n < 65536 → fits 3 n ≡ true → is_within (negsuc 1023) (pos 1023) (cast_signed w16 n) ≡ true
unfolding fits
within-11 n h e = grind (arith, ints, h, e)

short_range : (b : Bases) (v : Value) (a next : ℕ) → a + 1 ≡ next → FitsAt b a (First 2 0 v) → is_within (negsuc 127) (pos 127) (cast_signed w16 (distance (address b v) next)) ≡ true
unfolding number
short_range b v a next e h = subst (λ (n : ℕ). is_within (negsuc 127) (pos 127) (cast_signed w16 (distance (address b v) n)) ≡ true) e (within-8 (distance (address b v) (a + 1)) (distance-small (address b v) (a + 1)) h)

near_range : (b : Bases) (opcode : ℕ) (v : Value) (p next : ℕ) → p + 2 ≡ next → FitsAt b p (First 3 opcode v) → is_within (negsuc 1023) (pos 1023) (cast_signed w16 (distance (address b v) next)) ≡ true
unfolding number
near_range b opcode v p next e h = subst (λ (n : ℕ). is_within (negsuc 1023) (pos 1023) (cast_signed w16 (distance (address b v) n)) ≡ true) e (within-11 (distance (address b v) (p + 2)) (distance-small (address b v) (p + 2)) h)

operand_ranged : (b : Bases) (form : Form) (opcode : ℕ) (byte : Bool) (w : Word) (p a next : ℕ) → FitsAt b p (opcode_relocatable form opcode w) → AllFit b a (operand_relocatables form byte w) →
    IsOver form w p next → IsNext form w a next → operand_in_range form (operand_of b next w) ≡ true
operand_ranged b Distance11 opcode byte (Jump v) p a next g h over last = near_range b opcode v p next over g
operand_ranged b Distance8 opcode byte (Jump v) p a next g h over last = short_range b v a next last h.0
operand_ranged b form opcode byte (Jump v) p a next g h over last = refl
operand_ranged b form opcode byte w p a next g h over last = refl

base_small : (b : Bases) (v : Base) (n : ℕ) → n < 65536 → base_address b v n < 65536
base_small b Fixed n h = h
base_small b Absolute n h = h
base_small b (Piece p) n h = omega arith
base_small b (External e) n h = omega arith

signed-fits : (n : ℕ) → n < 65536 → FitsSigned w16 (cast_signed w16 n)
signed-fits n h = grind (arith, ints, h)

operand_has : (b : Bases) (w : Word) (next : ℕ) → HasWords w → OperandHas (operand_of b next w)
operand_has b Absent next h = tt
operand_has b (Register v) next h = tt
operand_has b (Immediate v) next h = base_small b v.base v.number h
operand_has b (Indirect v) next h = tt
operand_has b (Increment v) next h = tt
operand_has b (Short base offset) next h = h.1
operand_has b (Long base offset) next h = base_small b offset.base offset.number h.1
operand_has b (Count v) next h = tt
operand_has b (Jump v) next h = signed-fits (distance (address b v) next) (distance-small (address b v) next)

formed-row : (i : Insn) (row : Shown) → row_at i.opcode i.signed ≡ Some row → row_fits i row ≡ true → is_formed i ≡ true
formed-row i row e h = rw (e, is_formed) h

range-row : (i : Insn) (row : Shown) → row_at i.opcode i.signed ≡ Some row → operand_in_range (layout_of row.shape).form i.operand ≡ true → is_in_range i ≡ true
range-row i row e h = rw (e, is_in_range) h

sound_row : (b : Bases) (a : ℕ) (word : List ℕ) (w : RelocatableInsn) (h : IsInstruction word w) → AllFit b a (row_relocatables w h.row) → IsEven b w.operand → HasWords w.operand →
    IsSound (insn_of b (a + length (row_relocatables w h.row)) w)
sound_row b a word w h fit even words =
    let row : Shown = h.row in
    let l : Layout = layout_of row.shape in
    let P : List RelocatableByte = map Plain (prefix w.signed) in
    let byte : Bool = is_byte row.width in
    let L : List RelocatableByte = laid_relocatables l byte w in
    let F : List RelocatableByte = beginning_relocatables l w in
    let O : List RelocatableByte = operand_relocatables l.form byte w.operand in
    let B : List RelocatableByte = back_relocatables l w in
    let o : RelocatableByte = opcode_relocatable l.form w.opcode w.operand in
    let p : ℕ = a + length P in
    let n : ℕ = (p + 1) + length L in
    let e : n ≡ a + length (row_relocatables w row) = omega (arith, length-append P (o ∷ L)) in
    let opened : AllFit b p (o ∷ L) = fit-behind b a P (o ∷ L) fit in
    let inside : AllFit b ((p + 1) + length F) (O ++ B) = fit-behind b (p + 1) F (O ++ B) opened.1 in
    let at_operand : AllFit b ((p + 1) + length F) O = fit-beginning b ((p + 1) + length F) O B inside in
    let last : JumpLast l w.operand = jump_last row.shape w.opcode w.operand h.operand in
    let over : IsOver l.form w.operand p n = jump_over l.before l.after l.form byte w.opcode w.signed w.operand w.regs p last in
    let next : IsNext l.form w.operand ((p + 1) + length F) n = jump_next l byte w.opcode w.signed w.operand w.regs (p + 1) last in
    subst (λ (m : ℕ). IsSound (insn_of b m w)) e
    (record {
      formed = formed-row (insn_of b n w) row h.is (join _ _ (operand_formed b l.form w.opcode byte w.operand ((p + 1) + length F) n h.operand at_operand even) (rest_zero b (l.before + l.after) w.regs h.rest));
      in_range = range-row (insn_of b n w) row h.is (operand_ranged b l.form w.opcode byte w.operand p ((p + 1) + length F) n opened.0 at_operand over next);
      has = record { operand = operand_has b w.operand n words; three = length-map w.regs (address b) ∙ h.three; opcode = h.opcode };
    })

pub settled_is_sound : (b : Bases) (a : ℕ) (word : List ℕ) (w : RelocatableInsn) → IsInstruction word w → IsSettled b a w → IsSound (insn_of b (a + length (insn_relocatables w)) w)
settled_is_sound b a word w h s =
    let e : insn_relocatables w ≡ row_relocatables w h.row = relocatables_are word w h in
    subst (λ (os : List RelocatableByte). IsSound (insn_of b (a + length os) w)) (sym e)
    (sound_row b a word w h (subst (λ (os : List RelocatableByte). AllFit b a os) e s.fit) s.even s.words)
