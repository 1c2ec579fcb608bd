-- The filled bytes of an instruction are its spelling under the bases.
use Rattle.std.proofs.Common.{◌≡◌, ℕ, ◌+◌, ◌%◌, ◌<◌, Bool, true, false, List, [], ◌∷◌, ◌++◌, length, map, refl, ap, ◌∙◌, subst, zero-add, arith}
use Rattle.std.specs.Int.{w8, w16, cast_signed, cast_unsigned}
use Rattle.std.proofs.lemmas.Int.{of_z-to_z}
use Rattle.kc_expr.specs.declared.values.Base.{Base}
use Rattle.kc_expr.specs.declared.values.Base.TheVariants.{Fixed, Absolute, Piece, External}
use Rattle.kc_expr.specs.declared.values.Value.{Value}
use Rattle.kc_isa.specs.declared.layout.Form.{Form}
use Rattle.kc_isa.specs.declared.layout.Form.TheVariants.{NoOperand, Mode, ShiftCount, Distance11, Distance8, Distance16, OneByte}
use Rattle.kc_code.specs.Spelling.{word, operand_bytes, high_bits}
use Rattle.kc_obj_module.specs.Numbers.{Bases, distance, number, first_part, second_part, fits}
use Rattle.kc_asm_encode.specs.declared.relocatable_byte.RelocatableByte.{RelocatableByte}
use Rattle.kc_asm_encode.specs.declared.relocatable_byte.RelocatableByte.TheVariants.{Plain, First, Second}
use Rattle.kc_asm_encode.specs.Filling.{base_address, address, fill, filled}
use Rattle.kc_asm_encode.specs.declared.word.Word.{Word}
use Rattle.kc_asm_encode.specs.declared.word.Word.TheVariants.{Absent, Register, Immediate, Indirect, Increment, Short, Long, Count, Jump}
use Rattle.kc_asm_encode.specs.Values.{moved}
use Rattle.kc_asm_encode.specs.Words.{operand_of}
use Rattle.kc_asm_encode.specs.RelocatableBytes.{byte_of, word_of, operand_relocatables, opcode_relocatable}
use Rattle.kc_asm_encode.specs.Suits.{FitsAt, AllFit, IsEven, HasWords}

pub filled-append : (b : Bases) (xs ys : List RelocatableByte) (a : ℕ) → filled b a (xs ++ ys) ≡ filled b a xs ++ filled b (a + length xs) ys
unfolding filled
filled-append b [] ys a = let z : a + 0 ≡ a = omega arith in rw z refl
filled-append b (x ∷ xs) ys a =
    let e : (a + 1) + length xs ≡ a + length (x ∷ xs) = omega arith in
    ap (λ (l : List ℕ). fill b a x ∷ l) (rw (filled-append b xs ys (a + 1)) (rw e refl))

pub fit-beginning : (b : Bases) (a : ℕ) (xs ys : List RelocatableByte) → AllFit b a (xs ++ ys) → AllFit b a xs
fit-beginning b a [] ys h = tt
fit-beginning b a (x ∷ xs) ys h = (h.0, fit-beginning b (a + 1) xs ys h.1)

pub fit-behind : (b : Bases) (a : ℕ) (xs ys : List RelocatableByte) → AllFit b a (xs ++ ys) → AllFit b (a + length xs) ys
fit-behind b a [] ys h = let z : a + 0 ≡ a = omega arith in rw z h
fit-behind b a (x ∷ xs) ys h =
    let e : (a + 1) + length xs ≡ a + length (x ∷ xs) = omega arith in
    subst (λ (n : ℕ). AllFit b n ys) e (fit-behind b (a + 1) xs ys h.1)

pub filled-plain : (b : Bases) (xs : List ℕ) (a : ℕ) → filled b a (map Plain xs) ≡ xs
unfolding filled fill
filled-plain b [] a = refl
filled-plain b (x ∷ xs) a = ap (λ (l : List ℕ). x ∷ l) (filled-plain b xs (a + 1))

below-byte : (n : ℕ) → fits 1 n ≡ true → n < 256
unfolding fits
below-byte n h = grind arith

pub byte-fits : (b : Bases) (v : Value) (a : ℕ) → FitsAt b a (byte_of v) → address b v < 256
unfolding number
byte-fits b v a h = below-byte (address b v) h

fill-byte : (b : Bases) (v : Value) (a : ℕ) → FitsAt b a (byte_of v) → fill b a (byte_of v) ≡ address b v
unfolding fill first_part number
fill-byte b v a h = let k : address b v < 256 = byte-fits b v a h in omega arith

pub filled-bytes : (b : Bases) (vs : List Value) (a : ℕ) → AllFit b a (map byte_of vs) → filled b a (map byte_of vs) ≡ map (address b) vs
unfolding filled
filled-bytes b [] a h = refl
filled-bytes b (v ∷ vs) a h = rw (fill-byte b v a h.0) (ap (λ (l : List ℕ). address b v ∷ l) (filled-bytes b vs (a + 1) h.1))

pub distance-small : (to from : ℕ) → distance to from < 65536
unfolding distance
distance-small to from = omega arith

pub signed-back : (to from : ℕ) → cast_unsigned w16 (cast_signed w16 (distance to from)) ≡ distance to from
signed-back to from = of_z-to_z w16 (distance to from) (distance-small to from)

abbrev pub jump_length : Form → ℕ
jump_length Distance16 = 2
jump_length form = 1

-- the next instruction begins right behind a jump's bytes
abbrev pub IsNext : Form → Word → ℕ → ℕ → Type 0
IsNext form (Jump v) a next = a + jump_length form ≡ next
IsNext form w a next = Unit {0}

short_jump : (b : Bases) (v : Value) (a next : ℕ) → a + 1 ≡ next → filled b a (First 2 0 v ∷ []) ≡ (cast_unsigned w16 (cast_signed w16 (distance (address b v) next)) % 256) ∷ []
unfolding filled fill first_part number
short_jump b v a next e = subst (λ (n : ℕ). filled b a (First 2 0 v ∷ []) ≡ (cast_unsigned w16 (cast_signed w16 (distance (address b v) n)) % 256) ∷ []) e (rw (signed-back (address b v) (a + 1)) (rw zero-add refl))

jump_filled : (b : Bases) (form : Form) (v : Value) (a next : ℕ) → IsNext form (Jump v) a next → filled b a (operand_relocatables form true (Jump v)) ≡ operand_bytes form true (operand_of b next (Jump v))
unfolding filled fill first_part second_part number
jump_filled b Distance16 v a next e = subst (λ (n : ℕ). filled b a (word_of 4 v) ≡ operand_bytes Distance16 true (operand_of b n (Jump v))) e
    (rw (signed-back (address b v) (a + 2)) (let f : (a + 1) + 1 ≡ a + 2 = omega arith in rw (f, zero-add) refl))
jump_filled b Distance11 v a next e = subst (λ (n : ℕ). filled b a (Second 3 v ∷ []) ≡ operand_bytes Distance11 true (operand_of b n (Jump v))) e
    (rw (signed-back (address b v) (a + 1)) refl)
jump_filled b NoOperand v a next e = short_jump b v a next e
jump_filled b Mode v a next e = short_jump b v a next e
jump_filled b ShiftCount v a next e = short_jump b v a next e
jump_filled b Distance8 v a next e = short_jump b v a next e
jump_filled b OneByte v a next e = short_jump b v a next e

byte_filled : (b : Bases) (v : Value) (a : ℕ) → AllFit b a (byte_of v ∷ []) → filled b a (byte_of v ∷ []) ≡ address b v ∷ []
byte_filled b v a h = filled-bytes b (v ∷ []) a h

word_filled : (b : Bases) (v : Value) (a : ℕ) → filled b a (word_of 0 v) ≡ word (address b v)
unfolding filled fill first_part second_part number
word_filled b v a = rw zero-add refl

immediate_filled : (b : Bases) (form : Form) (byte : Bool) (v : Value) (a next : ℕ) → AllFit b a (operand_relocatables form byte (Immediate v)) →
    filled b a (operand_relocatables form byte (Immediate v)) ≡ operand_bytes form byte (operand_of b next (Immediate v))
immediate_filled b Mode true v a next h = byte_filled b v a h
immediate_filled b Mode false v a next h = word_filled b v a
immediate_filled b NoOperand byte v a next h = byte_filled b v a h
immediate_filled b ShiftCount byte v a next h = byte_filled b v a h
immediate_filled b Distance11 byte v a next h = byte_filled b v a h
immediate_filled b Distance8 byte v a next h = byte_filled b v a h
immediate_filled b Distance16 byte v a next h = byte_filled b v a h
immediate_filled b OneByte byte v a next h = byte_filled b v a h

next_base : (b : Bases) (base : Base) (n : ℕ) → base_address b base n % 2 ≡ 0 → n < 65536 → base_address b base ((n + 1) % 65536) ≡ base_address b base n + 1
next_base b Fixed n h k = omega arith
next_base b Absolute n h k = omega arith
next_base b (Piece p) n h k = omega arith
next_base b (External e) n h k = omega arith

-- the low bit of an even register's byte is free
next_register : (b : Bases) (v : Value) → address b v % 2 ≡ 0 → v.number < 65536 → address b (moved v 1) ≡ address b v + 1
next_register b v h k = next_base b v.base v.number h k

short_filled : (b : Bases) (v : Value) (n a : ℕ) → AllFit b a (byte_of v ∷ Plain n ∷ []) → filled b a (byte_of v ∷ Plain n ∷ []) ≡ address b v ∷ n ∷ []
unfolding filled fill
short_filled b v n a h = rw (fill-byte b v a h.0) refl

long_filled : (b : Bases) (base offset : Value) (a : ℕ) → AllFit b a (byte_of (moved base 1) ∷ word_of 0 offset) → address b base % 2 ≡ 0 → base.number < 65536 →
    filled b a (byte_of (moved base 1) ∷ word_of 0 offset) ≡ (address b base + 1) ∷ word (address b offset)
long_filled b base offset a h e k =
    filled-append b (byte_of (moved base 1) ∷ []) (word_of 0 offset) a ∙
    (rw (byte_filled b (moved base 1) a (h.0, tt), next_register b base e k) (ap (λ (l : List ℕ). (address b base + 1) ∷ l) (word_filled b offset (a + 1))))

pub operand_filled : (b : Bases) (form : Form) (byte : Bool) (w : Word) (a next : ℕ) → IsNext form w a next → AllFit b a (operand_relocatables form byte w) →
    IsEven b w → HasWords w → filled b a (operand_relocatables form byte w) ≡ operand_bytes form byte (operand_of b next w)
unfolding filled
operand_filled b form byte Absent a next e h even words = refl
operand_filled b form byte (Register v) a next e h even words = byte_filled b v a h
operand_filled b form byte (Immediate v) a next e h even words = immediate_filled b form byte v a next h
operand_filled b form byte (Indirect v) a next e h even words = byte_filled b v a h
operand_filled b form byte (Increment v) a next e h even words = byte_filled b (moved v 1) a h ∙ ap (λ (n : ℕ). n ∷ []) (next_register b v even words)
operand_filled b form byte (Short base offset) a next e h even words = short_filled b base (cast_unsigned w8 offset) a h
operand_filled b form byte (Long base offset) a next e h even words = long_filled b base offset a h even words.0
operand_filled b form byte (Count v) a next e h even words = byte_filled b v a h
operand_filled b form byte (Jump v) a next e h even words = jump_filled b form v a next e

abbrev pub IsOver : Form → Word → ℕ → ℕ → Type 0
IsOver Distance11 (Jump v) a next = a + 2 ≡ next
IsOver form w a next = Unit {0}

pub opcode_filled : (b : Bases) (form : Form) (opcode : ℕ) (w : Word) (a next : ℕ) → IsOver form w a next → fill b a (opcode_relocatable form opcode w) ≡ opcode + high_bits form (operand_of b next w)
unfolding fill first_part number
opcode_filled b Distance11 opcode (Jump v) a next e = subst (λ (n : ℕ). fill b a (First 3 opcode v) ≡ opcode + high_bits Distance11 (operand_of b n (Jump v))) e (rw (signed-back (address b v) (a + 2)) refl)
opcode_filled b Distance11 opcode w a next e = omega arith
opcode_filled b NoOperand opcode w a next e = omega arith
opcode_filled b Mode opcode w a next e = omega arith
opcode_filled b ShiftCount opcode w a next e = omega arith
opcode_filled b Distance8 opcode w a next e = omega arith
opcode_filled b Distance16 opcode w a next e = omega arith
opcode_filled b OneByte opcode w a next e = omega arith
