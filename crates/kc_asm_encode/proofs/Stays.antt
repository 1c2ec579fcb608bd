-- The length of an operation depends neither on its place nor on numbers that are not fixed.
use Rattle.std.proofs.Common.{◌≡◌, ℕ, ◌+◌, ◌%◌, Bool, true, false, List, [], ◌∷◌, ◌++◌, length, take, drop, map, refl, sym, ap, ◌∙◌, subst, length-append, length-take, length-drop, Option, Some, None, arith}
use Rattle.std.proofs.Math.ListN.{get_or-map}
use Rattle.std.proofs.lemmas.List.{length-map}
use Rattle.std.specs.Prelude.{if◌then◌else◌}
use Rattle.std.specs.Option.{option_map}
use Rattle.kc_expr.specs.declared.values.Base.{Base}
use Rattle.kc_expr.specs.declared.values.Base.TheVariants.{Fixed, Absolute, Piece, External}
use Rattle.kc_expr.specs.declared.values.Tag.{Tag}
use Rattle.kc_expr.specs.declared.values.Value.{Value}
use Rattle.kc_isa.specs.declared.layout.Form.{Form}
use Rattle.kc_isa.specs.declared.layout.Form.TheVariants.{Mode, Distance11, Distance16}
use Rattle.kc_isa.specs.declared.layout.Layout.{Layout}
use Rattle.kc_isa.specs.declared.table.Shape.{Shape}
use Rattle.kc_isa.specs.declared.table.Shape.TheVariants as shapes
use Rattle.kc_isa.specs.Names.{Shown, row_at}
use Rattle.kc_isa.specs.Layout.{layout_of}
use Rattle.kc_isa.specs.Formed.{is_byte}
use Rattle.kc_code.specs.Spelling.{prefix}
use Rattle.kc_asm_encode.specs.declared.relocatable_byte.RelocatableByte.{RelocatableByte}
use Rattle.kc_asm_encode.specs.declared.relocatable_byte.RelocatableByte.TheVariants as relocatable_bytes
use Rattle.kc_asm_encode.specs.declared.argument.Argument.{Argument}
use Rattle.kc_asm_encode.specs.declared.argument.Argument.TheVariants.{Plain, Immediate, Indirect, Increment, Indexed}
use Rattle.kc_branch.specs.declared.piece.Form.{Form as BranchForm}
use Rattle.kc_branch.specs.declared.piece.BranchKind.{BranchKind}
use Rattle.kc_asm_encode.specs.declared.word.Word.{Word}
use Rattle.kc_asm_encode.specs.declared.word.Word.TheVariants as words
use Rattle.kc_asm_encode.specs.declared.word.RelocatableInsn.{RelocatableInsn}
use Rattle.kc_expr.specs.Meaning.{is_fixed}
use Rattle.kc_asm_encode.specs.Values.{or_zero, is_direct, is_short, argument, value_of, bit_of}
use Rattle.kc_asm_encode.specs.Sources.{mode, plain_source, indexed_source, source}
use Rattle.kc_asm_encode.specs.Opcodes.{wanted_bits, is_row_for, is_opcode_for, opcode_of}
use Rattle.kc_asm_encode.specs.Branches.{Line, line, plain_branch, branch_kind, in_full}
use Rattle.kc_asm_encode.specs.Instructions.{operand_for, regs_for, laid, signed_instruction, instruction, listed, all_lines, instructions}
use Rattle.kc_asm_encode.specs.RelocatableBytes.{byte_of, operand_relocatables, opcode_relocatable, laid_relocatables, row_relocatables, insn_relocatables, all_relocatable_bytes}
use Rattle.kc_asm_encode.specs.Blurred.{blurred_value, blurred}
use Rattle.kc_asm_encode.proofs.EncodingSearch.{opcode-alike}
use Rattle.kc_asm_encode.proofs.Found.{three_for}
use Rattle.kc_asm_encode.proofs.Exists.{plain_is, behind_plain, signed_is}
use Rattle.kc_asm_encode.proofs.Lengths.{lines-relocatable_bytes, branches_have_lengths}

-- ---- what an operand without its number reports

direct_at : (base : Base) (tag : Tag) (n : ℕ) → let v : Value = record { base = base; tag = tag; number = n } in is_direct (blurred_value (Some v)) ≡ is_direct (Some v)
direct_at Fixed tag n = refl
direct_at Absolute tag n = refl
direct_at (Piece p) tag n = refl
direct_at (External e) tag n = refl

direct_same : (x : Option Value) → is_direct (blurred_value x) ≡ is_direct x
direct_same None = refl
direct_same (Some v) = direct_at v.base v.tag v.number

short_at : (base : Base) (tag : Tag) (n : ℕ) → let v : Value = record { base = base; tag = tag; number = n } in is_short (blurred_value (Some v)) ≡ is_short (Some v)
short_at Fixed tag n = refl
short_at Absolute tag n = refl
short_at (Piece p) tag n = refl
short_at (External e) tag n = refl

short_same : (x : Option Value) → is_short (blurred_value x) ≡ is_short x
short_same None = refl
short_same (Some v) = short_at v.base v.tag v.number

abbrev bits : Value → ℕ
bits v = if is_fixed v.base then v.number % 8 else 0

bits_at : (base : Base) (tag : Tag) (n : ℕ) → let v : Value = record { base = base; tag = tag; number = n } in bits (or_zero (blurred_value (Some v))) ≡ bits v
bits_at Fixed tag n = refl
bits_at Absolute tag n = refl
bits_at (Piece p) tag n = refl
bits_at (External e) tag n = refl

bits_same : (x : Option Value) → bits (or_zero (blurred_value x)) ≡ bits (or_zero x)
bits_same None = refl
bits_same (Some v) = bits_at v.base v.tag v.number

bit_same : (a : Argument) → bit_of (blurred a) ≡ bit_of a
bit_same (Plain x) = bits_same x
bit_same (Immediate x) = bits_same x
bit_same (Indirect x) = bits_same x
bit_same (Increment x) = bits_same x
bit_same (Indexed x r) = bits_same x

mode_same : (a : Argument) → mode (blurred a) ≡ mode a
mode_same (Plain x) = ap (λ (t : Bool). if t then 0 else 3) (direct_same x)
mode_same (Immediate x) = refl
mode_same (Indirect x) = refl
mode_same (Increment x) = refl
mode_same (Indexed x r) = refl

argument_same : (args : List Argument) (n : ℕ) → argument (map blurred args) n ≡ blurred (argument args n)
argument_same args n = get_or-map blurred args n (Plain None)

-- ---- the opcode

wanted_same : (shape : Shape) (args : List Argument) → wanted_bits shape (map blurred args) ≡ wanted_bits shape args
wanted_same shapes.Four args = ap mode (argument_same args 0) ∙ mode_same (argument args 0)
wanted_same shapes.FourOne args = ap mode (argument_same args 1) ∙ mode_same (argument args 1)
wanted_same shapes.FourTwo args = ap mode (argument_same args 2) ∙ mode_same (argument args 2)
wanted_same shapes.Exchange args = ap mode (argument_same args 1) ∙ mode_same (argument args 1)
wanted_same shapes.BitTest args = ap bit_of (argument_same args 1) ∙ bit_same (argument args 1)
wanted_same shape args = refl

row_same : (word : List ℕ) (args : List Argument) (opcode : ℕ) (row : Shown) → is_row_for word (map blurred args) opcode row ≡ is_row_for word args opcode row
row_same word args opcode row = rw (length-map args blurred, wanted_same row.shape args) refl

opcode_same : (word : List ℕ) (args : List Argument) (signed : Bool) (opcode : ℕ) → is_opcode_for word (map blurred args) signed opcode ≡ is_opcode_for word args signed opcode
opcode_same word args signed opcode = at (row_at opcode signed)
  where
    at : (r : Option Shown) → (elim r as (λ _. Bool) [ None ↦ false | Some row ↦ is_row_for word (map blurred args) opcode row ]) ≡ (elim r as (λ _. Bool) [ None ↦ false | Some row ↦ is_row_for word args opcode row ])
    at None = refl
    at (Some row) = row_same word args opcode row

opcodes_same : (word : List ℕ) (args : List Argument) (signed : Bool) → opcode_of word (map blurred args) signed ≡ opcode_of word args signed
opcodes_same word args signed = opcode-alike word (map blurred args) args signed (λ k. opcode_same word args signed k)

-- ---- the bytes of an operand

AreAsLong : Word → Word → Type 0
AreAsLong a b = (form : Form) (byte : Bool) → length (operand_relocatables form byte a) ≡ length (operand_relocatables form byte b)

immediate_same : (v w : Value) → AreAsLong (words.Immediate v) (words.Immediate w)
unfolding AreAsLong
immediate_same v w Mode true = refl
immediate_same v w Mode false = refl
immediate_same v w form byte = refl

jump_same : (v w : Value) → AreAsLong (words.Jump v) (words.Jump w)
unfolding AreAsLong
jump_same v w Distance16 byte = refl
jump_same v w Distance11 byte = refl
jump_same v w form byte = refl

plain_same : (x y : Option Value) (t : Bool) → is_direct x ≡ t → is_direct y ≡ t → AreAsLong (plain_source x) (plain_source y)
unfolding AreAsLong
plain_same x y true e f form byte = rw (e, f) refl
plain_same x y false e f form byte = rw (e, f) refl

indexed_same : (x y r s : Option Value) (t : Bool) → is_short x ≡ t → is_short y ≡ t → AreAsLong (indexed_source x r) (indexed_source y s)
unfolding AreAsLong
indexed_same x y r s true e f form byte = rw (e, f) refl
indexed_same x y r s false e f form byte = rw (e, f) refl

source_same : (a : Argument) → AreAsLong (source (blurred a)) (source a)
unfolding AreAsLong
source_same (Plain x) = plain_same (blurred_value x) x (is_direct x) (direct_same x) refl
source_same (Immediate x) = immediate_same (or_zero (blurred_value x)) (or_zero x)
source_same (Indirect x) = λ form byte. refl
source_same (Increment x) = λ form byte. refl
source_same (Indexed x r) = indexed_same (blurred_value x) x (blurred_value r) r (is_short x) (short_same x) refl

source_at : (args : List Argument) (n : ℕ) → AreAsLong (source (argument (map blurred args) n)) (source (argument args n))
source_at args n = subst (λ (a : Argument). AreAsLong (source a) (source (argument args n))) (sym (argument_same args n)) (source_same (argument args n))

operand_same : (shape : Shape) (args : List Argument) → AreAsLong (operand_for shape (map blurred args)) (operand_for shape args)
unfolding AreAsLong
operand_same shapes.Nothing args = λ form byte. refl
operand_same shapes.One args = λ form byte. refl
operand_same shapes.Two args = λ form byte. refl
operand_same shapes.Four args = source_at args 0
operand_same shapes.FourOne args = source_at args 1
operand_same shapes.FourTwo args = source_at args 2
operand_same shapes.Exchange args = source_at args 1
operand_same shapes.CountOne args = λ form byte. refl
operand_same shapes.Near args = jump_same (value_of (argument (map blurred args) 0)) (value_of (argument args 0))
operand_same shapes.Conditional args = jump_same (value_of (argument (map blurred args) 0)) (value_of (argument args 0))
operand_same shapes.BitTest args = jump_same (value_of (argument (map blurred args) 2)) (value_of (argument args 2))
operand_same shapes.Loop args = jump_same (value_of (argument (map blurred args) 1)) (value_of (argument args 1))
operand_same shapes.TableJump args = λ form byte. refl
operand_same shapes.Far args = jump_same (value_of (argument (map blurred args) 0)) (value_of (argument args 0))
operand_same shapes.Key args = immediate_same (value_of (argument (map blurred args) 0)) (value_of (argument args 0))

-- ---- the bytes of an instruction

pub taken : (n : ℕ) (xs ys : List Value) → length xs ≡ length ys → length (map byte_of (take n xs)) ≡ length (map byte_of (take n ys))
taken n xs ys e = omega (arith, length-map (take n xs) byte_of, length-map (take n ys) byte_of, length-take n xs, length-take n ys)

behind : (m n : ℕ) (xs ys : List Value) → length xs ≡ length ys → length (map byte_of (take n (drop m xs))) ≡ length (map byte_of (take n (drop m ys)))
behind m n xs ys e = taken n (drop m xs) (drop m ys) (omega (arith, length-drop m xs, length-drop m ys))

abbrev pub parts : Layout → Bool → ℕ → Bool → Word → List Value → List RelocatableByte
parts l byte opcode signed o regs = let w : RelocatableInsn = record { opcode = opcode; signed = signed; operand = o; regs = regs } in laid_relocatables l byte w

pub parts_length : (l : Layout) (byte : Bool) (opcode : ℕ) (signed : Bool) (o : Word) (regs : List Value) →
    length (parts l byte opcode signed o regs) ≡ length (map byte_of (take l.before regs)) + (length (operand_relocatables l.form byte o) + length (map byte_of (take l.after (drop l.before regs))))
parts_length l byte opcode signed o regs =
    omega (
      arith,
      length-append (map byte_of (take l.before regs)) (operand_relocatables l.form byte o ++ map byte_of (take l.after (drop l.before regs))),
      length-append (operand_relocatables l.form byte o) (map byte_of (take l.after (drop l.before regs))),
    )

pub row_length : (w : RelocatableInsn) (row : Shown) → length (row_relocatables w row) ≡ length (map relocatable_bytes.Plain (prefix w.signed)) + (1 + length (laid_relocatables (layout_of row.shape) (is_byte row.width) w))
row_length w row = omega (arith, length-append (map relocatable_bytes.Plain (prefix w.signed)) (opcode_relocatable (layout_of row.shape).form w.opcode w.operand ∷ laid_relocatables (layout_of row.shape) (is_byte row.width) w))

laid_same : (opcode : ℕ) (signed : Bool) (args : List Argument) (row : Shown) → length (row_relocatables (laid opcode signed (map blurred args) row.shape) row) ≡ length (row_relocatables (laid opcode signed args row.shape) row)
unfolding AreAsLong
laid_same opcode signed args row =
    let l : Layout = layout_of row.shape in
    let byte : Bool = is_byte row.width in
    let o : Word = operand_for row.shape args in
    let p : Word = operand_for row.shape (map blurred args) in
    let r : List Value = regs_for row.shape args in
    let s : List Value = regs_for row.shape (map blurred args) in
    let e : length s ≡ length r = three_for row.shape (map blurred args) ∙ sym (three_for row.shape args) in
    omega (
      arith,
      row_length (laid opcode signed args row.shape) row,
      row_length (laid opcode signed (map blurred args) row.shape) row,
      parts_length l byte opcode signed o r,
      parts_length l byte opcode signed p s,
      taken l.before s r e,
      behind l.before l.after s r e,
      operand_same row.shape args l.form byte,
    )

insn_is : (w : RelocatableInsn) (row : Shown) → row_at w.opcode w.signed ≡ Some row → insn_relocatables w ≡ row_relocatables w row
insn_is w row e = rw (e, insn_relocatables) refl

pub single_length : (w : RelocatableInsn) → length (all_relocatable_bytes (w ∷ [])) ≡ length (insn_relocatables w)
single_length w = omega (arith, length-append (insn_relocatables w) [])

at_row : (opcode : ℕ) (signed : Bool) (args : List Argument) (r : Option Shown) → row_at opcode signed ≡ r →
    length (all_relocatable_bytes (listed (option_map (λ (row : Shown). laid opcode signed (map blurred args) row.shape) r))) ≡ length (all_relocatable_bytes (listed (option_map (λ (row : Shown). laid opcode signed args row.shape) r)))
at_row opcode signed args None e = refl
at_row opcode signed args (Some row) e =
    let v : RelocatableInsn = laid opcode signed (map blurred args) row.shape in
    let w : RelocatableInsn = laid opcode signed args row.shape in
    single_length v ∙ (ap (λ (os : List RelocatableByte). length os) (insn_is v row e) ∙ (laid_same opcode signed args row ∙ (sym (ap (λ (os : List RelocatableByte). length os) (insn_is w row e)) ∙ sym (single_length w))))

abbrev pub size : Option RelocatableInsn → ℕ
size o = length (all_relocatable_bytes (listed o))

signed_at : (word : List ℕ) (args : List Argument) (o : Option ℕ) → opcode_of word args true ≡ o → size (signed_instruction word (map blurred args)) ≡ size (signed_instruction word args)
signed_at word args None e =
    let f : signed_instruction word (map blurred args) ≡ None = none word (map blurred args) (opcodes_same word args true ∙ e) in
    ap size (f ∙ sym (none word args e))
  where
    none : (word : List ℕ) (args : List Argument) → opcode_of word args true ≡ None → signed_instruction word args ≡ None
    none word args e = rw (e, signed_instruction) refl
signed_at word args (Some j) e =
    ap size (signed_is word (map blurred args) j (opcodes_same word args true ∙ e)) ∙ (at_row j true args (row_at j true) refl ∙ sym (ap size (signed_is word args j e)))

plain_at : (word : List ℕ) (args : List Argument) (o : Option ℕ) → opcode_of word args false ≡ o → size (instruction word (map blurred args)) ≡ size (instruction word args)
plain_at word args None e =
    ap size (behind_plain word (map blurred args) (opcodes_same word args false ∙ e)) ∙ (signed_at word args (opcode_of word args true) refl ∙ sym (ap size (behind_plain word args e)))
plain_at word args (Some j) e =
    ap size (plain_is word (map blurred args) j (opcodes_same word args false ∙ e)) ∙ (at_row j false args (row_at j false) refl ∙ sym (ap size (plain_is word args j e)))

instruction_same : (word : List ℕ) (args : List Argument) → size (instruction word (map blurred args)) ≡ size (instruction word args)
instruction_same word args = plain_at word args (opcode_of word args false) refl

-- ---- operations

branch_args : (args : List Argument) → plain_branch (map blurred args) ≡ plain_branch args
branch_args [] = refl
branch_args (Plain x ∷ []) = refl
branch_args (Immediate x ∷ []) = refl
branch_args (Indirect x ∷ []) = refl
branch_args (Increment x ∷ []) = refl
branch_args (Indexed x r ∷ []) = refl
branch_args (a ∷ b ∷ rest) = longer (blurred a) (blurred b) (map blurred rest) ∙ sym (longer a b rest)
  where
    longer : (a b : Argument) (rest : List Argument) → plain_branch (a ∷ b ∷ rest) ≡ None
    longer (Plain x) b rest = refl
    longer (Immediate x) b rest = refl
    longer (Indirect x) b rest = refl
    longer (Increment x) b rest = refl
    longer (Indexed x r) b rest = refl

kind_same : (word : List ℕ) (args : List Argument) → branch_kind word (map blurred args) ≡ branch_kind word args
unfolding branch_kind
kind_same word args = rw (branch_args args) refl

plain_full : (word : List ℕ) (args : List Argument) (form : BranchForm) (here : Value) → branch_kind word args ≡ None → in_full word args form here ≡ line word args ∷ []
plain_full word args form here e = rw (e, in_full) refl

pub plain_size : (word : List ℕ) (args : List Argument) (form : BranchForm) (here : Value) → branch_kind word args ≡ None → length (all_relocatable_bytes (instructions word args form here)) ≡ size (instruction word args)
unfolding instructions
plain_size word args form here e =
    ap (λ (ls : List Line). length (all_relocatable_bytes (all_lines ls))) (plain_full word args form here e) ∙ omega (arith, lines-relocatable_bytes word args [])

length_at : (word : List ℕ) (args : List Argument) (form : BranchForm) (here there : Value) (k : Option BranchKind) → branch_kind word args ≡ k →
    length (all_relocatable_bytes (instructions word args form here)) ≡ length (all_relocatable_bytes (instructions word (map blurred args) form there))
length_at word args form here there None e =
    plain_size word args form here e ∙ (sym (instruction_same word args) ∙ sym (plain_size word (map blurred args) form there (kind_same word args ∙ e)))
length_at word args form here there (Some kind) e =
    branches_have_lengths word args form here kind e ∙ sym (branches_have_lengths word (map blurred args) form there kind (kind_same word args ∙ e))

pub length_stays : (word : List ℕ) (args : List Argument) (form : BranchForm) (here there : Value) →
    length (all_relocatable_bytes (instructions word args form here)) ≡ length (all_relocatable_bytes (instructions word (map blurred args) form there))
length_stays word args form here there = length_at word args form here there (branch_kind word args) refl

pub length_anywhere : (word : List ℕ) (args : List Argument) (form : BranchForm) (here there : Value) →
    length (all_relocatable_bytes (instructions word args form here)) ≡ length (all_relocatable_bytes (instructions word args form there))
length_anywhere word args form here there = length_stays word args form here here ∙ sym (length_stays word args form there here)
