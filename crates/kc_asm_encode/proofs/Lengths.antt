-- How many bytes instructions and branches have.
use Rattle.std.proofs.Common.{◌≡◌, ℕ, ◌+◌, ◌<◌, Bool, true, false, List, [], ◌∷◌, length, map, refl, sym, ap, ◌∙◌, subst, length-append, Option, Some, None, arith}
use Rattle.std.specs.Prelude.{◌==◌, not, is_some, codes}
use Rattle.std.proofs.lemmas.Slice.Eq.{bytes_eq-Decides}
use Rattle.kc_expr.specs.declared.values.Value.{Value}
use Rattle.kc_isa.specs.declared.table.Shape.{Shape}
use Rattle.kc_isa.specs.declared.table.Shape.TheVariants as shapes
use Rattle.kc_isa.specs.Names.{Shown, row_at}
use Rattle.kc_isa.specs.Layout.{layout_of}
use Rattle.kc_isa.specs.Formed.{is_byte}
use Rattle.kc_code.specs.Spelling.{prefix}
use Rattle.kc_lex.specs.Instructions.{least}
use Rattle.kc_asm_encode.specs.declared.relocatable_byte.RelocatableByte.{RelocatableByte}
use Rattle.kc_asm_encode.specs.declared.relocatable_byte.RelocatableByte.TheVariants.{Plain}
use Rattle.kc_asm_encode.specs.declared.argument.Argument.{Argument}
use Rattle.kc_branch.specs.declared.piece.Form.{Form}
use Rattle.kc_branch.specs.declared.piece.Form.TheVariants.{First, Second, Third}
use Rattle.kc_branch.specs.declared.piece.BranchKind.{BranchKind}
use Rattle.kc_branch.specs.declared.piece.BranchKind.TheVariants.{Jump, Call, Conditional, BitTest}
use Rattle.kc_branch.specs.Forms.{size as branch_length}
use Rattle.kc_asm_encode.specs.declared.word.Word.{Word}
use Rattle.kc_asm_encode.specs.declared.word.Word.TheVariants as words
use Rattle.kc_asm_encode.specs.declared.word.RelocatableInsn.{RelocatableInsn}
use Rattle.kc_asm_encode.specs.Values.{argument}
use Rattle.kc_asm_encode.specs.Branches.{Line, line, tested, over, branch_kind, branch_lines, jump_of, inverse_of, in_full}
use Rattle.kc_asm_encode.specs.Instructions.{instruction, listed, all_lines, instructions}
use Rattle.kc_asm_encode.specs.RelocatableBytes.{opcode_relocatable, laid_relocatables, row_relocatables, insn_relocatables, all_relocatable_bytes}
use Rattle.kc_asm_encode.specs.Suits.{operand_suits, IsInstruction}
use Rattle.kc_asm_encode.proofs.EncodingSearch.{least-finds}
use Rattle.kc_asm_encode.proofs.Spelled.{relocatables_are}
use Rattle.kc_asm_encode.proofs.Found.{both, instruction_found}
use Rattle.kc_asm_encode.proofs.Paired.{listed-relocatable_bytes}
use Rattle.kc_asm_encode.proofs.Rows
use Rattle.kc_asm_encode.proofs.Rows.{shape_number, is_other, differs, is_signed, has_one_shape, has_rows}
use Rattle.kc_asm_encode.proofs.Exists.{IsFound, one_of, same_shape, join}
use Rattle.kc_asm_encode.proofs.Operations.{IsWordOf, AllFound, branch_word, branch_found, branch_rows, test_rows}

-- ---- the shape of a mnemonic

pub not_some : (p : ℕ → Bool) (k : ℕ) → not (is_some (least p 256 0)) ≡ true → k < 256 → p k ≡ true → ⊥
not_some p k h b e =
    let r : (j : ℕ) × (least p 256 0 ≡ Some j) = least-finds p 256 0 k (omega arith) (omega arith) e in
    let f : not (is_some (least p 256 0)) ≡ false = rw r.1 refl in
    absurd (cc (f, h))

true-or-not : (t : Bool) → (t ≡ false → ⊥) → t ≡ true
true-or-not true h = refl
true-or-not false h = absurd (h refl)

negated : (t : Bool) → t ≡ false → not t ≡ true
negated t e = rw e refl

no_signed : (v : List ℕ) (shape : Shape) (opcode : ℕ) (row : Shown) → has_one_shape shape v ≡ true → opcode < 256 → row_at opcode true ≡ Some row → row.name ≡ v → ⊥
unfolding has_one_shape
no_signed v shape opcode row h b e n =
    let p : is_signed v opcode ≡ true = rw (e, is_signed) ((bytes_eq-Decides row.name v).1 n) in
    not_some (is_signed v) opcode (both _ _ h).1 b p

one_shape : (v : List ℕ) (shape : Shape) (opcode : ℕ) (row : Shown) → has_one_shape shape v ≡ true → opcode < 256 → row_at opcode false ≡ Some row → row.name ≡ v → row.shape ≡ shape
unfolding has_one_shape
one_shape v shape opcode row h b e n =
    same_shape row.shape shape (true-or-not (shape_number row.shape == shape_number shape) (λ f.
    (let o : is_other v shape row ≡ true = join _ _ ((bytes_eq-Decides row.name v).1 n) (negated _ f) in
    let p : differs v shape opcode ≡ true = rw (e, differs) o in
    not_some (differs v shape) opcode (both _ _ h).0 b p)))

pub shape_of : (v : List ℕ) (shape : Shape) (opcode : ℕ) (signed : Bool) (row : Shown) → has_one_shape shape v ≡ true → opcode < 256 → row_at opcode signed ≡ Some row → row.name ≡ v → (signed ≡ false) × (row.shape ≡ shape)
shape_of v shape opcode true row h b e n = absurd (no_signed v shape opcode row h b e n)
shape_of v shape opcode false row h b e n = (refl, one_shape v shape opcode row h b e n)

-- ---- the length of a jump

abbrev jump_size : Shape → ℕ
jump_size shapes.BitTest = 3
jump_size shapes.Far = 3
jump_size shape = 2

abbrev body : Shape → Bool → ℕ → Bool → Word → List Value → List RelocatableByte
body shape byte opcode signed o regs =
    let w : RelocatableInsn = record { opcode = opcode; signed = signed; operand = o; regs = regs } in
    opcode_relocatable (layout_of shape).form opcode o ∷ laid_relocatables (layout_of shape) byte w

near_body : (byte : Bool) (opcode : ℕ) (signed : Bool) (o : Word) (regs : List Value) → operand_suits (layout_of shapes.Near).form opcode o ≡ true → length (body shapes.Near byte opcode signed o regs) ≡ 2
near_body byte opcode signed (words.Jump v) regs h = refl
near_body byte opcode signed o regs h = absurd (cc h)

far_body : (byte : Bool) (opcode : ℕ) (signed : Bool) (o : Word) (regs : List Value) → operand_suits (layout_of shapes.Far).form opcode o ≡ true → length (body shapes.Far byte opcode signed o regs) ≡ 3
far_body byte opcode signed (words.Jump v) regs h = refl
far_body byte opcode signed o regs h = absurd (cc h)

conditional_body : (byte : Bool) (opcode : ℕ) (signed : Bool) (o : Word) (regs : List Value) → operand_suits (layout_of shapes.Conditional).form opcode o ≡ true → length (body shapes.Conditional byte opcode signed o regs) ≡ 2
conditional_body byte opcode signed (words.Jump v) regs h = refl
conditional_body byte opcode signed o regs h = absurd (cc h)

test_body : (byte : Bool) (opcode : ℕ) (signed : Bool) (o : Word) (regs : List Value) → operand_suits (layout_of shapes.BitTest).form opcode o ≡ true → length regs ≡ 3 → length (body shapes.BitTest byte opcode signed o regs) ≡ 3
test_body byte opcode signed o [] h k = absurd (cc k)
test_body byte opcode signed (words.Jump v) (r ∷ rs) h k = refl
test_body byte opcode signed o (r ∷ rs) h k = absurd (cc h)

abbrev IsJump : Shape → Type 0
IsJump shapes.Near = Unit {0}
IsJump shapes.Far = Unit {0}
IsJump shapes.Conditional = Unit {0}
IsJump shapes.BitTest = Unit {0}
IsJump shape = ⊥

jump_body : (shape : Shape) (byte : Bool) (opcode : ℕ) (signed : Bool) (o : Word) (regs : List Value) → IsJump shape → operand_suits (layout_of shape).form opcode o ≡ true → length regs ≡ 3 →
    length (body shape byte opcode signed o regs) ≡ jump_size shape
jump_body shapes.Near byte opcode signed o regs j h k = near_body byte opcode signed o regs h
jump_body shapes.Far byte opcode signed o regs j h k = far_body byte opcode signed o regs h
jump_body shapes.Conditional byte opcode signed o regs j h k = conditional_body byte opcode signed o regs h
jump_body shapes.BitTest byte opcode signed o regs j h k = test_body byte opcode signed o regs h k
jump_body shape byte opcode signed o regs j h k = absurd j

row_jump : (w : RelocatableInsn) (row : Shown) (shape : Shape) → IsJump shape → w.signed ≡ false → row.shape ≡ shape → operand_suits (layout_of row.shape).form w.opcode w.operand ≡ true → length w.regs ≡ 3 →
    length (row_relocatables w row) ≡ jump_size shape
row_jump w row shape j s e h k =
    let p : length (map Plain (prefix w.signed)) ≡ 0 = rw s refl in
    let b : length (body row.shape (is_byte row.width) w.opcode w.signed w.operand w.regs) ≡ jump_size row.shape = jump_body row.shape (is_byte row.width) w.opcode w.signed w.operand w.regs (subst (λ (x : Shape). IsJump x) (sym e) j) h k in
    omega (arith, length-append (map Plain (prefix w.signed)) (body row.shape (is_byte row.width) w.opcode w.signed w.operand w.regs), p, b, ap jump_size e)

jump_length : (v : List ℕ) (shape : Shape) (w : RelocatableInsn) → IsJump shape → has_one_shape shape v ≡ true → IsInstruction v w → length (insn_relocatables w) ≡ jump_size shape
jump_length v shape w j h i =
    let s : (w.signed ≡ false) × (i.row.shape ≡ shape) = shape_of v shape w.opcode w.signed i.row h i.opcode i.is i.named in
    ap (λ (os : List RelocatableByte). length os) (relocatables_are v w i) ∙ row_jump w i.row shape j s.0 s.1 i.operand i.three

-- ---- lines

listed_length : (word : List ℕ) (args : List Argument) (shape : Shape) (o : Option RelocatableInsn) → instruction word args ≡ o → IsFound word args → IsJump shape → has_one_shape shape word ≡ true →
    length (all_relocatable_bytes (listed o)) ≡ jump_size shape
listed_length word args shape None e f j h = absurd (cc (e, f.1))
listed_length word args shape (Some w) e f j h = omega (arith, length-append (insn_relocatables w) [], jump_length word shape w j h (instruction_found word args w e))

line_length : (word : List ℕ) (args : List Argument) (shape : Shape) → IsFound word args → IsJump shape → has_one_shape shape word ≡ true → length (all_relocatable_bytes (listed (instruction word args))) ≡ jump_size shape
line_length word args shape f j h = listed_length word args shape (instruction word args) refl f j h

pub lines-relocatable_bytes : (word : List ℕ) (args : List Argument) (ls : List Line) → length (all_relocatable_bytes (all_lines (line word args ∷ ls))) ≡ length (all_relocatable_bytes (listed (instruction word args))) + length (all_relocatable_bytes (all_lines ls))
lines-relocatable_bytes word args ls = ap (λ (os : List RelocatableByte). length os) (listed-relocatable_bytes (instruction word args) (all_lines ls)) ∙ length-append (all_relocatable_bytes (listed (instruction word args))) (all_relocatable_bytes (all_lines ls))

one_line : (word : List ℕ) (args : List Argument) (shape : Shape) → IsFound word args → IsJump shape → has_one_shape shape word ≡ true → length (all_relocatable_bytes (all_lines (line word args ∷ []))) ≡ jump_size shape
one_line word args shape f j h = omega (arith, lines-relocatable_bytes word args [], line_length word args shape f j h)

two_lines : (word second : List ℕ) (args rest : List Argument) (a b : Shape) → IsFound word args → IsFound second rest → IsJump a → IsJump b → has_one_shape a word ≡ true → has_one_shape b second ≡ true →
    length (all_relocatable_bytes (all_lines (line word args ∷ line second rest ∷ []))) ≡ jump_size a + jump_size b
two_lines word second args rest a b f g i j h k = omega (arith, lines-relocatable_bytes word args (line second rest ∷ []), line_length word args a f i h, one_line second rest b g j k)

pub sjmp : has_one_shape shapes.Near (codes "SJMP") ≡ true
sjmp = one_of (has_one_shape shapes.Near) Rows.near_words (codes "SJMP") Rows.near_shape refl

pub scall : has_one_shape shapes.Near (codes "SCALL") ≡ true
scall = one_of (has_one_shape shapes.Near) Rows.near_words (codes "SCALL") Rows.near_shape refl

pub ljmp : has_one_shape shapes.Far (codes "LJMP") ≡ true
ljmp = one_of (has_one_shape shapes.Far) Rows.far_words (codes "LJMP") Rows.far_shape refl

pub lcall : has_one_shape shapes.Far (codes "LCALL") ≡ true
lcall = one_of (has_one_shape shapes.Far) Rows.far_words (codes "LCALL") Rows.far_shape refl

abbrev Bits : List ℕ
Bits = 0 ∷ 1 ∷ 2 ∷ 3 ∷ 4 ∷ 5 ∷ 6 ∷ 7 ∷ []

pub jump_shape : (w : List ℕ) (h : IsWordOf Conditional w) → has_one_shape shapes.Conditional (jump_of w) ≡ true
jump_shape w h = (both (has_rows shapes.Conditional (0 ∷ []) (jump_of w)) _ (both _ _ (branch_rows w h)).0).1

pub inverse_shape : (w : List ℕ) (h : IsWordOf Conditional w) → has_one_shape shapes.Conditional (inverse_of w) ≡ true
inverse_shape w h = (both (has_rows shapes.Conditional (0 ∷ []) (inverse_of w)) _ (both _ _ (branch_rows w h)).1).1

pub test_shape : (w : List ℕ) (h : IsWordOf BitTest w) → has_one_shape shapes.BitTest (jump_of w) ≡ true
test_shape w h = (both (has_rows shapes.BitTest Bits (jump_of w)) _ (both _ _ (test_rows w h)).0).1

pub inverse_test_shape : (w : List ℕ) (h : IsWordOf BitTest w) → has_one_shape shapes.BitTest (inverse_of w) ≡ true
inverse_test_shape w h = (both (has_rows shapes.BitTest Bits (inverse_of w)) _ (both _ _ (test_rows w h)).1).1

pub branch_size : (kind : BranchKind) (w : List ℕ) (args : List Argument) (form : Form) (here : Value) → IsWordOf kind w → AllFound (branch_lines kind w args form here) →
    length (all_relocatable_bytes (all_lines (branch_lines kind w args form here))) ≡ branch_length kind form
branch_size Jump w args First here h f = one_line (codes "SJMP") (argument args 0 ∷ []) shapes.Near f.0 tt sjmp
branch_size Jump w args Second here h f = one_line (codes "LJMP") (argument args 0 ∷ []) shapes.Far f.0 tt ljmp
branch_size Jump w args Third here h f = one_line (codes "LJMP") (argument args 0 ∷ []) shapes.Far f.0 tt ljmp
branch_size Call w args First here h f = one_line (codes "SCALL") (argument args 0 ∷ []) shapes.Near f.0 tt scall
branch_size Call w args Second here h f = one_line (codes "LCALL") (argument args 0 ∷ []) shapes.Far f.0 tt lcall
branch_size Call w args Third here h f = one_line (codes "LCALL") (argument args 0 ∷ []) shapes.Far f.0 tt lcall
branch_size Conditional w args First here h f = one_line (jump_of w) (argument args 0 ∷ []) shapes.Conditional f.0 tt (jump_shape w h)
branch_size Conditional w args Second here h f = two_lines (inverse_of w) (codes "SJMP") (over here 4 ∷ []) (argument args 0 ∷ []) shapes.Conditional shapes.Near f.0 f.1.0 tt tt (inverse_shape w h) sjmp
branch_size Conditional w args Third here h f = two_lines (inverse_of w) (codes "LJMP") (over here 5 ∷ []) (argument args 0 ∷ []) shapes.Conditional shapes.Far f.0 f.1.0 tt tt (inverse_shape w h) ljmp
branch_size BitTest w args First here h f = one_line (jump_of w) (tested args (argument args 2)) shapes.BitTest f.0 tt (test_shape w h)
branch_size BitTest w args Second here h f = two_lines (inverse_of w) (codes "SJMP") (tested args (over here 5)) (argument args 2 ∷ []) shapes.BitTest shapes.Near f.0 f.1.0 tt tt (inverse_test_shape w h) sjmp
branch_size BitTest w args Third here h f = two_lines (inverse_of w) (codes "LJMP") (tested args (over here 6)) (argument args 2 ∷ []) shapes.BitTest shapes.Far f.0 f.1.0 tt tt (inverse_test_shape w h) ljmp

in_full_is : (word : List ℕ) (args : List Argument) (form : Form) (here : Value) (kind : BranchKind) → branch_kind word args ≡ Some kind → in_full word args form here ≡ branch_lines kind word args form here
in_full_is word args form here kind e = rw (e, in_full) refl

pub branches_have_lengths : (word : List ℕ) (args : List Argument) (form : Form) (here : Value) (kind : BranchKind) → branch_kind word args ≡ Some kind →
    length (all_relocatable_bytes (instructions word args form here)) ≡ branch_length kind form
unfolding instructions
branches_have_lengths word args form here kind e =
    let h : IsWordOf kind word = branch_word word args kind e in
    ap (λ (ls : List Line). length (all_relocatable_bytes (all_lines ls))) (in_full_is word args form here kind e) ∙
    branch_size kind word args form here h (branch_found kind word args form here h)
