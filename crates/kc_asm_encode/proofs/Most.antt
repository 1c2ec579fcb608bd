-- An instruction has at most seven bytes, and its numbers have room in them.
use Rattle.std.proofs.Common.{◌≡◌, ℕ, zero, suc, ◌+◌, ◌<◌, ◌≤◌, Bool, true, false, List, [], ◌∷◌, ◌++◌, length, take, drop, map, refl, ap, length-take, Option, Some, None, arith}
use Rattle.std.proofs.lemmas.List.{length-map}
use Rattle.std.specs.List.{All}
use Rattle.std.specs.Prelude.{◌&&◌, not, is_some, nat_lt}
use Rattle.std.proofs.lemmas.Bool.Decides.{Decides-ltb}
use Rattle.kc_expr.specs.declared.values.Value.{Value}
use Rattle.kc_isa.specs.declared.layout.Form.{Form}
use Rattle.kc_isa.specs.declared.layout.Form.TheVariants.{NoOperand, Mode, ShiftCount, Distance11, Distance8, Distance16, OneByte}
use Rattle.kc_isa.specs.declared.layout.Layout.{Layout}
use Rattle.kc_isa.specs.declared.table.Shape.{Shape}
use Rattle.kc_isa.specs.declared.table.Shape.TheVariants as shapes
use Rattle.kc_isa.specs.Names.{Shown, row_at}
use Rattle.kc_isa.specs.Table.{plain_entry}
use Rattle.kc_isa.specs.Layout.{layout_of}
use Rattle.kc_isa.specs.Formed.{is_byte}
use Rattle.kc_code.specs.Spelling.{prefix}
use Rattle.kc_lex.specs.Instructions.{least}
use Rattle.kc_obj_module.specs.Numbers.{number, reach, first_part}
use Rattle.kc_asm_encode.specs.declared.relocatable_byte.RelocatableByte.{RelocatableByte}
use Rattle.kc_asm_encode.specs.declared.relocatable_byte.RelocatableByte.TheVariants.{Plain, First}
use Rattle.kc_asm_encode.specs.Filling.{address}
use Rattle.kc_asm_encode.specs.Relocating.{no_bases, HasRoom}
use Rattle.kc_asm_encode.specs.declared.argument.Argument.{Argument}
use Rattle.kc_branch.specs.declared.piece.Form.{Form as BranchForm}
use Rattle.kc_branch.specs.declared.piece.Form.TheVariants as forms
use Rattle.kc_branch.specs.declared.piece.BranchKind.{BranchKind}
use Rattle.kc_branch.specs.declared.piece.BranchKind.TheVariants as kinds
use Rattle.kc_branch.specs.Forms.{size as branch_length}
use Rattle.kc_asm_encode.specs.declared.word.Word.{Word}
use Rattle.kc_asm_encode.specs.declared.word.Word.TheVariants.{Absent, Register, Immediate, Indirect, Increment, Short, Long, Count, Jump}
use Rattle.kc_asm_encode.specs.declared.word.RelocatableInsn.{RelocatableInsn}
use Rattle.kc_asm_encode.specs.Values.{moved}
use Rattle.kc_asm_encode.specs.Branches.{branch_kind}
use Rattle.kc_asm_encode.specs.Instructions.{instruction, instructions}
use Rattle.kc_asm_encode.specs.RelocatableBytes.{byte_of, word_of, immediate_relocatables, jump_relocatables, operand_relocatables, opcode_relocatable, row_relocatables, insn_relocatables, all_relocatable_bytes}
use Rattle.kc_asm_encode.specs.Suits.{operand_suits, IsInstruction}
use Rattle.kc_asm_encode.proofs.Spelled.{relocatables_are}
use Rattle.kc_asm_encode.proofs.Found.{instruction_found}
use Rattle.kc_asm_encode.proofs.Lengths.{not_some, branches_have_lengths}
use Rattle.kc_asm_encode.proofs.Stays.{row_length, parts_length, size, single_length, plain_size}

-- ---- at most seven bytes

immediate_most : (form : Form) (byte : Bool) (v : Value) → length (immediate_relocatables form byte v) ≤ 2
immediate_most Mode true v = omega arith
immediate_most Mode false v = omega arith
immediate_most form byte v = omega arith

jump_most : (form : Form) (v : Value) → length (jump_relocatables form v) ≤ 2
jump_most Distance16 v = omega arith
jump_most Distance11 v = omega arith
jump_most form v = omega arith

operand_most : (form : Form) (byte : Bool) (o : Word) → length (operand_relocatables form byte o) ≤ 3
operand_most form byte Absent = omega arith
operand_most form byte (Register v) = omega arith
operand_most form byte (Immediate v) = omega (arith, immediate_most form byte v)
operand_most form byte (Indirect v) = omega arith
operand_most form byte (Increment v) = omega arith
operand_most form byte (Short base offset) = omega arith
operand_most form byte (Long base offset) = omega arith
operand_most form byte (Count v) = omega arith
operand_most form byte (Jump v) = omega (arith, jump_most form v)

no_operand : (byte : Bool) (opcode : ℕ) (o : Word) → operand_suits NoOperand opcode o ≡ true → length (operand_relocatables NoOperand byte o) ≡ 0
no_operand byte opcode Absent h = refl
no_operand byte opcode o h = absurd (cc h)

taken_most : (n : ℕ) (vs : List Value) → length (map byte_of (take n vs)) ≤ n
taken_most n vs = omega (arith, length-map (take n vs) byte_of, length-take n vs)

parts_most : (shape : Shape) (byte : Bool) (opcode : ℕ) (o : Word) → operand_suits (layout_of shape).form opcode o ≡ true → (layout_of shape).before + (length (operand_relocatables (layout_of shape).form byte o) + (layout_of shape).after) ≤ 5
parts_most shapes.Nothing byte opcode o h = omega (arith, operand_most NoOperand byte o)
parts_most shapes.One byte opcode o h = omega (arith, operand_most NoOperand byte o)
parts_most shapes.Two byte opcode o h = omega (arith, operand_most NoOperand byte o)
parts_most shapes.Four byte opcode o h = omega (arith, operand_most Mode byte o)
parts_most shapes.FourOne byte opcode o h = omega (arith, operand_most Mode byte o)
parts_most shapes.FourTwo byte opcode o h = omega (arith, operand_most Mode byte o)
parts_most shapes.Exchange byte opcode o h = omega (arith, operand_most Mode byte o)
parts_most shapes.CountOne byte opcode o h = omega (arith, operand_most ShiftCount byte o)
parts_most shapes.Near byte opcode o h = omega (arith, operand_most Distance11 byte o)
parts_most shapes.Conditional byte opcode o h = omega (arith, operand_most Distance8 byte o)
parts_most shapes.BitTest byte opcode o h = omega (arith, operand_most Distance8 byte o)
parts_most shapes.Loop byte opcode o h = omega (arith, operand_most Distance8 byte o)
parts_most shapes.TableJump byte opcode o h = omega (arith, no_operand byte opcode o h)
parts_most shapes.Far byte opcode o h = omega (arith, operand_most Distance16 byte o)
parts_most shapes.Key byte opcode o h = omega (arith, operand_most OneByte byte o)

prefix_most : (signed : Bool) → length (map Plain (prefix signed)) ≤ 1
prefix_most true = omega arith
prefix_most false = omega arith

instruction_most : (word : List ℕ) (w : RelocatableInsn) → IsInstruction word w → (length (insn_relocatables w) ≤ 7) × (0 < length (insn_relocatables w))
instruction_most word w h =
    let l : Layout = layout_of h.row.shape in
    let e : length (insn_relocatables w) ≡ length (row_relocatables w h.row) = ap (λ (os : List RelocatableByte). length os) (relocatables_are word w h) in (
      omega (
        arith,
        e,
        row_length w h.row,
        parts_length l (is_byte h.row.width) w.opcode w.signed w.operand w.regs,
        taken_most l.before w.regs,
        taken_most l.after (drop l.before w.regs),
        parts_most h.row.shape (is_byte h.row.width) w.opcode w.operand h.operand,
        prefix_most w.signed,
      ),
      omega (arith, e, row_length w h.row),
    )

found_most : (word : List ℕ) (args : List Argument) (o : Option RelocatableInsn) → instruction word args ≡ o → size o ≤ 7
found_most word args None e = omega arith
found_most word args (Some w) e = omega (arith, single_length w, (instruction_most word w (instruction_found word args w e)).0)

branch_most : (kind : BranchKind) (form : BranchForm) → branch_length kind form ≤ 7
branch_most kinds.Jump forms.First = omega arith
branch_most kinds.Jump forms.Second = omega arith
branch_most kinds.Jump forms.Third = omega arith
branch_most kinds.Call forms.First = omega arith
branch_most kinds.Call forms.Second = omega arith
branch_most kinds.Call forms.Third = omega arith
branch_most kinds.Conditional forms.First = omega arith
branch_most kinds.Conditional forms.Second = omega arith
branch_most kinds.Conditional forms.Third = omega arith
branch_most kinds.BitTest forms.First = omega arith
branch_most kinds.BitTest forms.Second = omega arith
branch_most kinds.BitTest forms.Third = omega arith

length_most_at : (word : List ℕ) (args : List Argument) (form : BranchForm) (here : Value) (k : Option BranchKind) → branch_kind word args ≡ k → length (all_relocatable_bytes (instructions word args form here)) ≤ 7
length_most_at word args form here None e = omega (arith, plain_size word args form here e, found_most word args (instruction word args) refl)
length_most_at word args form here (Some kind) e = omega (arith, branches_have_lengths word args form here kind e, branch_most kind form)

pub length_most : (word : List ℕ) (args : List Argument) (form : BranchForm) (here : Value) → length (all_relocatable_bytes (instructions word args form here)) ≤ 7
length_most word args form here = length_most_at word args form here (branch_kind word args) refl

-- ---- room

abbrev pub is_near : Shape → Bool
is_near shapes.Near = true
is_near shape = false

-- a jump of 11 bits whose opcode has no room for three bits more
abbrev near_high : ℕ → Bool
near_high opcode = elim (row_at opcode false) [ None ↦ false | Some row ↦ is_near row.shape && not (nat_lt opcode 48) ]

abbrev pub near_signed : ℕ → Bool
near_signed opcode = elim (row_at opcode true) [ None ↦ false | Some row ↦ is_near row.shape ]

none_high : not (is_some (least near_high 256 0)) ≡ true
unfolding least row_at plain_entry
none_high = refl

pub none_signed : not (is_some (least near_signed 256 0)) ≡ true
unfolding least row_at
none_signed = refl

small : (opcode : ℕ) (t : Bool) → nat_lt opcode 48 ≡ t → (t ≡ false → ⊥) → opcode < 48
small opcode true e h = (Decides-ltb opcode 48).0 e
small opcode false e h = absurd (h refl)

near_small : (opcode : ℕ) (signed : Bool) (row : Shown) → opcode < 256 → row_at opcode signed ≡ Some row → is_near row.shape ≡ true → opcode < 48
near_small opcode true row b e n =
    let p : near_signed opcode ≡ true = rw (e, near_signed) n in
    absurd (not_some near_signed opcode none_signed b p)
near_small opcode false row b e n =
    small opcode (nat_lt opcode 48) refl (λ f.
    (let p : near_high opcode ≡ true = rw (e, near_high) (rw (n, f) refl) in
    not_some near_high opcode none_high b p))

low_part : (kind n : ℕ) → 0 + first_part kind n < 256
unfolding first_part
low_part kind n = grind arith

high_part : (n : ℕ) → first_part 3 n < 8
unfolding first_part
high_part n = omega arith

abbrev HaveRoom : ℕ → List RelocatableByte → Type 0
HaveRoom place [] = Unit {0}
HaveRoom place (o ∷ os) = HasRoom place o × HaveRoom place os

each_room : (place : ℕ) (os : List RelocatableByte) → HaveRoom place os → All (HasRoom place) os
each_room place [] h = λ k d e. absurd (omega arith)
each_room place (o ∷ os) h = each o os h.0 (each_room place os h.1)
  where
    each : (o : RelocatableByte) (os : List RelocatableByte) → HasRoom place o → All (HasRoom place) os → All (HasRoom place) (o ∷ os)
    each o os f r zero d e = f
    each o os f r (suc k) d e = r k d (omega arith)

rooms-append : (place : ℕ) (xs ys : List RelocatableByte) → HaveRoom place xs → HaveRoom place ys → HaveRoom place (xs ++ ys)
rooms-append place [] ys h k = k
rooms-append place (x ∷ xs) ys h k = (h.0, rooms-append place xs ys h.1 k)

room_plain : (place : ℕ) (xs : List ℕ) → HaveRoom place (map Plain xs)
room_plain place [] = tt
room_plain place (x ∷ xs) = (tt, room_plain place xs)

room_first : (place kind : ℕ) (v : Value) → HasRoom place (First kind 0 v)
room_first place kind v = low_part kind (number kind (place + reach kind) (address no_bases v))

room_bytes : (place : ℕ) (vs : List Value) → HaveRoom place (map byte_of vs)
room_bytes place [] = tt
room_bytes place (v ∷ vs) = (room_first place 1 v, room_bytes place vs)

room_word : (place kind : ℕ) (v : Value) → HaveRoom place (word_of kind v)
room_word place kind v = (room_first place kind v, (tt, tt))

room_immediate : (place : ℕ) (form : Form) (byte : Bool) (v : Value) → HaveRoom place (immediate_relocatables form byte v)
room_immediate place Mode true v = (room_first place 1 v, tt)
room_immediate place Mode false v = room_word place 0 v
room_immediate place form byte v = (room_first place 1 v, tt)

room_jump : (place : ℕ) (form : Form) (v : Value) → HaveRoom place (jump_relocatables form v)
room_jump place Distance16 v = room_word place 4 v
room_jump place Distance11 v = (tt, tt)
room_jump place form v = (room_first place 2 v, tt)

room_operand : (place : ℕ) (form : Form) (byte : Bool) (o : Word) → HaveRoom place (operand_relocatables form byte o)
room_operand place form byte Absent = tt
room_operand place form byte (Register v) = (room_first place 1 v, tt)
room_operand place form byte (Immediate v) = room_immediate place form byte v
room_operand place form byte (Indirect v) = (room_first place 1 v, tt)
room_operand place form byte (Increment v) = (room_first place 1 (moved v 1), tt)
room_operand place form byte (Short base offset) = (room_first place 1 base, (tt, tt))
room_operand place form byte (Long base offset) = (room_first place 1 (moved base 1), room_word place 0 offset)
room_operand place form byte (Count v) = (room_first place 1 v, tt)
room_operand place form byte (Jump v) = room_jump place form v

abbrev pub is_high : Form → Bool
is_high Distance11 = true
is_high form = false

room_opcode : (place : ℕ) (form : Form) (opcode : ℕ) (o : Word) → (is_high form ≡ true → opcode < 48) → HasRoom place (opcode_relocatable form opcode o)
room_opcode place Distance11 opcode (Jump v) h = omega (arith, h refl, high_part (number 3 (place + 2) (address no_bases v)))
room_opcode place Distance11 opcode o h = tt
room_opcode place form opcode o h = tt

pub high_is_near : (shape : Shape) → is_high (layout_of shape).form ≡ true → is_near shape ≡ true
high_is_near shapes.Near h = refl
high_is_near shape h = absurd (cc h)

room_row : (place : ℕ) (w : RelocatableInsn) (row : Shown) → w.opcode < 256 → row_at w.opcode w.signed ≡ Some row → HaveRoom place (row_relocatables w row)
room_row place w row b e =
    let l : Layout = layout_of row.shape in
    let byte : Bool = is_byte row.width in
    let F : List RelocatableByte = map byte_of (take l.before w.regs) in
    let O : List RelocatableByte = operand_relocatables l.form byte w.operand in
    let B : List RelocatableByte = map byte_of (take l.after (drop l.before w.regs)) in
    rooms-append place (map Plain (prefix w.signed)) (opcode_relocatable l.form w.opcode w.operand ∷ (F ++ (O ++ B))) (room_plain place (prefix w.signed)) (
      room_opcode place l.form w.opcode w.operand (λ h. near_small w.opcode w.signed row b e (high_is_near row.shape h)),
      rooms-append place F (O ++ B) (room_bytes place (take l.before w.regs))
          (rooms-append place O B (room_operand place l.form byte w.operand) (room_bytes place (take l.after (drop l.before w.regs)))),
    )

room_at : (place : ℕ) (w : RelocatableInsn) (r : Option Shown) → w.opcode < 256 → row_at w.opcode w.signed ≡ r → HaveRoom place (insn_relocatables w)
room_at place w None b e = rw (e, insn_relocatables) tt
room_at place w (Some row) b e = rw (e, insn_relocatables) (room_row place w row b e)

pub relocatables_have_room : (w : RelocatableInsn) → w.opcode < 256 → (place : ℕ) → All (HasRoom place) (insn_relocatables w)
relocatables_have_room w b place = each_room place (insn_relocatables w) (room_at place w (row_at w.opcode w.signed) b refl)
