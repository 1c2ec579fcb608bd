-- Pointers are even where the pieces that their bytes count from stand at even addresses.
use Rattle.std.proofs.Common.{◌≡◌, ℕ, ◌%◌, Bool, List, [], ◌∷◌, ◌++◌, map, refl, subst, arith}
use Rattle.std.specs.Prelude.{Some, take, drop}
use Rattle.kc_isa.specs.declared.layout.Form.{Form}
use Rattle.kc_isa.specs.Names.{Shown, row_at}
use Rattle.kc_isa.specs.Layout.{layout_of}
use Rattle.kc_isa.specs.Formed.{is_byte}
use Rattle.kc_code.specs.Spelling.{prefix}
use Rattle.kc_expr.specs.declared.values.Base.{Base}
use Rattle.kc_expr.specs.declared.values.Base.TheVariants.{Fixed, Absolute, Piece, External}
use Rattle.kc_expr.specs.declared.values.Value.{Value}
use Rattle.kc_obj_module.specs.Numbers.{Bases}
use Rattle.kc_asm_encode.specs.declared.relocatable_byte.RelocatableByte.{RelocatableByte}
use Rattle.kc_asm_encode.specs.declared.relocatable_byte.RelocatableByte.TheVariants.{Plain, First, Second}
use Rattle.kc_asm_encode.specs.Filling.{base_address, address}
use Rattle.kc_asm_encode.specs.declared.word.Word.{Word}
use Rattle.kc_asm_encode.specs.declared.word.Word.TheVariants.{Absent, Register, Immediate, Indirect, Increment, Short, Long, Count, Jump}
use Rattle.kc_asm_encode.specs.declared.word.RelocatableInsn.{RelocatableInsn}
use Rattle.kc_asm_encode.specs.RelocatableBytes.{byte_of, operand_relocatables, opcode_relocatable, laid_relocatables, row_relocatables, insn_relocatables, all_relocatable_bytes}
use Rattle.kc_asm_encode.specs.Suits.{IsInstruction, IsEven}

-- ---- what a byte counts from

abbrev pub HasEvenBase : Bases → Base → Type 0
HasEvenBase b (Piece p) = b.piece p % 2 ≡ 0
HasEvenBase b Fixed = Unit {0}
HasEvenBase b Absolute = Unit {0}
HasEvenBase b (External e) = Unit {0}

abbrev pub IsEvenAt : Bases → RelocatableByte → Type 0
IsEvenAt b (Plain n) = Unit {0}
IsEvenAt b (First kind start v) = kind ≡ 1 → HasEvenBase b v.base
IsEvenAt b (Second kind v) = Unit {0}

abbrev pub AllEven : Bases → List RelocatableByte → Type 0
AllEven b [] = Unit {0}
AllEven b (o ∷ os) = IsEvenAt b o × AllEven b os

pub even_prefix : (b : Bases) (xs ys : List RelocatableByte) → AllEven b (xs ++ ys) → AllEven b xs
even_prefix b [] ys h = tt
even_prefix b (x ∷ xs) ys h = (h.0, even_prefix b xs ys h.1)

pub even_behind : (b : Bases) (xs ys : List RelocatableByte) → AllEven b (xs ++ ys) → AllEven b ys
even_behind b [] ys h = h
even_behind b (x ∷ xs) ys h = even_behind b xs ys h.1

-- ---- an operand

-- all pieces at 0, and all externals at one address
abbrev pub bases_at : ℕ → Bases
bases_at n = record { piece = λ p. 0; external = λ e. n }

even_base : (b : Bases) (base : Base) (n : ℕ) → base_address (bases_at 0) base n % 2 ≡ 0 → base_address (bases_at 1) base n % 2 ≡ 0 → HasEvenBase b base → base_address b base n % 2 ≡ 0
even_base b Fixed n h k e = h
even_base b Absolute n h k e = h
even_base b (Piece p) n h k e = omega (arith, h, e)
even_base b (External x) n h k e = absurd (omega (arith, h, k))

even_value : (b : Bases) (v : Value) → address (bases_at 0) v % 2 ≡ 0 → address (bases_at 1) v % 2 ≡ 0 → HasEvenBase b v.base → address b v % 2 ≡ 0
even_value b v h k e = even_base b v.base v.number h k e

even_operand : (b : Bases) (form : Form) (byte : Bool) (w : Word) → AllEven b (operand_relocatables form byte w) → IsEven (bases_at 0) w → IsEven (bases_at 1) w → IsEven b w
even_operand b form byte Absent e h k = tt
even_operand b form byte (Register v) e h k = tt
even_operand b form byte (Immediate v) e h k = tt
even_operand b form byte (Indirect v) e h k = even_value b v h k (e.0 refl)
even_operand b form byte (Increment v) e h k = even_value b v h k (e.0 refl)
even_operand b form byte (Short base offset) e h k = even_value b base h k (e.0 refl)
even_operand b form byte (Long base offset) e h k = even_value b base h k (e.0 refl)
even_operand b form byte (Count v) e h k = tt
even_operand b form byte (Jump v) e h k = tt

-- ---- an instruction

operand_even : (b : Bases) (w : RelocatableInsn) (row : Shown) → AllEven b (row_relocatables w row) → AllEven b (operand_relocatables (layout_of row.shape).form (is_byte row.width) w.operand)
operand_even b w row h =
    let l = layout_of row.shape in
    let laid : AllEven b (laid_relocatables (layout_of row.shape) (is_byte row.width) w) = (even_behind b (map Plain (prefix w.signed)) (opcode_relocatable (layout_of row.shape).form w.opcode w.operand ∷ laid_relocatables (layout_of row.shape) (is_byte row.width) w) h).1 in
    even_prefix b (operand_relocatables (layout_of row.shape).form (is_byte row.width) w.operand) (map byte_of (take (layout_of row.shape).after (drop (layout_of row.shape).before w.regs)))
    (even_behind b (map byte_of (take (layout_of row.shape).before w.regs)) (operand_relocatables (layout_of row.shape).form (is_byte row.width) w.operand ++ map byte_of (take (layout_of row.shape).after (drop (layout_of row.shape).before w.regs))) laid)

insn_is : (w : RelocatableInsn) (row : Shown) → row_at w.opcode w.signed ≡ Some row → insn_relocatables w ≡ row_relocatables w row
insn_is w row e = rw (e, insn_relocatables) refl

even_insn : (b : Bases) (word : List ℕ) (w : RelocatableInsn) → IsInstruction word w → AllEven b (insn_relocatables w) → IsEven (bases_at 0) w.operand → IsEven (bases_at 1) w.operand → IsEven b w.operand
even_insn b word w i e h k =
    even_operand b (layout_of i.row.shape).form (is_byte i.row.width) w.operand (operand_even b w i.row (subst (AllEven b) (insn_is w i.row i.is) e)) h k

pub all_even : (b : Bases) (word : List ℕ) (w : RelocatableInsn) (ws : List RelocatableInsn) → IsInstruction word w → AllEven b (all_relocatable_bytes (w ∷ ws))
    → IsEven (bases_at 0) w.operand → IsEven (bases_at 1) w.operand → IsEven b w.operand × AllEven b (all_relocatable_bytes ws)
all_even b word w ws i e h k = (even_insn b word w i (even_prefix b (insn_relocatables w) (all_relocatable_bytes ws) e) h k, even_behind b (insn_relocatables w) (all_relocatable_bytes ws) e)
