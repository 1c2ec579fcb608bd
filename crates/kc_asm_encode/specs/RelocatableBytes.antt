-- The bytes of an instruction before the bases are known, by its row and layout (80C196KC User's Manual, "Instruction Format").
use Rattle.std.specs.Prelude.{ℕ, Bool, if◌then◌else◌, Some, None, List, [], ◌∷◌, ◌++◌, map, take, drop}
use Rattle.std.specs.Int.{w8, cast_unsigned}
use Rattle.std.specs.List.{flat_map}
use Rattle.kc_expr.specs.declared.values.Value.{Value}
use Rattle.kc_isa.specs.declared.layout.Form.{Form}
use Rattle.kc_isa.specs.declared.layout.Form.TheVariants.{Mode, Distance11, Distance16}
use Rattle.kc_isa.specs.declared.layout.Layout.{Layout}
use Rattle.kc_isa.specs.Names.{Shown, row_at}
use Rattle.kc_isa.specs.Layout.{layout_of}
use Rattle.kc_isa.specs.Formed.{is_byte}
use Rattle.kc_code.specs.Spelling.{prefix}
use Rattle.kc_asm_encode.specs.declared.relocatable_byte.RelocatableByte.{RelocatableByte}
use Rattle.kc_asm_encode.specs.declared.relocatable_byte.RelocatableByte.TheVariants.{Plain, First, Second}
use Rattle.kc_asm_encode.specs.declared.word.Word.{Word}
use Rattle.kc_asm_encode.specs.declared.word.Word.TheVariants as words
use Rattle.kc_asm_encode.specs.declared.word.RelocatableInsn.{RelocatableInsn}
use Rattle.kc_asm_encode.specs.Values.{moved}

abbrev pub byte_of : Value → RelocatableByte
byte_of v = First 1 0 v

abbrev pub word_of : ℕ → Value → List RelocatableByte
word_of kind v = First kind 0 v ∷ Second kind v ∷ []

abbrev pub immediate_relocatables : Form → Bool → Value → List RelocatableByte
immediate_relocatables Mode byte v = if byte then byte_of v ∷ [] else word_of 0 v
immediate_relocatables form byte v = byte_of v ∷ []

-- the high bits of a distance of 11 bits stand in the opcode
abbrev pub jump_relocatables : Form → Value → List RelocatableByte
jump_relocatables Distance16 v = word_of 4 v
jump_relocatables Distance11 v = Second 3 v ∷ []
jump_relocatables form v = First 2 0 v ∷ []

-- the low bit of a register's byte says that the pointer is increased, or that the index has two bytes
abbrev pub operand_relocatables : Form → Bool → Word → List RelocatableByte
operand_relocatables form byte words.Absent = []
operand_relocatables form byte (words.Register v) = byte_of v ∷ []
operand_relocatables form byte (words.Immediate v) = immediate_relocatables form byte v
operand_relocatables form byte (words.Indirect v) = byte_of v ∷ []
operand_relocatables form byte (words.Increment v) = byte_of (moved v 1) ∷ []
operand_relocatables form byte (words.Short base offset) = byte_of base ∷ Plain (cast_unsigned w8 offset) ∷ []
operand_relocatables form byte (words.Long base offset) = byte_of (moved base 1) ∷ word_of 0 offset
operand_relocatables form byte (words.Count v) = byte_of v ∷ []
operand_relocatables form byte (words.Jump v) = jump_relocatables form v

abbrev pub opcode_relocatable : Form → ℕ → Word → RelocatableByte
opcode_relocatable Distance11 opcode (words.Jump v) = First 3 opcode v
opcode_relocatable form opcode w = Plain opcode

abbrev pub laid_relocatables : Layout → Bool → RelocatableInsn → List RelocatableByte
laid_relocatables l byte w = map byte_of (take l.before w.regs) ++ (operand_relocatables l.form byte w.operand ++ map byte_of (take l.after (drop l.before w.regs)))

abbrev pub row_relocatables : RelocatableInsn → Shown → List RelocatableByte
row_relocatables w row =
    let l = layout_of row.shape in
    map Plain (prefix w.signed) ++ (opcode_relocatable l.form w.opcode w.operand ∷ laid_relocatables l (is_byte row.width) w)

abbrev pub insn_relocatables : RelocatableInsn → List RelocatableByte
insn_relocatables w = elim (row_at w.opcode w.signed) [ None ↦ [] | Some row ↦ row_relocatables w row ]

-- the bytes of some instructions
abbrev pub all_relocatable_bytes : List RelocatableInsn → List RelocatableByte
all_relocatable_bytes ws = flat_map insn_relocatables ws
