-- When an instruction with values is one of the table, and when its numbers have room in its bytes (80C196KC User's Manual,
-- "Addressing Modes" and "Instruction Format").
use Rattle.std.specs.Prelude.{◌≡◌, ℕ, Bool, true, false, ◌+◌, ◌%◌, ◌<◌, ◌==◌, Option, Some, None, List, [], ◌∷◌, drop, length, FitsSigned}
use Rattle.std.specs.Int.{w8}
use Rattle.kc_isa.specs.declared.layout.Form.{Form}
use Rattle.kc_isa.specs.declared.layout.Form.TheVariants.{NoOperand, Mode, ShiftCount, Distance11, Distance8, Distance16, OneByte}
use Rattle.kc_isa.specs.declared.insn.Insn.{Insn}
use Rattle.kc_isa.specs.Names.{Shown, row_at}
use Rattle.kc_isa.specs.Layout.{layout_of}
use Rattle.kc_isa.specs.Formed.{is_formed}
use Rattle.kc_code.specs.Spelling.{is_in_range}
use Rattle.kc_code.specs.Ranges.{InsnHas}
use Rattle.kc_obj_module.specs.Numbers.{Bases, number, reach, fits}
use Rattle.kc_asm_encode.specs.declared.relocatable_byte.RelocatableByte.{RelocatableByte}
use Rattle.kc_asm_encode.specs.declared.relocatable_byte.RelocatableByte.TheVariants as relocatable_bytes
use Rattle.kc_asm_encode.specs.Filling.{address}
use Rattle.kc_expr.specs.declared.values.Value.{Value}
use Rattle.kc_asm_encode.specs.declared.argument.Argument.{Argument}
use Rattle.kc_asm_encode.specs.declared.argument.Argument.TheVariants as arguments
use Rattle.kc_asm_encode.specs.declared.word.Word.{Word}
use Rattle.kc_asm_encode.specs.declared.word.Word.TheVariants.{Absent, Register, Immediate, Indirect, Increment, Short, Long, Count, Jump}
use Rattle.kc_asm_encode.specs.declared.word.RelocatableInsn.{RelocatableInsn}
use Rattle.kc_asm_encode.specs.Branches.{Line}
use Rattle.kc_asm_encode.specs.Instructions.{no_regs}
use Rattle.kc_asm_encode.specs.RelocatableBytes.{insn_relocatables}

-- the operand S in the mode that the two low bits of the opcode choose
abbrev pub mode_suits : ℕ → Word → Bool
mode_suits mode (Register v) = mode == 0
mode_suits mode (Immediate v) = mode == 1
mode_suits mode (Indirect v) = mode == 2
mode_suits mode (Increment v) = mode == 2
mode_suits mode (Short base offset) = mode == 3
mode_suits mode (Long base offset) = mode == 3
mode_suits mode w = false

abbrev pub operand_suits : Form → ℕ → Word → Bool
operand_suits NoOperand opcode Absent = true
operand_suits Mode opcode w = mode_suits (opcode % 4) w
operand_suits ShiftCount opcode (Count v) = true
operand_suits Distance11 opcode (Jump v) = opcode % 8 == 0
operand_suits Distance8 opcode (Jump v) = true
operand_suits Distance16 opcode (Jump v) = true
operand_suits OneByte opcode (Immediate v) = true
operand_suits form opcode w = false

-- an instruction has a row of this name, the operand suits its layout, and the rest of the registers is 0
pub record IsInstruction (word : List ℕ) (w : RelocatableInsn) : Type 0 where
  pub row : Shown
  pub is : row_at w.opcode w.signed ≡ Some row
  pub named : row.name ≡ word
  pub operand : operand_suits (layout_of row.shape).form w.opcode w.operand ≡ true
  pub rest : drop ((layout_of row.shape).before + (layout_of row.shape).after) w.regs ≡ drop ((layout_of row.shape).before + (layout_of row.shape).after) no_regs
  pub three : length w.regs ≡ 3
  pub opcode : w.opcode < 256

-- one instruction for each line
abbrev pub AreInstructions : List Line → List RelocatableInsn → Type 0
AreInstructions [] [] = Unit {0}
AreInstructions [] (w ∷ ws) = ⊥
AreInstructions (l ∷ ls) [] = ⊥
AreInstructions (l ∷ ls) (w ∷ ws) = IsInstruction l.word w × AreInstructions ls ws

-- the number of a relocatable byte fits its bytes
abbrev pub FitsAt : Bases → ℕ → RelocatableByte → Type 0
FitsAt bases place (relocatable_bytes.Plain b) = Unit {0}
FitsAt bases place (relocatable_bytes.First kind start v) = fits kind (number kind (place + reach kind) (address bases v)) ≡ true
FitsAt bases place (relocatable_bytes.Second kind v) = Unit {0}

abbrev pub AllFit : Bases → ℕ → List RelocatableByte → Type 0
AllFit bases place [] = Unit {0}
AllFit bases place (o ∷ os) = FitsAt bases place o × AllFit bases (place + 1) os

-- the register of a pointer or an index is even
abbrev pub IsEven : Bases → Word → Type 0
IsEven bases (Indirect v) = address bases v % 2 ≡ 0
IsEven bases (Increment v) = address bases v % 2 ≡ 0
IsEven bases (Short base offset) = address bases base % 2 ≡ 0
IsEven bases (Long base offset) = address bases base % 2 ≡ 0
IsEven bases w = Unit {0}

-- the numbers are words, a short offset a byte with a sign
abbrev pub HasWords : Word → Type 0
HasWords Absent = Unit {0}
HasWords (Register v) = v.number < 65536
HasWords (Immediate v) = v.number < 65536
HasWords (Indirect v) = v.number < 65536
HasWords (Increment v) = v.number < 65536
HasWords (Short base offset) = (base.number < 65536) × FitsSigned w8 offset
HasWords (Long base offset) = (base.number < 65536) × (offset.number < 65536)
HasWords (Count v) = v.number < 65536
HasWords (Jump v) = v.number < 65536

-- under these bases the instruction that stands at a place can be spelled
pub record IsSettled (bases : Bases) (place : ℕ) (w : RelocatableInsn) : Type 0 where
  pub fit : AllFit bases place (insn_relocatables w)
  pub even : IsEven bases w.operand
  pub words : HasWords w.operand

-- what encoding and decoding ask of an instruction
pub record IsSound (i : Insn) : Type 0 where
  pub formed : is_formed i ≡ true
  pub in_range : is_in_range i ≡ true
  pub has : InsnHas i

-- so much holds of each instruction
abbrev pub EachOf : (RelocatableInsn → Type 0) → List RelocatableInsn → Type 0
EachOf P [] = Unit {0}
EachOf P (w ∷ ws) = P w × EachOf P ws

-- the values of operands are words
abbrev pub IsWord : Option Value → Type 0
IsWord None = Unit {0}
IsWord (Some v) = v.number < 65536

abbrev pub AreWords : Argument → Type 0
AreWords (arguments.Plain x) = IsWord x
AreWords (arguments.Immediate x) = IsWord x
AreWords (arguments.Indirect r) = IsWord r
AreWords (arguments.Increment r) = IsWord r
AreWords (arguments.Indexed x r) = IsWord x × IsWord r

abbrev pub AllWords : List Argument → Type 0
AllWords [] = Unit {0}
AllWords (a ∷ args) = AreWords a × AllWords args
