-- What the definitions of this crate owe each other.
use Rattle.std.specs.Prelude.{◌≡◌, ℕ, true, ◌+◌, ◌%◌, Some, None, List, length, map}
use Rattle.kc_expr.specs.declared.values.Value.{Value}
use Rattle.kc_code.specs.Spelling.{spelling}
use Rattle.kc_obj_module.specs.Numbers.{Bases}
use Rattle.kc_asm_encode.specs.Filling.{filled}
use Rattle.kc_asm_encode.specs.declared.argument.Argument.{Argument}
use Rattle.kc_branch.specs.declared.piece.Form.{Form}
use Rattle.kc_branch.specs.declared.piece.BranchKind.{BranchKind}
use Rattle.kc_branch.specs.Forms.{size as branch_length}
use Rattle.kc_asm_encode.specs.declared.word.RelocatableInsn.{RelocatableInsn}
use Rattle.kc_asm_encode.specs.Takes.{is_operation}
use Rattle.kc_asm_encode.specs.Branches.{branch_kind, in_full}
use Rattle.kc_asm_encode.specs.Instructions.{instructions}
use Rattle.kc_asm_encode.specs.Faults.{fault_of}
use Rattle.kc_asm_encode.specs.Words.{insn_of}
use Rattle.kc_asm_encode.specs.RelocatableBytes.{insn_relocatables, all_relocatable_bytes}
use Rattle.kc_asm_encode.specs.Suits.{IsInstruction, AreInstructions, IsSettled, IsSound, IsEven, HasWords, EachOf, AllWords}
use Rattle.kc_asm_encode.specs.Pairs.{IsPaired}
use Rattle.kc_asm_encode.specs.Blurred.{blurred}

-- once the bases are known, the bytes of an instruction spell it
abbrev pub FilledIsSpelled : Type 0
FilledIsSpelled = (bases : Bases) (place : ℕ) (word : List ℕ) (w : RelocatableInsn) → IsInstruction word w → IsSettled bases place w →
    filled bases place (insn_relocatables w) ≡ spelling (insn_of bases (place + length (insn_relocatables w)) w)

-- and it is well formed
abbrev pub SettledIsSound : Type 0
SettledIsSound = (bases : Bases) (place : ℕ) (word : List ℕ) (w : RelocatableInsn) → IsInstruction word w → IsSettled bases place w →
    IsSound (insn_of bases (place + length (insn_relocatables w)) w)

-- an operation is written in full by instructions of the table
abbrev pub OperationsAreInstructions : Type 0
OperationsAreInstructions = (word : List ℕ) (args : List Argument) (form : Form) (here : Value) → is_operation word args ≡ true →
    AreInstructions (in_full word args form here) (instructions word args form here)

-- how many bytes an operation has depends neither on its place nor on numbers that are not fixed
abbrev pub LengthStays : Type 0
LengthStays = (word : List ℕ) (args : List Argument) (form : Form) (here there : Value) →
    length (all_relocatable_bytes (instructions word args form here)) ≡ length (all_relocatable_bytes (instructions word (map blurred args) form there))

-- the length of a generic branch is given by its kind and form: an inverse jump leads behind the whole
abbrev pub BranchesHaveLengths : Type 0
BranchesHaveLengths = (word : List ℕ) (args : List Argument) (form : Form) (here : Value) (kind : BranchKind) →
    branch_kind word args ≡ Some kind → length (all_relocatable_bytes (instructions word args form here)) ≡ branch_length kind form

-- the bytes of a number stand together
abbrev pub RelocatableBytesArePaired : Type 0
RelocatableBytesArePaired = (word : List ℕ) (args : List Argument) (form : Form) (here : Value) → IsPaired (all_relocatable_bytes (instructions word args form here))

-- where the operands have no fault, the registers of pointers and indices are even: the bases of pieces are
abbrev pub PointersAreEven : Type 0
PointersAreEven = (bases : Bases) (word : List ℕ) (args : List Argument) (form : Form) (here : Value) → is_operation word args ≡ true → fault_of word args ≡ None →
    ((p : ℕ) → bases.piece p % 2 ≡ 0) → EachOf (λ w. IsEven bases w.operand) (instructions word args form here)

-- the numbers of instructions are words where those of the operands are
abbrev pub NumbersAreWords : Type 0
NumbersAreWords = (word : List ℕ) (args : List Argument) (form : Form) (here : Value) → AllWords args → EachOf (λ w. HasWords w.operand) (instructions word args form here)
