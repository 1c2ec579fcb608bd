-- What an operation says once the bases are known: instructions, one behind the other.
use Rattle.std.specs.Prelude.{◌≡◌, ℕ, true, ◌+◌, ◌%◌, None, List, [], ◌∷◌, length}
use Rattle.std.specs.List.{flat_map}
use Rattle.kc_expr.specs.declared.values.Value.{Value}
use Rattle.kc_isa.specs.declared.insn.Insn.{Insn}
use Rattle.kc_code.specs.Spelling.{spelling}
use Rattle.kc_obj_module.specs.Numbers.{Bases}
use Rattle.kc_asm_encode.specs.Filling.{filled}
use Rattle.kc_asm_encode.specs.declared.argument.Argument.{Argument}
use Rattle.kc_branch.specs.declared.piece.Form.{Form}
use Rattle.kc_asm_encode.specs.declared.word.RelocatableInsn.{RelocatableInsn}
use Rattle.kc_asm_encode.specs.Takes.{is_operation}
use Rattle.kc_asm_encode.specs.Instructions.{instructions}
use Rattle.kc_asm_encode.specs.Faults.{fault_of}
use Rattle.kc_asm_encode.specs.Words.{insn_of}
use Rattle.kc_asm_encode.specs.RelocatableBytes.{insn_relocatables, all_relocatable_bytes}
use Rattle.kc_asm_encode.specs.Suits.{AllFit, AllWords, IsSound}

-- a distance counts from the address of the next instruction
unfoldable pub said : Bases → ℕ → List RelocatableInsn → List Insn
said bases place [] = []
said bases place (w ∷ ws) = let next = place + length (insn_relocatables w) in insn_of bases next w ∷ said bases next ws

abbrev pub AreSound : List Insn → Type 0
AreSound [] = Unit {0}
AreSound (i ∷ is) = IsSound i × AreSound is

-- the bytes from an address on spell the instructions, which are well formed
pub record IsSaid (bases : Bases) (place : ℕ) (ws : List RelocatableInsn) : Type 0 where
  pub spelled : filled bases place (all_relocatable_bytes ws) ≡ flat_map spelling (said bases place ws)
  pub sound : AreSound (said bases place ws)

-- so it is with each operation whose operands have no fault and whose numbers fit their bytes
abbrev pub OperationsAreSaid : Type 0
OperationsAreSaid = (bases : Bases) (place : ℕ) (word : List ℕ) (args : List Argument) (form : Form) (here : Value) → is_operation word args ≡ true →
    fault_of word args ≡ None → AllWords args → ((p : ℕ) → bases.piece p % 2 ≡ 0) → AllFit bases place (all_relocatable_bytes (instructions word args form here)) →
    IsSaid bases place (instructions word args form here)
