-- Instructions one behind the other.
use Rattle.std.proofs.Common.{◌≡◌, ℕ, ◌+◌, ◌%◌, true, List, [], ◌∷◌, ◌++◌, length, refl, ap, ◌∙◌, None}
use Rattle.kc_expr.specs.declared.values.Value.{Value}
use Rattle.kc_code.specs.Spelling.{spelling}
use Rattle.kc_obj_module.specs.Numbers.{Bases}
use Rattle.kc_asm_encode.specs.Filling.{filled}
use Rattle.kc_asm_encode.specs.declared.argument.Argument.{Argument}
use Rattle.kc_branch.specs.declared.piece.Form.{Form}
use Rattle.kc_asm_encode.specs.declared.word.RelocatableInsn.{RelocatableInsn}
use Rattle.kc_asm_encode.specs.Takes.{is_operation}
use Rattle.kc_asm_encode.specs.Branches.{Line, in_full}
use Rattle.kc_asm_encode.specs.Instructions.{instructions}
use Rattle.kc_asm_encode.specs.Faults.{fault_of}
use Rattle.kc_asm_encode.specs.Words.{insn_of}
use Rattle.kc_asm_encode.specs.RelocatableBytes.{insn_relocatables, all_relocatable_bytes}
use Rattle.kc_asm_encode.specs.Suits.{IsInstruction, AreInstructions, AllFit, AllWords, IsEven, HasWords, IsSettled, EachOf}
use Rattle.kc_asm_encode.specs.Said.{said, IsSaid}
use Rattle.kc_asm_encode.proofs.Fills.{filled-append, fit-beginning, fit-behind}
use Rattle.kc_asm_encode.proofs.Spelled.{filled_is_spelled}
use Rattle.kc_asm_encode.proofs.Sound.{settled_is_sound}
use Rattle.kc_asm_encode.proofs.Operations.{operations_are_instructions}
use Rattle.kc_asm_encode.proofs.Evens.{numbers_are_words}
use Rattle.kc_asm_encode.proofs.Pointers.{pointers_are_even}

one_more : (b : Bases) (a : ℕ) (word : List ℕ) (w : RelocatableInsn) (ws : List RelocatableInsn) → IsInstruction word w → IsSettled b a w → IsSaid b (a + length (insn_relocatables w)) ws → IsSaid b a (w ∷ ws)
unfolding said
one_more b a word w ws i s rest =
    let n : ℕ = a + length (insn_relocatables w) in
    record {
      spelled = filled-append b (insn_relocatables w) (all_relocatable_bytes ws) a ∙
          (rw (filled_is_spelled b a word w i s) (ap (λ (bytes : List ℕ). spelling (insn_of b n w) ++ bytes) rest.spelled));
      sound = (settled_is_sound b a word w i s, rest.sound);
    }

no_more : (b : Bases) (a : ℕ) → IsSaid b a []
unfolding said filled
no_more b a = record { spelled = refl; sound = tt }

all_said : (b : Bases) (a : ℕ) (ls : List Line) (ws : List RelocatableInsn) → AreInstructions ls ws → EachOf (λ w. IsEven b w.operand) ws → EachOf (λ w. HasWords w.operand) ws → AllFit b a (all_relocatable_bytes ws) → IsSaid b a ws
all_said b a [] [] h even words fit = no_more b a
all_said b a [] (w ∷ ws) h even words fit = absurd h
all_said b a (l ∷ ls) [] h even words fit = absurd h
all_said b a (l ∷ ls) (w ∷ ws) h even words fit =
    let s : IsSettled b a w = record { fit = fit-beginning b a (insn_relocatables w) (all_relocatable_bytes ws) fit; even = even.0; words = words.0 } in
    one_more b a l.word w ws h.0 s (all_said b (a + length (insn_relocatables w)) ls ws h.1 even.1 words.1 (fit-behind b a (insn_relocatables w) (all_relocatable_bytes ws) fit))

pub operations_are_said : (b : Bases) (place : ℕ) (word : List ℕ) (args : List Argument) (form : Form) (here : Value) → is_operation word args ≡ true →
    fault_of word args ≡ None → AllWords args → ((p : ℕ) → b.piece p % 2 ≡ 0) → AllFit b place (all_relocatable_bytes (instructions word args form here)) → IsSaid b place (instructions word args form here)
operations_are_said b place word args form here h f words even fit =
    all_said b place (in_full word args form here) (instructions word args form here) (operations_are_instructions word args form here h)
    (pointers_are_even b word args form here h f even) (numbers_are_words word args form here words) fit
