-- Pointers are even, and numbers are words.
use Rattle.std.proofs.Common.{◌≡◌, ℕ, zero, suc, ◌%◌, ◌<◌, Bool, true, false, List, [], ◌∷◌, ◌++◌, refl, subst, Option, Some, None, arith}
use Rattle.std.specs.Prelude.{FitsSigned}
use Rattle.std.specs.Int.{w8, cast_signed}
use Rattle.std.proofs.lemmas.Int.{ints}
use Rattle.kc_expr.specs.declared.values.Value.{Value}
use Rattle.kc_isa.specs.declared.table.Shape.{Shape}
use Rattle.kc_isa.specs.declared.table.Shape.TheVariants as shapes
use Rattle.kc_asm_encode.specs.declared.argument.Argument.{Argument}
use Rattle.kc_asm_encode.specs.declared.argument.Argument.TheVariants.{Plain, Immediate, Indirect, Increment, Indexed}
use Rattle.kc_branch.specs.declared.piece.Form.{Form}
use Rattle.kc_branch.specs.declared.piece.Form.TheVariants.{First, Second, Third}
use Rattle.kc_branch.specs.declared.piece.BranchKind.{BranchKind}
use Rattle.kc_branch.specs.declared.piece.BranchKind.TheVariants.{Jump, Call, Conditional, BitTest}
use Rattle.kc_asm_encode.specs.declared.word.RelocatableInsn.{RelocatableInsn}
use Rattle.kc_asm_encode.specs.Values.{or_zero, is_direct, is_short, argument, value_of}
use Rattle.kc_asm_encode.specs.Sources.{plain_source, indexed_source, source}
use Rattle.kc_asm_encode.specs.Branches.{Line, line, over, branch_kind, branch_lines, in_full}
use Rattle.kc_asm_encode.specs.Instructions.{operand_for, instruction, listed, all_lines, instructions}
use Rattle.kc_asm_encode.specs.Suits.{HasWords, EachOf, IsWord, AreWords, AllWords}
use Rattle.kc_asm_encode.proofs.Found.{IsLaid, instruction_laid}

-- ---- what holds of the operands of each line holds of its instruction

abbrev pub EachLine : (List ℕ → List Argument → Type 0) → List Line → Type 0
EachLine P [] = Unit {0}
EachLine P (l ∷ ls) = P l.word l.args × EachLine P ls

module _ (Q : RelocatableInsn → Type 0) (P : List ℕ → List Argument → Type 0) (each : (word : List ℕ) (args : List Argument) (w : RelocatableInsn) → P word args → IsLaid word args w → Q w) where
  pub each_listed : (word : List ℕ) (args : List Argument) (o : Option RelocatableInsn) (rest : List RelocatableInsn) → instruction word args ≡ o → P word args → EachOf Q rest → EachOf Q (listed o ++ rest)
  each_listed word args None rest e p r = r
  each_listed word args (Some w) rest e p r = (each word args w p (instruction_laid word args w e), r)

  pub each_line : (ls : List Line) → EachLine P ls → EachOf Q (all_lines ls)
  each_line [] h = tt
  each_line (l ∷ ls) h = each_listed l.word l.args (instruction l.word l.args) (all_lines ls) refl h.0 (each_line ls h.1)

-- ---- words

or_zero_word : (x : Option Value) → IsWord x → (or_zero x).number < 65536
or_zero_word None h = omega arith
or_zero_word (Some v) h = h

pub argument_words : (args : List Argument) (n : ℕ) → AllWords args → AreWords (argument args n)
argument_words [] n h = tt
argument_words (a ∷ args) zero h = h.0
argument_words (a ∷ args) (suc n) h = argument_words args n h.1

pub value_word : (a : Argument) → AreWords a → (value_of a).number < 65536
value_word (Plain x) h = or_zero_word x h
value_word (Immediate x) h = or_zero_word x h
value_word (Indirect r) h = or_zero_word r h
value_word (Increment r) h = or_zero_word r h
value_word (Indexed x r) h = or_zero_word x h.0

plain_words : (x : Option Value) (t : Bool) → is_direct x ≡ t → IsWord x → HasWords (plain_source x)
plain_words x true e h = rw e (or_zero_word x h)
plain_words x false e h = rw e (omega arith, or_zero_word x h)

byte-signed : (n : ℕ) → FitsSigned w8 (cast_signed w8 (n % 256))
byte-signed n = grind (arith, ints)

indexed_words : (x r : Option Value) (t : Bool) → is_short x ≡ t → IsWord x → IsWord r → HasWords (indexed_source x r)
indexed_words x r true e h k = rw e (or_zero_word r k, byte-signed (or_zero x).number)
indexed_words x r false e h k = rw e (or_zero_word r k, or_zero_word x h)

source_words : (a : Argument) → AreWords a → HasWords (source a)
source_words (Plain x) h = plain_words x (is_direct x) refl h
source_words (Immediate x) h = or_zero_word x h
source_words (Indirect r) h = or_zero_word r h
source_words (Increment r) h = or_zero_word r h
source_words (Indexed x r) h = indexed_words x r (is_short x) refl h.0 h.1

operand_words : (shape : Shape) (args : List Argument) → AllWords args → HasWords (operand_for shape args)
operand_words shapes.Nothing args h = tt
operand_words shapes.One args h = tt
operand_words shapes.Two args h = tt
operand_words shapes.Four args h = source_words (argument args 0) (argument_words args 0 h)
operand_words shapes.FourOne args h = source_words (argument args 1) (argument_words args 1 h)
operand_words shapes.FourTwo args h = source_words (argument args 2) (argument_words args 2 h)
operand_words shapes.Exchange args h = source_words (argument args 1) (argument_words args 1 h)
operand_words shapes.CountOne args h = value_word (argument args 1) (argument_words args 1 h)
operand_words shapes.Near args h = value_word (argument args 0) (argument_words args 0 h)
operand_words shapes.Conditional args h = value_word (argument args 0) (argument_words args 0 h)
operand_words shapes.BitTest args h = value_word (argument args 2) (argument_words args 2 h)
operand_words shapes.Loop args h = value_word (argument args 1) (argument_words args 1 h)
operand_words shapes.TableJump args h = tt
operand_words shapes.Far args h = value_word (argument args 0) (argument_words args 0 h)
operand_words shapes.Key args h = value_word (argument args 0) (argument_words args 0 h)

laid_words : (word : List ℕ) (args : List Argument) (w : RelocatableInsn) → AllWords args → IsLaid word args w → HasWords w.operand
laid_words word args w h l = subst (λ (v : RelocatableInsn). HasWords v.operand) l.is (operand_words l.row.shape args h)

over_words : (here : Value) (n : ℕ) → AreWords (over here n)
over_words here n = omega arith

abbrev pub Words : List ℕ → List Argument → Type 0
Words word args = AllWords args

branch_words : (kind : BranchKind) (word : List ℕ) (args : List Argument) (form : Form) (here : Value) → AllWords args → EachLine Words (branch_lines kind word args form here)
branch_words Jump word args First here h = ((argument_words args 0 h, tt), tt)
branch_words Jump word args Second here h = ((argument_words args 0 h, tt), tt)
branch_words Jump word args Third here h = ((argument_words args 0 h, tt), tt)
branch_words Call word args First here h = ((argument_words args 0 h, tt), tt)
branch_words Call word args Second here h = ((argument_words args 0 h, tt), tt)
branch_words Call word args Third here h = ((argument_words args 0 h, tt), tt)
branch_words Conditional word args First here h = ((argument_words args 0 h, tt), tt)
branch_words Conditional word args Second here h = ((over_words here 4, tt), ((argument_words args 0 h, tt), tt))
branch_words Conditional word args Third here h = ((over_words here 5, tt), ((argument_words args 0 h, tt), tt))
branch_words BitTest word args First here h = ((argument_words args 0 h, (argument_words args 1 h, (argument_words args 2 h, tt))), tt)
branch_words BitTest word args Second here h = ((argument_words args 0 h, (argument_words args 1 h, (over_words here 5, tt))), ((argument_words args 2 h, tt), tt))
branch_words BitTest word args Third here h = ((argument_words args 0 h, (argument_words args 1 h, (over_words here 6, tt))), ((argument_words args 2 h, tt), tt))

pub full_words : (word : List ℕ) (args : List Argument) (form : Form) (here : Value) (k : Option BranchKind) → AllWords args →
    EachLine Words (elim k as (λ _. List Line) [ None ↦ line word args ∷ [] | Some kind ↦ branch_lines kind word args form here ])
full_words word args form here None h = (h, tt)
full_words word args form here (Some kind) h = branch_words kind word args form here h

pub numbers_are_words : (word : List ℕ) (args : List Argument) (form : Form) (here : Value) → AllWords args → EachOf (λ w. HasWords w.operand) (instructions word args form here)
unfolding instructions
numbers_are_words word args form here h = each_line (λ (w : RelocatableInsn). HasWords w.operand) Words laid_words (in_full word args form here) (full_words word args form here (branch_kind word args) h)
