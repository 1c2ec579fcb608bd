-- The relocatable bytes of a statement: plain ones are bytes, and numbers are words.
use Rattle.std.proofs.Common.{◌≡◌, ℕ, zero, suc, ◌<◌, Bool, true, false, cond, ◌&&◌, ◌==◌, List, [], ◌∷◌, ◌++◌, map, take, drop, subst, arith}
use Rattle.std.specs.Prelude.{Option, Some, None, Ok, Err, nat_lt, FitsSigned, slice_get}
use Rattle.std.specs.Int.{w8, bytes_low_first, byte_at}
use Rattle.std.specs.List.{list_all}
use Rattle.std.proofs.lemmas.Bool.{and_parts}
use Rattle.std.proofs.lemmas.Bool.Decides.{nat_tests}
use Rattle.std.proofs.lemmas.Int.{ints}
use Rattle.kc_expr.specs.declared.values.Value.{Value}
use Rattle.kc_expr.specs.Tree.{Tree, Number, Chars, Name, Here, One, Two}
use Rattle.kc_expr.specs.Meaning.{Answer, answer_by}
use Rattle.kc_isa.specs.declared.layout.Form.{Form}
use Rattle.kc_isa.specs.declared.layout.Form.TheVariants as forms
use Rattle.kc_isa.specs.declared.layout.Layout.{Layout}
use Rattle.kc_isa.specs.declared.table.Shape.{Shape}
use Rattle.kc_isa.specs.declared.table.Shape.TheVariants as shapes
use Rattle.kc_isa.specs.Names.{Shown, row_at}
use Rattle.kc_isa.specs.Layout.{layout_of}
use Rattle.kc_isa.specs.Formed.{is_byte}
use Rattle.kc_code.specs.Spelling.{prefix}
use Rattle.kc_source_statement.specs.Trees.{ItemTree, ArgTree, ActionTree}
use Rattle.kc_source_statement.specs.Trees as trees
use Rattle.kc_asm_encode.specs.declared.relocatable_byte.RelocatableByte.{RelocatableByte}
use Rattle.kc_asm_encode.specs.declared.relocatable_byte.RelocatableByte.TheVariants as relocatable_bytes
use Rattle.kc_branch.specs.declared.piece.Form.{Form as Branch}
use Rattle.kc_asm_encode.specs.declared.argument.Argument.{Argument}
use Rattle.kc_asm_encode.specs.declared.word.Word.{Word}
use Rattle.kc_asm_encode.specs.declared.word.Word.TheVariants as words
use Rattle.kc_asm_encode.specs.declared.word.RelocatableInsn.{RelocatableInsn}
use Rattle.kc_asm_encode.specs.Values.{or_zero, moved, argument, value_of}
use Rattle.kc_asm_encode.specs.Branches.{branch_kind, in_full}
use Rattle.kc_asm_encode.specs.Instructions.{regs_for, instructions}
use Rattle.kc_asm_encode.specs.RelocatableBytes.{byte_of, word_of, immediate_relocatables, jump_relocatables, operand_relocatables, opcode_relocatable, laid_relocatables, row_relocatables, insn_relocatables, all_relocatable_bytes}
use Rattle.kc_asm_encode.specs.Suits.{HasWords, EachOf, IsWord, AreWords, AllWords}
use Rattle.kc_asm_encode.specs.Laws.{NumbersAreWords}
use Rattle.kc_asm_encode.proofs.Found.{IsLaid}
use Rattle.kc_asm_encode.proofs.Evens.{each_line, argument_words, value_word, Words, full_words}
use Rattle.kc_asm_symbols.specs.Externals.{all_trees, arg_trees, item_trees}
use Rattle.kc_asm_emit.specs.Arguments as emitted
use Rattle.kc_asm_emit.specs.Content.{RelocatableBytes, long_relocatables, value_relocatables, data_relocatables, content, reserved, upto}
use Rattle.kc_asm.specs.Characters.{are_bytes, all_bytes}
use Rattle.kc_asm.proofs.Words.{IsWordAnswer, answer_word}
use Rattle.kc_source_laws.specs.Strings.{item_passes, items_pass}
use Rattle.kc_source_laws.proofs.Tests.{all_split}

abbrev pub IsGoodRelocatableByte : RelocatableByte → Type 0
IsGoodRelocatableByte (relocatable_bytes.Plain b) = b < 256
IsGoodRelocatableByte (relocatable_bytes.First kind start v) = v.number < 65536
IsGoodRelocatableByte (relocatable_bytes.Second kind v) = v.number < 65536

abbrev pub AllGood : List RelocatableByte → Type 0
AllGood [] = Unit {0}
AllGood (o ∷ os) = IsGoodRelocatableByte o × AllGood os

pub good_at : (os : List RelocatableByte) (i : ℕ) (o : RelocatableByte) → AllGood os → slice_get os i ≡ Some o → IsGoodRelocatableByte o
good_at [] i o h e = absurd (cc e)
good_at (x ∷ os) zero o h e = let same : x ≡ o = cc e in subst IsGoodRelocatableByte same h.0
good_at (x ∷ os) (suc i) o h e = good_at os i o h.1 e

good_join : (os ps : List RelocatableByte) → AllGood os → AllGood ps → AllGood (os ++ ps)
good_join [] ps h k = k
good_join (o ∷ os) ps h k = (h.0, good_join os ps h.1 k)

is_below : (b : ℕ) → nat_lt b 256 ≡ true → b < 256
is_below b h = grind (arith, nat_tests, h)

good_plain : (bs : List ℕ) → list_all (λ c. nat_lt c 256) bs ≡ true → AllGood (map relocatable_bytes.Plain bs)
good_plain [] h = tt
good_plain (b ∷ bs) h = let both = and_parts (nat_lt b 256) (list_all (λ c. nat_lt c 256) bs) h in (is_below b both.0, good_plain bs both.1)

-- ---- values

abbrev IsWordValue : Option Value → Type 0
IsWordValue None = Unit {0}
IsWordValue (Some v) = v.number < 65536

answered_word : (a : Answer) → IsWordAnswer a → IsWordValue (emitted.value_in a)
answered_word (Ok v) h = h
answered_word (Err fault) h = tt

zero_word : (x : Option Value) → IsWordValue x → (or_zero x).number < 65536
zero_word None h = omega arith
zero_word (Some v) h = h

abbrev AreAnswered : emitted.Look → Type 0
AreAnswered look = (name : List ℕ) → IsWordAnswer (look name)

tree_word : (look : emitted.Look) → AreAnswered look → (x : Tree) → are_bytes x ≡ true → IsWordValue (emitted.value_of look x)
tree_word look names x h = answered_word (answer_by look x) (answer_word look names x h)

-- ---- data

low_bytes : (i k n : ℕ) → AllGood (map relocatable_bytes.Plain (bytes_low_first i k n))
low_bytes i zero n = tt
low_bytes i (suc k) n = (low_byte i n, low_bytes (suc i) k n)
  where
    low_byte : (i n : ℕ) → byte_at i n < 256
    low_byte zero n = omega arith
    low_byte (suc i) n = omega arith

long_good : (look : emitted.Look) (x : Tree) → (or_zero (emitted.value_of look x)).number < 65536 → AllGood (long_relocatables look x)
long_good look (Number n) h = low_bytes 0 4 n
long_good look (Chars cs) h = (h, (h, (omega arith, (omega arith, tt))))
long_good look (Name n) h = (h, (h, (omega arith, (omega arith, tt))))
long_good look Here h = (h, (h, (omega arith, (omega arith, tt))))
long_good look (One op e) h = (h, (h, (omega arith, (omega arith, tt))))
long_good look (Two op a b) h = (h, (h, (omega arith, (omega arith, tt))))

value_good : (look : emitted.Look) (size : ℕ) (x : Tree) → (or_zero (emitted.value_of look x)).number < 65536 → AllGood (value_relocatables look size x)
value_good look size x h =
    elim (size == 1) as (λ b. AllGood (cond b (byte_of (or_zero (emitted.value_of look x)) ∷ []) (cond (size == 2) (word_of 0 (or_zero (emitted.value_of look x))) (long_relocatables look x)))) [
      | true ↦ (h, tt)
      | false ↦ elim (size == 2) as (λ b. AllGood (cond b (word_of 0 (or_zero (emitted.value_of look x))) (long_relocatables look x))) [
        | true ↦ (h, (h, tt))
        | false ↦ long_good look x h
      ]
    ]

data_good : (look : emitted.Look) → AreAnswered look → (size : ℕ) (is : List ItemTree) → list_all are_bytes (all_trees item_trees is) ≡ true → list_all (item_passes (λ cs. list_all (λ c. nat_lt c 256) cs)) is ≡ true → AllGood (data_relocatables look size is)
unfolding all_trees
data_good look names size [] h k = tt
data_good look names size (trees.Value x ∷ is) h k =
    let both = and_parts (are_bytes x) (list_all are_bytes (all_trees item_trees is)) h in
    good_join (value_relocatables look size x) (data_relocatables look size is) (value_good look size x (zero_word (emitted.value_of look x) (tree_word look names x both.0))) (data_good look names size is both.1 k)
data_good look names size (trees.Chars cs ∷ is) h k =
    let both = and_parts (list_all (λ c. nat_lt c 256) cs) (list_all (item_passes (λ cs. list_all (λ c. nat_lt c 256) cs)) is) k in
    good_join (map relocatable_bytes.Plain cs) (data_relocatables look size is) (good_plain cs both.0) (data_good look names size is h both.1)

-- ---- instructions

abbrev AreWordRegs : List Value → Type 0
AreWordRegs [] = Unit {0}
AreWordRegs (v ∷ vs) = (v.number < 65536) × AreWordRegs vs

at_place : (args : List Argument) (n : ℕ) → AllWords args → (value_of (argument args n)).number < 65536
at_place args n h = value_word (argument args n) (argument_words args n h)

zero_is_word : 0 < 65536
zero_is_word = omega arith

regs_words : (shape : Shape) (args : List Argument) → AllWords args → AreWordRegs (regs_for shape args)
regs_words shapes.One args h = (at_place args 0 h, (zero_is_word, (zero_is_word, tt)))
regs_words shapes.Two args h = (at_place args 1 h, (at_place args 0 h, (zero_is_word, tt)))
regs_words shapes.FourOne args h = (at_place args 0 h, (zero_is_word, (zero_is_word, tt)))
regs_words shapes.FourTwo args h = (at_place args 1 h, (at_place args 0 h, (zero_is_word, tt)))
regs_words shapes.Exchange args h = (at_place args 0 h, (zero_is_word, (zero_is_word, tt)))
regs_words shapes.CountOne args h = (at_place args 0 h, (zero_is_word, (zero_is_word, tt)))
regs_words shapes.BitTest args h = (at_place args 0 h, (zero_is_word, (zero_is_word, tt)))
regs_words shapes.Loop args h = (at_place args 0 h, (zero_is_word, (zero_is_word, tt)))
regs_words shapes.TableJump args h = (at_place args 1 h, (at_place args 2 h, (at_place args 0 h, tt)))
regs_words shapes.Nothing args h = (zero_is_word, (zero_is_word, (zero_is_word, tt)))
regs_words shapes.Four args h = (zero_is_word, (zero_is_word, (zero_is_word, tt)))
regs_words shapes.Near args h = (zero_is_word, (zero_is_word, (zero_is_word, tt)))
regs_words shapes.Conditional args h = (zero_is_word, (zero_is_word, (zero_is_word, tt)))
regs_words shapes.Far args h = (zero_is_word, (zero_is_word, (zero_is_word, tt)))
regs_words shapes.Key args h = (zero_is_word, (zero_is_word, (zero_is_word, tt)))

-- its opcode is a byte, and its registers are words
record IsSmall (w : RelocatableInsn) : Type 0 where
  opcode : w.opcode < 256
  regs : AreWordRegs w.regs

laid_small : (word : List ℕ) (args : List Argument) (w : RelocatableInsn) → AllWords args → IsLaid word args w → IsSmall w
laid_small word args w h l = subst IsSmall l.is (record { opcode = l.below; regs = regs_words l.row.shape args h })

all_small : (word : List ℕ) (args : List Argument) (form : Branch) (here : Value) → AllWords args → EachOf IsSmall (instructions word args form here)
unfolding instructions
all_small word args form here h = each_line IsSmall Words laid_small (in_full word args form here) (full_words word args form here (branch_kind word args) h)

-- ---- their relocatable bytes

regs_good : (vs : List Value) → AreWordRegs vs → AllGood (map byte_of vs)
regs_good [] h = tt
regs_good (v ∷ vs) h = (h.0, regs_good vs h.1)

regs_take : (n : ℕ) (vs : List Value) → AreWordRegs vs → AreWordRegs (take n vs)
regs_take zero vs h = tt
regs_take (suc n) [] h = tt
regs_take (suc n) (v ∷ vs) h = (h.0, regs_take n vs h.1)

regs_drop : (n : ℕ) (vs : List Value) → AreWordRegs vs → AreWordRegs (drop n vs)
regs_drop zero vs h = h
regs_drop (suc n) [] h = tt
regs_drop (suc n) (v ∷ vs) h = regs_drop n vs h.1

immediate_good : (f : Form) (byte : Bool) (v : Value) → v.number < 65536 → AllGood (immediate_relocatables f byte v)
immediate_good forms.Mode true v h = (h, tt)
immediate_good forms.Mode false v h = (h, (h, tt))
immediate_good forms.NoOperand byte v h = (h, tt)
immediate_good forms.ShiftCount byte v h = (h, tt)
immediate_good forms.Distance11 byte v h = (h, tt)
immediate_good forms.Distance8 byte v h = (h, tt)
immediate_good forms.Distance16 byte v h = (h, tt)
immediate_good forms.OneByte byte v h = (h, tt)

jump_good : (f : Form) (v : Value) → v.number < 65536 → AllGood (jump_relocatables f v)
jump_good forms.Mode v h = (h, tt)
jump_good forms.NoOperand v h = (h, tt)
jump_good forms.ShiftCount v h = (h, tt)
jump_good forms.Distance11 v h = (h, tt)
jump_good forms.Distance8 v h = (h, tt)
jump_good forms.Distance16 v h = (h, (h, tt))
jump_good forms.OneByte v h = (h, tt)

moved_word : (v : Value) (n : ℕ) → (moved v n).number < 65536
moved_word v n = omega arith

operand_good : (f : Form) (byte : Bool) (w : Word) → HasWords w → AllGood (operand_relocatables f byte w)
operand_good f byte words.Absent h = tt
operand_good f byte (words.Register v) h = (h, tt)
operand_good f byte (words.Immediate v) h = immediate_good f byte v h
operand_good f byte (words.Indirect v) h = (h, tt)
operand_good f byte (words.Increment v) h = (moved_word v 1, tt)
operand_good f byte (words.Short base offset) h = (h.0, (let fit : FitsSigned w8 offset = h.1 in grind (arith, ints, fit), tt))
operand_good f byte (words.Long base offset) h = (moved_word base 1, (h.1, (h.1, tt)))
operand_good f byte (words.Count v) h = (h, tt)
operand_good f byte (words.Jump v) h = jump_good f v h

opcode_good : (f : Form) (opcode : ℕ) (w : Word) → opcode < 256 → HasWords w → IsGoodRelocatableByte (opcode_relocatable f opcode w)
opcode_good forms.Distance11 opcode words.Absent l h = l
opcode_good forms.Distance11 opcode (words.Register v) l h = l
opcode_good forms.Distance11 opcode (words.Immediate v) l h = l
opcode_good forms.Distance11 opcode (words.Indirect v) l h = l
opcode_good forms.Distance11 opcode (words.Increment v) l h = l
opcode_good forms.Distance11 opcode (words.Short base offset) l h = l
opcode_good forms.Distance11 opcode (words.Long base offset) l h = l
opcode_good forms.Distance11 opcode (words.Count v) l h = l
opcode_good forms.Distance11 opcode (words.Jump v) l h = h
opcode_good forms.Mode opcode w l h = l
opcode_good forms.NoOperand opcode w l h = l
opcode_good forms.ShiftCount opcode w l h = l
opcode_good forms.Distance8 opcode w l h = l
opcode_good forms.Distance16 opcode w l h = l
opcode_good forms.OneByte opcode w l h = l

prefix_good : (signed : Bool) → AllGood (map relocatable_bytes.Plain (prefix signed))
prefix_good true = (omega arith, tt)
prefix_good false = tt

laid_good : (l : Layout) (byte : Bool) (w : RelocatableInsn) → IsSmall w → HasWords w.operand → AllGood (laid_relocatables l byte w)
laid_good l byte w s h =
    good_join (map byte_of (take l.before w.regs)) (operand_relocatables l.form byte w.operand ++ map byte_of (take l.after (drop l.before w.regs))) (regs_good (take l.before w.regs) (regs_take l.before w.regs s.regs))
    (good_join (operand_relocatables l.form byte w.operand) (map byte_of (take l.after (drop l.before w.regs))) (operand_good l.form byte w.operand h)
    (regs_good (take l.after (drop l.before w.regs)) (regs_take l.after (drop l.before w.regs) (regs_drop l.before w.regs s.regs))))

insn_good : (w : RelocatableInsn) → IsSmall w → HasWords w.operand → AllGood (insn_relocatables w)
insn_good w s h = by (row_at w.opcode w.signed)
  where
    by : (o : Option Shown) → AllGood (elim o as (λ _. List RelocatableByte) [ None ↦ [] | Some row ↦ row_relocatables w row ])
    by None = tt
    by (Some row) =
        let l : Layout = layout_of row.shape in
        good_join (map relocatable_bytes.Plain (prefix w.signed)) (opcode_relocatable (layout_of row.shape).form w.opcode w.operand ∷ laid_relocatables (layout_of row.shape) (is_byte row.width) w) (prefix_good w.signed)
        (opcode_good (layout_of row.shape).form w.opcode w.operand s.opcode h, laid_good (layout_of row.shape) (is_byte row.width) w s h)

all_good : (ws : List RelocatableInsn) → EachOf IsSmall ws → EachOf (λ w. HasWords w.operand) ws → AllGood (all_relocatable_bytes ws)
all_good [] s h = tt
all_good (w ∷ ws) s h = good_join (insn_relocatables w) (all_relocatable_bytes ws) (insn_good w s.0 h.0) (all_good ws s.1 h.1)

-- ---- a statement

is_word : (x : Option Value) → IsWordValue x → IsWord x
is_word None h = tt
is_word (Some v) h = h

arg_words : (look : emitted.Look) → AreAnswered look → (a : ArgTree) → list_all are_bytes (arg_trees a) ≡ true → AreWords (emitted.argument look a)
arg_words look names (trees.Plain x) h = is_word (emitted.value_of look x) (tree_word look names x (and_parts (are_bytes x) true h).0)
arg_words look names (trees.Immediate x) h = is_word (emitted.value_of look x) (tree_word look names x (and_parts (are_bytes x) true h).0)
arg_words look names (trees.Indirect x) h = is_word (emitted.value_of look x) (tree_word look names x (and_parts (are_bytes x) true h).0)
arg_words look names (trees.Increment x) h = is_word (emitted.value_of look x) (tree_word look names x (and_parts (are_bytes x) true h).0)
arg_words look names (trees.Indexed x r) h =
    let both = and_parts (are_bytes x) (are_bytes r && true) h in
    (is_word (emitted.value_of look x) (tree_word look names x both.0), is_word (emitted.value_of look r) (tree_word look names r (and_parts (are_bytes r) true both.1).0))

args_words : (look : emitted.Look) → AreAnswered look → (args : List ArgTree) → list_all are_bytes (all_trees arg_trees args) ≡ true → AllWords (emitted.arguments look args)
unfolding all_trees
args_words look names [] h = tt
args_words look names (a ∷ args) h =
    let both = all_split are_bytes (arg_trees a) (all_trees arg_trees args) h in
    (arg_words look names a both.0, args_words look names args both.1)

nothing_reserved : (size : ℕ) (o : Option ℕ) (os : List RelocatableByte) → reserved size o ≡ RelocatableBytes os → AllGood os
nothing_reserved size None os e = absurd (cc e)
nothing_reserved size (Some n) os e = absurd (cc e)

nothing_led : (o : Option ℕ) (os : List RelocatableByte) → upto o ≡ RelocatableBytes os → AllGood os
nothing_led None os e = absurd (cc e)
nothing_led (Some n) os e = absurd (cc e)

-- relocatable bytes of a statement whose expressions and items have bytes, where names are words
pub content_good : NumbersAreWords → (look : emitted.Look) → ((name : List ℕ) → IsWordAnswer (look name)) → (form : Branch) (here : Value) (action : ActionTree) → all_bytes action ≡ true
    → items_pass (λ cs. list_all (λ c. nat_lt c 256) cs) action ≡ true → (os : List RelocatableByte) → content look form here action ≡ RelocatableBytes os → AllGood os
content_good law look names form here (trees.Define size items) h k os e =
    let same : data_relocatables look size items ≡ os = cc e in subst AllGood same (data_good look names size items h k)
content_good law look names form here (trees.Operation word args) h k os e =
    let same : all_relocatable_bytes (instructions word (emitted.arguments look args) form here) ≡ os = cc e in
    let args_are : AllWords (emitted.arguments look args) = args_words look names args h in
    subst AllGood same (all_good (instructions word (emitted.arguments look args) form here) (all_small word (emitted.arguments look args) form here args_are) (law word (emitted.arguments look args) form here args_are))
content_good law look names form here (trees.Reserve size count) h k os e = nothing_reserved size (emitted.fixed_of look count) os e
content_good law look names form here (trees.Org x) h k os e = nothing_led (emitted.fixed_of look x) os e
content_good law look names form here trees.Even h k os e = absurd (cc e)
content_good law look names form here trees.Bare h k os e = absurd (cc e)
content_good law look names form here (trees.Module name stack) h k os e = absurd (cc e)
content_good law look names form here (trees.Cseg at) h k os e = absurd (cc e)
content_good law look names form here (trees.Dseg at) h k os e = absurd (cc e)
content_good law look names form here (trees.Rseg at) h k os e = absurd (cc e)
content_good law look names form here (trees.Sseg size) h k os e = absurd (cc e)
content_good law look names form here (trees.Public ns) h k os e = absurd (cc e)
content_good law look names form here (trees.Extrn ns) h k os e = absurd (cc e)
content_good law look names form here (trees.Equ name x) h k os e = absurd (cc e)
content_good law look names form here (trees.Set name x) h k os e = absurd (cc e)
content_good law look names form here trees.End h k os e = absurd (cc e)
