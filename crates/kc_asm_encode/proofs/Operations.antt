-- An operation is written in full by lines that the table has.
use Rattle.std.proofs.Common.{◌≡◌, ℕ, Bool, true, false, List, [], ◌∷◌, ◌++◌, length, map, refl, sym, ap, ◌∙◌, subst, Option, Some, None, ◌⊎◌, inl, inr}
use Rattle.std.specs.Prelude.{◌&&◌, ◌||◌, not, if◌then◌else◌, codes}
use Rattle.std.specs.Option.{option_or}
use Rattle.std.specs.Str.{bytes_eq}
use Rattle.std.proofs.lemmas.Slice.Eq.{bytes_eq-Decides}
use Rattle.kc_expr.specs.declared.values.Value.{Value}
use Rattle.kc_isa.specs.declared.table.Shape.{Shape}
use Rattle.kc_isa.specs.declared.table.Shape.TheVariants as shapes
use Rattle.kc_isa.specs.Names.{row_at}
use Rattle.kc_isa.specs.Table.{plain_entry}
use Rattle.kc_lex.specs.declared.words.Operands.{Operands}
use Rattle.kc_lex.specs.declared.words.Operands.TheVariants as operands
use Rattle.kc_lex.specs.Instructions.{least, first_opcode, operands_of}
use Rattle.kc_lex.specs.Words.{is_one_of, is_generic_conditional, generic_operands_of, operands_for}
use Rattle.kc_lex.specs.Takes.{is_plain, is_immediate, is_indexed, takes, suits}
use Rattle.kc_asm_encode.specs.declared.argument.Argument.{Argument}
use Rattle.kc_asm_encode.specs.declared.argument.Argument.TheVariants.{Plain}
use Rattle.kc_branch.specs.declared.piece.Form.{Form}
use Rattle.kc_branch.specs.declared.piece.Form.TheVariants.{First, Second, Third}
use Rattle.kc_branch.specs.declared.piece.BranchKind.{BranchKind}
use Rattle.kc_branch.specs.declared.piece.BranchKind.TheVariants.{Jump, Call, Conditional, BitTest}
use Rattle.kc_asm_encode.specs.declared.word.RelocatableInsn.{RelocatableInsn}
use Rattle.kc_asm_encode.specs.Values.{argument}
use Rattle.kc_asm_encode.specs.Takes.{notation, is_operation}
use Rattle.kc_asm_encode.specs.Opcodes.{operand_count, source_of, wanted_bits}
use Rattle.kc_asm_encode.specs.Branches.{Line, line, tested, over, plain_branch, branch_kind, branch_lines, jump_of, inverse_of, in_full}
use Rattle.kc_asm_encode.specs.Instructions.{instruction, listed, all_lines, instructions}
use Rattle.kc_asm_encode.specs.Suits.{AreInstructions}
use Rattle.kc_asm_encode.proofs.Found.{both, instruction_found}
use Rattle.kc_asm_encode.proofs.Rows
use Rattle.kc_asm_encode.proofs.Rows.{has_rows, has_one_shape, is_branch_row, Zero, Modes, Places, Bits, rows_for, operand_rows}
use Rattle.kc_asm_encode.proofs.Exists.{IsFound, either, is_among, one_of, found_among, mode_among, place_among, exchange_among, bit_among}

-- ---- how many operands a form takes

abbrev IsCount : Operands → ℕ → Type 0
IsCount operands.Nothing n = 0 ≡ n
IsCount operands.One n = 1 ≡ n
IsCount operands.Source n = 1 ≡ n
IsCount operands.Place n = 1 ≡ n
IsCount operands.Two n = 2 ≡ n
IsCount operands.TwoOrThree n = (2 ≡ n) ⊎ (3 ≡ n)
IsCount operands.Store n = 2 ≡ n
IsCount operands.Exchange n = 2 ≡ n
IsCount operands.Shift n = 2 ≡ n
IsCount operands.Pair n = 2 ≡ n
IsCount operands.Triple n = 3 ≡ n
IsCount operands.Branch n = 1 ≡ n
IsCount operands.Table n = 3 ≡ n
IsCount operands.Key n = 1 ≡ n

takes_count : (form : Operands) (args : List Argument) → takes form (map notation args) ≡ true → IsCount form (length args)
takes_count operands.Nothing [] h = refl
takes_count form [] h = absurd (cc h)
takes_count operands.One (a ∷ []) h = refl
takes_count operands.Source (a ∷ []) h = refl
takes_count operands.Place (a ∷ []) h = refl
takes_count operands.Branch (a ∷ []) h = refl
takes_count operands.Key (a ∷ []) h = refl
takes_count form (a ∷ []) h = absurd (cc h)
takes_count operands.Two (a ∷ b ∷ []) h = refl
takes_count operands.TwoOrThree (a ∷ b ∷ []) h = inl refl
takes_count operands.Store (a ∷ b ∷ []) h = refl
takes_count operands.Exchange (a ∷ b ∷ []) h = refl
takes_count operands.Shift (a ∷ b ∷ []) h = refl
takes_count operands.Pair (a ∷ b ∷ []) h = refl
takes_count form (a ∷ b ∷ []) h = absurd (cc h)
takes_count operands.TwoOrThree (a ∷ b ∷ c ∷ []) h = inr refl
takes_count operands.Triple (a ∷ b ∷ c ∷ []) h = refl
takes_count operands.Table (a ∷ b ∷ c ∷ []) h = refl
takes_count form (a ∷ b ∷ c ∷ []) h = absurd (cc h)
takes_count form (a ∷ b ∷ c ∷ d ∷ rest) h = absurd (cc h)

place_takes : (args : List Argument) → takes operands.Place (map notation args) ≡ true → not (is_immediate (notation (argument args 0))) ≡ true
place_takes [] h = absurd (cc h)
place_takes (a ∷ []) h = h
place_takes (a ∷ b ∷ []) h = absurd (cc h)
place_takes (a ∷ b ∷ c ∷ []) h = absurd (cc h)
place_takes (a ∷ b ∷ c ∷ d ∷ rest) h = absurd (cc h)

store_takes : (args : List Argument) → takes operands.Store (map notation args) ≡ true → not (is_immediate (notation (argument args 1))) ≡ true
store_takes [] h = absurd (cc h)
store_takes (a ∷ []) h = absurd (cc h)
store_takes (a ∷ b ∷ []) h = (both _ _ h).1
store_takes (a ∷ b ∷ c ∷ []) h = absurd (cc h)
store_takes (a ∷ b ∷ c ∷ d ∷ rest) h = absurd (cc h)

exchange_takes : (args : List Argument) → takes operands.Exchange (map notation args) ≡ true → (is_plain (notation (argument args 1)) || is_indexed (notation (argument args 1))) ≡ true
exchange_takes [] h = absurd (cc h)
exchange_takes (a ∷ []) h = absurd (cc h)
exchange_takes (a ∷ b ∷ []) h = (both _ _ h).1
exchange_takes (a ∷ b ∷ c ∷ []) h = absurd (cc h)
exchange_takes (a ∷ b ∷ c ∷ d ∷ rest) h = absurd (cc h)

-- ---- each form of operands

two_or_three : (w : List ℕ) (args : List Argument) → has_rows shapes.FourOne Modes w ≡ true → has_rows shapes.FourTwo Modes w ≡ true → (2 ≡ length args) ⊎ (3 ≡ length args) → IsFound w args
two_or_three w args two three (inl h) = found_among w args shapes.FourOne Modes two h (mode_among (source_of shapes.FourOne args))
two_or_three w args two three (inr h) = found_among w args shapes.FourTwo Modes three h (mode_among (source_of shapes.FourTwo args))

pub single : (w v : List ℕ) → bytes_eq w v ≡ true → is_one_of (v ∷ []) w ≡ true
single w v h = rw h refl

-- a shape whose rows have no low bits
alike : (shape : Shape) (w : List ℕ) (args : List Argument) → has_rows shape Zero w ≡ true → operand_count shape ≡ length args → wanted_bits shape args ≡ 0 → IsFound w args
alike shape w args r n z = found_among w args shape Zero r n (subst (λ (low : ℕ). is_among Zero low ≡ true) (sym z) refl)

one_found : (w : List ℕ) (args : List Argument) → rows_for w operands.One ≡ true → 1 ≡ length args → IsFound w args
one_found w args r n =
    let one : Bool = has_rows shapes.One Zero w in
    let near : Bool = has_rows shapes.Near Zero w in
    let far : Bool = has_rows shapes.Far Zero w in
    let conditional : Bool = has_rows shapes.Conditional Zero w in
    either one (near || (far || conditional)) r (IsFound w args) (λ a. alike shapes.One w args a n refl)
    (λ r1. either near (far || conditional) r1 (IsFound w args) (λ a. alike shapes.Near w args a n refl)
    (λ r2. either far conditional r2 (IsFound w args) (λ a. alike shapes.Far w args a n refl) (λ a. alike shapes.Conditional w args a n refl)))

by_rows : (w : List ℕ) (args : List Argument) (form : Operands) → rows_for w form ≡ true → takes form (map notation args) ≡ true → IsFound w args
by_rows w args operands.Nothing r t = alike shapes.Nothing w args r (takes_count operands.Nothing args t) refl
by_rows w args operands.One r t = one_found w args r (takes_count operands.One args t)
by_rows w args operands.Source r t = found_among w args shapes.Four Modes r (takes_count operands.Source args t) (mode_among (source_of shapes.Four args))
by_rows w args operands.Place r t = found_among w args shapes.Four Places r (takes_count operands.Place args t) (place_among (argument args 0) (place_takes args t))
by_rows w args operands.Two r t = found_among w args shapes.FourOne Modes r (takes_count operands.Two args t) (mode_among (source_of shapes.FourOne args))
by_rows w args operands.TwoOrThree r t = two_or_three w args (both (has_rows shapes.FourOne Modes w) (has_rows shapes.FourTwo Modes w) r).0 (both (has_rows shapes.FourOne Modes w) (has_rows shapes.FourTwo Modes w) r).1 (takes_count operands.TwoOrThree args t)
by_rows w args operands.Store r t = found_among w args shapes.FourOne Places r (takes_count operands.Store args t) (place_among (argument args 1) (store_takes args t))
by_rows w args operands.Exchange r t = found_among w args shapes.Exchange (0 ∷ 3 ∷ []) r (takes_count operands.Exchange args t) (exchange_among (argument args 1) (exchange_takes args t))
by_rows w args operands.Shift r t = alike shapes.CountOne w args r (takes_count operands.Shift args t) refl
by_rows w args operands.Pair r t =
    let n : 2 ≡ length args = takes_count operands.Pair args t in
    either (has_rows shapes.Two Zero w) (has_rows shapes.Loop Zero w) r (IsFound w args) (λ a. alike shapes.Two w args a n refl) (λ a. alike shapes.Loop w args a n refl)
by_rows w args operands.Triple r t = found_among w args shapes.BitTest Bits r (takes_count operands.Triple args t) (bit_among (argument args 1))
by_rows w args operands.Branch r t = alike shapes.One w args r (takes_count operands.Branch args t) refl
by_rows w args operands.Table r t = alike shapes.TableJump w args r (takes_count operands.Table args t) refl
by_rows w args operands.Key r t = alike shapes.Key w args r (takes_count operands.Key args t) refl

plain_forms : (w : List ℕ) (args : List Argument) (form : Operands) → operands_of w ≡ Some form → takes form (map notation args) ≡ true → IsFound w args
plain_forms w args form e h = by_rows w args form (operand_rows w form e) h

-- ---- generic branches

abbrev pub IsWordOf : BranchKind → List ℕ → Type 0
IsWordOf Jump w = Unit {0}
IsWordOf Call w = Unit {0}
IsWordOf Conditional w = is_generic_conditional w ≡ true
IsWordOf BitTest w = is_one_of Rows.tested_words w ≡ true

plain_is_jump : (args : List Argument) (kind : BranchKind) → plain_branch args ≡ Some kind → Jump ≡ kind
plain_is_jump (Plain x ∷ []) kind h = cc h
plain_is_jump args kind h = absurd (cc h)

pub branch_word : (w : List ℕ) (args : List Argument) (kind : BranchKind) → branch_kind w args ≡ Some kind → IsWordOf kind w
unfolding branch_kind
branch_word w args kind h = four (bytes_eq w (codes "BR")) (bytes_eq w (codes "CALL")) (is_generic_conditional w) (is_one_of Rows.tested_words w) refl refl h
  where
    four : (a b c d : Bool) → is_generic_conditional w ≡ c → is_one_of Rows.tested_words w ≡ d →
        (if a then plain_branch args else (if b then Some Call else (if c then Some Conditional else (if d then Some BitTest else None)))) ≡ Some kind → IsWordOf kind w
    four true b c d f g h = subst (λ (k : BranchKind). IsWordOf k w) (plain_is_jump args kind h) tt
    four false true c d f g h = let e : Call ≡ kind = cc h in subst (λ (k : BranchKind). IsWordOf k w) e tt
    four false false true d f g h = let e : Conditional ≡ kind = cc h in subst (λ (k : BranchKind). IsWordOf k w) e f
    four false false false true f g h = let e : BitTest ≡ kind = cc h in subst (λ (k : BranchKind). IsWordOf k w) e g
    four false false false false f g h = absurd (cc h)

abbrev pub AllFound : List Line → Type 0
AllFound [] = Unit {0}
AllFound (l ∷ ls) = IsFound l.word l.args × AllFound ls

pub near_found : (w : List ℕ) (x : Argument) → is_one_of Rows.near_words w ≡ true → IsFound w (x ∷ [])
near_found w x t = alike shapes.Near w (x ∷ []) (one_of (has_rows shapes.Near Zero) Rows.near_words w Rows.near_rows t) refl refl

pub far_found : (w : List ℕ) (x : Argument) → is_one_of Rows.far_words w ≡ true → IsFound w (x ∷ [])
far_found w x t = alike shapes.Far w (x ∷ []) (one_of (has_rows shapes.Far Zero) Rows.far_words w Rows.far_rows t) refl refl

pub branch_rows : (w : List ℕ) → is_generic_conditional w ≡ true → is_branch_row shapes.Conditional Zero w ≡ true
branch_rows w h = one_of (is_branch_row shapes.Conditional Zero) Rows.generic_words w Rows.generic_rows h

pub test_rows : (w : List ℕ) → is_one_of Rows.tested_words w ≡ true → is_branch_row shapes.BitTest (0 ∷ 1 ∷ 2 ∷ 3 ∷ 4 ∷ 5 ∷ 6 ∷ 7 ∷ []) w ≡ true
test_rows w h = one_of (is_branch_row shapes.BitTest (0 ∷ 1 ∷ 2 ∷ 3 ∷ 4 ∷ 5 ∷ 6 ∷ 7 ∷ [])) Rows.tested_words w Rows.tested_rows h

conditional_found : (v : List ℕ) (x : Argument) → (has_rows shapes.Conditional Zero v && has_one_shape shapes.Conditional v) ≡ true → IsFound v (x ∷ [])
conditional_found v x h = found_among v (x ∷ []) shapes.Conditional Zero (both _ _ h).0 refl refl

test_found : (v : List ℕ) (args : List Argument) (x : Argument) → (has_rows shapes.BitTest (0 ∷ 1 ∷ 2 ∷ 3 ∷ 4 ∷ 5 ∷ 6 ∷ 7 ∷ []) v && has_one_shape shapes.BitTest v) ≡ true → IsFound v (tested args x)
test_found v args x h = found_among v (tested args x) shapes.BitTest (0 ∷ 1 ∷ 2 ∷ 3 ∷ 4 ∷ 5 ∷ 6 ∷ 7 ∷ []) (both _ _ h).0 refl (bit_among (argument args 1))

pub branch_found : (kind : BranchKind) (w : List ℕ) (args : List Argument) (form : Form) (here : Value) → IsWordOf kind w → AllFound (branch_lines kind w args form here)
branch_found Jump w args First here h = (near_found (codes "SJMP") (argument args 0) refl, tt)
branch_found Jump w args Second here h = (far_found (codes "LJMP") (argument args 0) refl, tt)
branch_found Jump w args Third here h = (far_found (codes "LJMP") (argument args 0) refl, tt)
branch_found Call w args First here h = (near_found (codes "SCALL") (argument args 0) refl, tt)
branch_found Call w args Second here h = (far_found (codes "LCALL") (argument args 0) refl, tt)
branch_found Call w args Third here h = (far_found (codes "LCALL") (argument args 0) refl, tt)
branch_found Conditional w args First here h = (conditional_found (jump_of w) (argument args 0) (both _ _ (branch_rows w h)).0, tt)
branch_found Conditional w args Second here h = (conditional_found (inverse_of w) (over here 4) (both _ _ (branch_rows w h)).1, (near_found (codes "SJMP") (argument args 0) refl, tt))
branch_found Conditional w args Third here h = (conditional_found (inverse_of w) (over here 5) (both _ _ (branch_rows w h)).1, (far_found (codes "LJMP") (argument args 0) refl, tt))
branch_found BitTest w args First here h = (test_found (jump_of w) args (argument args 2) (both _ _ (test_rows w h)).0, tt)
branch_found BitTest w args Second here h = (test_found (inverse_of w) args (over here 5) (both _ _ (test_rows w h)).1, (near_found (codes "SJMP") (argument args 2) refl, tt))
branch_found BitTest w args Third here h = (test_found (inverse_of w) args (over here 6) (both _ _ (test_rows w h)).1, (far_found (codes "LJMP") (argument args 2) refl, tt))

-- ---- all operations

none_generic : (w : List ℕ) (args : List Argument) → branch_kind w args ≡ None → bytes_eq w (codes "BR") ≡ false → generic_operands_of w ≡ None
unfolding branch_kind generic_operands_of
none_generic w args h e = four (bytes_eq w (codes "BR")) (bytes_eq w (codes "CALL")) (is_generic_conditional w) (is_one_of Rows.tested_words w) h e
  where
    four : (a b c d : Bool) → (if a then plain_branch args else (if b then Some Call else (if c then Some Conditional else (if d then Some BitTest else None)))) ≡ None → a ≡ false →
        (if c then Some operands.One else (if b then Some operands.One else (if d then Some operands.Triple else None))) ≡ None
    four true b c d h e = absurd (cc e)
    four false true c d h e = absurd (cc h)
    four false false true d h e = absurd (cc h)
    four false false false true h e = absurd (cc h)
    four false false false false h e = refl

branch_takes : operands_of (codes "BR") ≡ Some operands.Branch
unfolding operands_of first_opcode least row_at plain_entry
branch_takes = refl

no_operands : (w : List ℕ) (args : List Argument) (t : Bool) → bytes_eq w (codes "BR") ≡ t → operands_of w ≡ None → branch_kind w args ≡ None → generic_operands_of w ≡ None
no_operands w args true t e h =
    let b : w ≡ codes "BR" = (bytes_eq-Decides w (codes "BR")).0 t in
    let f : operands_of w ≡ Some operands.Branch = rw b branch_takes in
    absurd (cc (e, f))
no_operands w args false t e h = none_generic w args h t

pub no_takes : (w : List ℕ) (args : List Argument) → operands_for w ≡ None → is_operation w args ≡ false
no_takes w args e = ap (λ (o : Option Operands). suits o (map notation args)) e

pub form_takes : (w : List ℕ) (args : List Argument) (form : Operands) → operands_for w ≡ Some form → is_operation w args ≡ takes form (map notation args)
form_takes w args form e = ap (λ (o : Option Operands). suits o (map notation args)) e

no_form : (w : List ℕ) → operands_of w ≡ None → generic_operands_of w ≡ None → operands_for w ≡ None
no_form w e f = ap (λ (o : Option Operands). option_or o (generic_operands_of w)) e ∙ f

pub some_form : (w : List ℕ) (form : Operands) → operands_of w ≡ Some form → operands_for w ≡ Some form
some_form w form e = ap (λ (o : Option Operands). option_or o (generic_operands_of w)) e

with_operands : (w : List ℕ) (args : List Argument) (o : Option Operands) → operands_of w ≡ o → branch_kind w args ≡ None → is_operation w args ≡ true → IsFound w args
with_operands w args None e k h =
    let g : generic_operands_of w ≡ None = no_operands w args (bytes_eq w (codes "BR")) refl e k in
    let f : is_operation w args ≡ false = no_takes w args (no_form w e g) in
    absurd (cc (f, h))
with_operands w args (Some form) e k h = plain_forms w args form e (sym (form_takes w args form (some_form w form e)) ∙ h)

all_found : (w : List ℕ) (args : List Argument) (form : Form) (here : Value) (k : Option BranchKind) → branch_kind w args ≡ k → is_operation w args ≡ true →
    AllFound (elim k as (λ _. List Line) [ None ↦ line w args ∷ [] | Some kind ↦ branch_lines kind w args form here ])
all_found w args form here None e h = (with_operands w args (operands_of w) refl e h, tt)
all_found w args form here (Some kind) e h = branch_found kind w args form here (branch_word w args kind e)

pub are_instructions : (ls : List Line) → AllFound ls → AreInstructions ls (all_lines ls)
are_instructions [] h = tt
are_instructions (l ∷ ls) h = found l.word l.args (instruction l.word l.args) refl h.0 (are_instructions ls h.1)
  where
    found : (word : List ℕ) (args : List Argument) (o : Option RelocatableInsn) → instruction word args ≡ o → IsFound word args → AreInstructions ls (all_lines ls) → AreInstructions (line word args ∷ ls) (listed o ++ all_lines ls)
    found word args None e f r = absurd (cc (e, f.1))
    found word args (Some w) e f r = (instruction_found word args w e, r)

pub operations_are_instructions : (word : List ℕ) (args : List Argument) (form : Form) (here : Value) → is_operation word args ≡ true → AreInstructions (in_full word args form here) (instructions word args form here)
unfolding instructions
operations_are_instructions word args form here h = are_instructions (in_full word args form here) (all_found word args form here (branch_kind word args) refl h)
