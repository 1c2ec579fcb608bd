-- Where the operands have no fault, pointers are even.
use Rattle.std.proofs.Common.{◌≡◌, ℕ, ◌-◌, ◌%◌, Bool, true, false, List, [], ◌∷◌, length, map, refl, sym, ap, ◌∙◌, subst, Option, Some, None, arith, ◌⊎◌, inl, inr}
use Rattle.std.specs.Prelude.{◌==◌, ◌||◌, not, if◌then◌else◌, codes}
use Rattle.std.specs.Option.{option_or}
use Rattle.std.specs.Str.{bytes_eq}
use Rattle.std.proofs.lemmas.Bool.Decides.{Decides-eqb}
use Rattle.std.proofs.lemmas.Slice.Eq.{bytes_eq-Decides}
use Rattle.kc_expr.specs.declared.values.Base.{Base}
use Rattle.kc_expr.specs.declared.values.Base.TheVariants.{Fixed, Absolute, Piece, External}
use Rattle.kc_expr.specs.declared.values.Value.{Value}
use Rattle.kc_isa.specs.declared.table.Shape.{Shape}
use Rattle.kc_isa.specs.declared.table.Shape.TheVariants as shapes
use Rattle.kc_lex.specs.declared.words.Operands.{Operands}
use Rattle.kc_lex.specs.declared.words.Operands.TheVariants as operands
use Rattle.kc_lex.specs.Words.{is_one_of, operands_of, is_generic_conditional, generic_operands_of, operands_for}
use Rattle.kc_lex.specs.Takes.{is_plain, is_immediate, takes}
use Rattle.kc_obj_module.specs.Numbers.{Bases}
use Rattle.kc_asm_encode.specs.Filling.{base_address, address}
use Rattle.kc_asm_encode.specs.declared.argument.Argument.{Argument}
use Rattle.kc_asm_encode.specs.declared.argument.Argument.TheVariants.{Plain, Immediate, Indirect, Increment, Indexed}
use Rattle.kc_branch.specs.declared.piece.Form.{Form}
use Rattle.kc_branch.specs.declared.piece.Form.TheVariants.{First, Second, Third}
use Rattle.kc_branch.specs.declared.piece.BranchKind.{BranchKind}
use Rattle.kc_branch.specs.declared.piece.BranchKind.TheVariants.{Jump, Call, Conditional, BitTest}
use Rattle.kc_asm_encode.specs.declared.word.RelocatableInsn.{RelocatableInsn}
use Rattle.kc_asm_encode.specs.Values.{or_zero, is_external, is_direct, is_short, argument}
use Rattle.kc_asm_encode.specs.Sources.{plain_source, indexed_source, source}
use Rattle.kc_asm_encode.specs.Takes.{notation, is_operation}
use Rattle.kc_asm_encode.specs.Opcodes.{operand_count}
use Rattle.kc_asm_encode.specs.Branches.{Line, line, branch_kind, branch_lines, in_full}
use Rattle.kc_asm_encode.specs.Instructions.{operand_for, instructions}
use Rattle.kc_asm_encode.specs.Faults.{pointer_fault, source_fault, operands_fault, fault_of}
use Rattle.kc_asm_encode.specs.Suits.{IsEven, EachOf}
use Rattle.kc_asm_encode.proofs.Found.{IsLaid, laid_count, both}
use Rattle.kc_asm_encode.proofs.Rows
use Rattle.kc_asm_encode.proofs.Rows.{has_one_shape, branch_is_br}
use Rattle.kc_asm_encode.proofs.Exists.{one_of}
use Rattle.kc_asm_encode.proofs.Operations.{single, IsWordOf, branch_word, no_takes, form_takes}
use Rattle.kc_asm_encode.proofs.Lengths.{shape_of, sjmp, scall, ljmp, lcall, jump_shape, inverse_shape, test_shape, inverse_test_shape}
use Rattle.kc_asm_encode.proofs.Evens.{EachLine, each_line}

abbrev pointer_code : Bool → Bool → Option ℕ
pointer_code even external = if not even || external then Some 12 else None

no_pointer_fault : (odd external : Bool) → pointer_code odd external ≡ None → (odd ≡ true) × (external ≡ false)
no_pointer_fault true true h = absurd (cc h)
no_pointer_fault true false h = (refl, refl)
no_pointer_fault false e h = absurd (cc h)

even_base : (b : Bases) (base : Base) (n : ℕ) → ((p : ℕ) → b.piece p % 2 ≡ 0) → n % 2 ≡ 0 → is_external base ≡ false → base_address b base n % 2 ≡ 0
even_base b Fixed n h k e = k
even_base b Absolute n h k e = k
even_base b (Piece p) n h k e = let q : b.piece p % 2 ≡ 0 = h p in omega arith
even_base b (External i) n h k e = absurd (cc e)

pointer_even : (b : Bases) (r : Option Value) → ((p : ℕ) → b.piece p % 2 ≡ 0) → pointer_fault r ≡ None → address b (or_zero r) % 2 ≡ 0
pointer_even b None h f = refl
pointer_even b (Some v) h f =
    let g : ((v.number % 2 == 0) ≡ true) × (is_external v.base ≡ false) = no_pointer_fault (v.number % 2 == 0) (is_external v.base) f in
    even_base b v.base v.number h ((Decides-eqb (v.number % 2) 0).0 g.0) g.1

plain_even : (b : Bases) (x : Option Value) (t : Bool) → is_direct x ≡ t → IsEven b (plain_source x)
plain_even b x true e = rw e tt
plain_even b x false e = rw e refl

indexed_even : (b : Bases) (x r : Option Value) (t : Bool) → is_short x ≡ t → address b (or_zero r) % 2 ≡ 0 → IsEven b (indexed_source x r)
indexed_even b x r true e h = rw e h
indexed_even b x r false e h = rw e h

source_even : (b : Bases) (a : Argument) → ((p : ℕ) → b.piece p % 2 ≡ 0) → source_fault a ≡ None → IsEven b (source a)
source_even b (Plain x) h f = plain_even b x (is_direct x) refl
source_even b (Immediate x) h f = tt
source_even b (Indirect r) h f = pointer_even b r h f
source_even b (Increment r) h f = pointer_even b r h f
source_even b (Indexed x r) h f = indexed_even b x r (is_short x) refl (pointer_even b r h f)

operand_even : (b : Bases) (shape : Shape) (args : List Argument) → ((p : ℕ) → b.piece p % 2 ≡ 0) → source_fault (argument args (operand_count shape - 1)) ≡ None → IsEven b (operand_for shape args)
operand_even b shapes.Four args h f = source_even b (argument args 0) h f
operand_even b shapes.FourOne args h f = source_even b (argument args 1) h f
operand_even b shapes.FourTwo args h f = source_even b (argument args 2) h f
operand_even b shapes.Exchange args h f = source_even b (argument args 1) h f
operand_even b shape args h f = tt

-- ---- shapes without S

abbrev IsSourceless : Shape → Type 0
IsSourceless shapes.Four = ⊥
IsSourceless shapes.FourOne = ⊥
IsSourceless shapes.FourTwo = ⊥
IsSourceless shapes.Exchange = ⊥
IsSourceless shape = Unit {0}

sourceless_even : (b : Bases) (shape : Shape) (args : List Argument) → IsSourceless shape → IsEven b (operand_for shape args)
sourceless_even b shapes.Four args s = absurd s
sourceless_even b shapes.FourOne args s = absurd s
sourceless_even b shapes.FourTwo args s = absurd s
sourceless_even b shapes.Exchange args s = absurd s
sourceless_even b shape args s = tt

abbrev HasNoSource : List ℕ → Type 0
HasNoSource word = (shape : Shape) × (IsSourceless shape × (has_one_shape shape word ≡ true))

abbrev IsHarmless : List ℕ → List Argument → Type 0
IsHarmless word args = (source_fault (argument args (length args - 1)) ≡ None) ⊎ HasNoSource word

laid_even : (b : Bases) → ((p : ℕ) → b.piece p % 2 ≡ 0) → (word : List ℕ) (args : List Argument) (w : RelocatableInsn) → IsHarmless word args → IsLaid word args w → IsEven b w.operand
laid_even b h word args w (inl f) l =
    let g : source_fault (argument args (operand_count l.row.shape - 1)) ≡ None = ap (λ (n : ℕ). source_fault (argument args (n - 1))) (laid_count word args w l) ∙ f in
    subst (λ (v : RelocatableInsn). IsEven b v.operand) l.is (operand_even b l.row.shape args h g)
laid_even b h word args w (inr s) l =
    let n : l.row.name ≡ word = (bytes_eq-Decides l.row.name word).0 (both (bytes_eq l.row.name word) _ l.fits).0 in
    let e : l.row.shape ≡ s.0 = (shape_of word s.0 l.opcode l.signed l.row s.1.1 l.below l.at n).1 in
    subst (λ (v : RelocatableInsn). IsEven b v.operand) l.is (sourceless_even b l.row.shape args (subst (λ (x : Shape). IsSourceless x) (sym e) s.1.0))

-- ---- the last operand

plain_none : (a : Argument) → is_plain (notation a) ≡ true → source_fault a ≡ None
plain_none (Plain x) h = refl
plain_none (Immediate x) h = absurd (cc h)
plain_none (Indirect r) h = absurd (cc h)
plain_none (Increment r) h = absurd (cc h)
plain_none (Indexed x r) h = absurd (cc h)

immediate_none : (a : Argument) → is_immediate (notation a) ≡ true → source_fault a ≡ None
immediate_none (Immediate x) h = refl
immediate_none (Plain x) h = absurd (cc h)
immediate_none (Indirect r) h = absurd (cc h)
immediate_none (Increment r) h = absurd (cc h)
immediate_none (Indexed x r) h = absurd (cc h)

count_none : (a : Argument) → (is_plain (notation a) || is_immediate (notation a)) ≡ true → source_fault a ≡ None
count_none (Plain x) h = refl
count_none (Immediate x) h = refl
count_none (Indirect r) h = absurd (cc h)
count_none (Increment r) h = absurd (cc h)
count_none (Indexed x r) h = absurd (cc h)

abbrev last : List Argument → Argument
last args = argument args (length args - 1)

last_fault : (form : Operands) (args : List Argument) → takes form (map notation args) ≡ true → operands_fault form args ≡ None → (form ≡ operands.Branch → ⊥) → source_fault (last args) ≡ None
last_fault form [] h f n = refl
last_fault operands.One (a ∷ []) h f n = plain_none a h
last_fault operands.Source (a ∷ []) h f n = f
last_fault operands.Place (a ∷ []) h f n = f
last_fault operands.Branch (a ∷ []) h f n = absurd (n refl)
last_fault operands.Key (a ∷ []) h f n = immediate_none a h
last_fault form (a ∷ []) h f n = absurd (cc h)
last_fault operands.Two (a ∷ b ∷ []) h f n = f
last_fault operands.TwoOrThree (a ∷ b ∷ []) h f n = f
last_fault operands.Store (a ∷ b ∷ []) h f n = f
last_fault operands.Exchange (a ∷ b ∷ []) h f n = f
last_fault operands.Shift (a ∷ b ∷ []) h f n = count_none b (both _ _ h).1
last_fault operands.Pair (a ∷ b ∷ []) h f n = plain_none b (both _ _ h).1
last_fault form (a ∷ b ∷ []) h f n = absurd (cc h)
last_fault operands.TwoOrThree (a ∷ b ∷ c ∷ []) h f n = f
last_fault operands.Triple (a ∷ b ∷ c ∷ []) h f n = plain_none c (both _ _ h).1
last_fault operands.Table (a ∷ b ∷ c ∷ []) h f n = immediate_none c (both _ _ h).1
last_fault form (a ∷ b ∷ c ∷ []) h f n = absurd (cc h)
last_fault form (a ∷ b ∷ c ∷ d ∷ rest) h f n = absurd (cc h)

-- BR alone takes a pointer that is no S
not_branch : (w : List ℕ) → bytes_eq w (codes "BR") ≡ false → operands_of w ≡ Some operands.Branch → ⊥
not_branch w t e = cc (t, branch_is_br w e)

not_generic : (w : List ℕ) → generic_operands_of w ≡ Some operands.Branch → ⊥
unfolding generic_operands_of
not_generic w e = three (is_generic_conditional w) (bytes_eq w (codes "CALL")) (is_one_of Rows.tested_words w) e
  where
    three : (a b c : Bool) → (if a then Some operands.One else (if b then Some operands.One else (if c then Some operands.Triple else None))) ≡ Some operands.Branch → ⊥
    three true b c h = absurd (cc h)
    three false true c h = absurd (cc h)
    three false false true h = absurd (cc h)
    three false false false h = absurd (cc h)

form_at : (w : List ℕ) (form : Operands) (o : Option Operands) → operands_of w ≡ o → option_or o (generic_operands_of w) ≡ Some form →
    (operands_of w ≡ Some form) ⊎ (generic_operands_of w ≡ Some form)
form_at w form None e h = inr h
form_at w form (Some f) e h = inl (e ∙ h)

no_branch : (w : List ℕ) (form : Operands) → bytes_eq w (codes "BR") ≡ false → (operands_of w ≡ Some form) ⊎ (generic_operands_of w ≡ Some form) → form ≡ operands.Branch → ⊥
no_branch w form t (inl e) f = not_branch w t (e ∙ ap (λ (o : Operands). Some o) f)
no_branch w form t (inr e) f = not_generic w (e ∙ ap (λ (o : Operands). Some o) f)

fault_it : (w : List ℕ) (args : List Argument) (form : Operands) → operands_for w ≡ Some form → fault_of w args ≡ operands_fault form args
unfolding fault_of
fault_it w args form e = rw (e, fault_of) refl

harmless_form : (w : List ℕ) (args : List Argument) (o : Option Operands) → operands_for w ≡ o → is_operation w args ≡ true → fault_of w args ≡ None → bytes_eq w (codes "BR") ≡ false → IsHarmless w args
harmless_form w args None e h f t = let g : is_operation w args ≡ false = no_takes w args e in absurd (cc (g, h))
harmless_form w args (Some form) e h f t =
    inl (last_fault form args (sym (form_takes w args form e) ∙ h) (sym (fault_it w args form e) ∙ f) (no_branch w form t (form_at w form (operands_of w) refl e)))

harmless : (w : List ℕ) (args : List Argument) (t : Bool) → bytes_eq w (codes "BR") ≡ t → is_operation w args ≡ true → fault_of w args ≡ None → IsHarmless w args
harmless w args true t h f = inr (shapes.One, (tt, one_of (has_one_shape shapes.One) Rows.branch_words w Rows.branch_shape (single w (codes "BR") t)))
harmless w args false t h f = harmless_form w args (operands_for w) refl h f t

branch_harmless : (kind : BranchKind) (w : List ℕ) (args : List Argument) (form : Form) (here : Value) → IsWordOf kind w → EachLine IsHarmless (branch_lines kind w args form here)
branch_harmless Jump w args First here h = (inr (shapes.Near, (tt, sjmp)), tt)
branch_harmless Jump w args Second here h = (inr (shapes.Far, (tt, ljmp)), tt)
branch_harmless Jump w args Third here h = (inr (shapes.Far, (tt, ljmp)), tt)
branch_harmless Call w args First here h = (inr (shapes.Near, (tt, scall)), tt)
branch_harmless Call w args Second here h = (inr (shapes.Far, (tt, lcall)), tt)
branch_harmless Call w args Third here h = (inr (shapes.Far, (tt, lcall)), tt)
branch_harmless Conditional w args First here h = (inr (shapes.Conditional, (tt, jump_shape w h)), tt)
branch_harmless Conditional w args Second here h = (inr (shapes.Conditional, (tt, inverse_shape w h)), (inr (shapes.Near, (tt, sjmp)), tt))
branch_harmless Conditional w args Third here h = (inr (shapes.Conditional, (tt, inverse_shape w h)), (inr (shapes.Far, (tt, ljmp)), tt))
branch_harmless BitTest w args First here h = (inr (shapes.BitTest, (tt, test_shape w h)), tt)
branch_harmless BitTest w args Second here h = (inr (shapes.BitTest, (tt, inverse_test_shape w h)), (inr (shapes.Near, (tt, sjmp)), tt))
branch_harmless BitTest w args Third here h = (inr (shapes.BitTest, (tt, inverse_test_shape w h)), (inr (shapes.Far, (tt, ljmp)), tt))

full_harmless : (w : List ℕ) (args : List Argument) (form : Form) (here : Value) (k : Option BranchKind) → branch_kind w args ≡ k → is_operation w args ≡ true → fault_of w args ≡ None →
    EachLine IsHarmless (elim k as (λ _. List Line) [ None ↦ line w args ∷ [] | Some kind ↦ branch_lines kind w args form here ])
full_harmless w args form here None e h f = (harmless w args (bytes_eq w (codes "BR")) refl h f, tt)
full_harmless w args form here (Some kind) e h f = branch_harmless kind w args form here (branch_word w args kind e)

pub pointers_are_even : (b : Bases) (word : List ℕ) (args : List Argument) (form : Form) (here : Value) → is_operation word args ≡ true → fault_of word args ≡ None → ((p : ℕ) → b.piece p % 2 ≡ 0) →
    EachOf (λ w. IsEven b w.operand) (instructions word args form here)
unfolding instructions
pointers_are_even b word args form here h f even =
    each_line (λ (w : RelocatableInsn). IsEven b w.operand) IsHarmless (laid_even b even) (in_full word args form here) (full_harmless word args form here (branch_kind word args) refl h f)
