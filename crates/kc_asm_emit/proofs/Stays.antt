-- How far a statement goes on is the same over looks that are alike.
use Rattle.std.proofs.Common.{◌≡◌, ℕ, ◌+◌, Bool, true, false, cond, List, [], ◌∷◌, length, map, refl, sym, ap, ◌∙◌}
use Rattle.std.specs.Prelude.{◌==◌, Some, None, Ok, Err}
use Rattle.kc_expr.specs.declared.values.Base.{Base}
use Rattle.kc_expr.specs.declared.values.Base.TheVariants.{Fixed, Absolute, Piece, External}
use Rattle.kc_expr.specs.declared.values.Tag.{Tag}
use Rattle.kc_expr.specs.declared.values.Value.{Value}
use Rattle.kc_expr.specs.Tree.{Tree, Number, Chars, Name, Here, One, Two}
use Rattle.kc_expr.specs.Meaning.{Answer, answer_by, is_fixed}
use Rattle.kc_expr.specs.Alike.{AreAlikeValues, AreAlike, AllAlike}
use Rattle.kc_expr.proofs.AlikeLemmas.{expressions_alike}
use Rattle.kc_source_statement.specs.Trees.{ItemTree, ArgTree, ActionTree}
use Rattle.kc_source_statement.specs.Trees as trees
use Rattle.kc_asm_encode.specs.declared.relocatable_byte.RelocatableByte.{RelocatableByte}
use Rattle.kc_asm_encode.specs.declared.relocatable_byte.RelocatableByte.TheVariants.{Plain}
use Rattle.kc_asm_encode.specs.declared.argument.Argument.TheVariants as arg
use Rattle.kc_branch.specs.declared.piece.Form.{Form}
use Rattle.kc_asm_encode.specs.Instructions.{instructions}
use Rattle.kc_asm_encode.specs.Values.{or_zero}
use Rattle.kc_asm_encode.specs.RelocatableBytes.{byte_of, word_of, all_relocatable_bytes}
use Rattle.kc_asm_encode.specs.Blurred.{blurred_value, blurred}
use Rattle.kc_asm_encode.specs.Laws.{LengthStays}
use Rattle.kc_asm_emit.specs.declared.extent.Extent.TheVariants as extent
use Rattle.kc_asm_emit.specs.Arguments.{Look, value_in, value_of, fixed_in, argument, arguments}
use Rattle.kc_asm_emit.specs.Content.{long_relocatables, item_relocatables, item_count, data_relocatables, data_count, reserved, upto, content, extent_of}
use Rattle.std.proofs.lemmas.List.{length-append, length-map}

-- ---- items

long_count : (look : Look) (x : Tree) → length (long_relocatables look x) ≡ 4
long_count look (Number n) = refl
long_count look (Chars cs) = refl
long_count look (Name n) = refl
long_count look Here = refl
long_count look (One op e) = refl
long_count look (Two op a b) = refl

value_by : (byte word : Bool) (a b c : List RelocatableByte) → length a ≡ 1 → length b ≡ 2 → length c ≡ 4
    → length (cond byte a (cond word b c)) ≡ cond byte 1 (cond word 2 4)
value_by true word a b c first second third = first
value_by false true a b c first second third = second
value_by false false a b c first second third = third

counted_item : (look : Look) (size : ℕ) (item : ItemTree) → length (item_relocatables look size item) ≡ item_count size item
counted_item look size (trees.Chars cs) = length-map cs Plain
counted_item look size (trees.Value x) =
    let v = or_zero (value_of look x) in value_by (size == 1) (size == 2) (byte_of v ∷ []) (word_of 0 v) (long_relocatables look x) refl refl (long_count look x)

pub counted_data : (look : Look) (size : ℕ) (items : List ItemTree) → length (data_relocatables look size items) ≡ data_count size items
counted_data look size [] = refl
counted_data look size (i ∷ is) =
    length-append (item_relocatables look size i) (data_relocatables look size is)
    ∙ ap (λ n. n + length (data_relocatables look size is)) (counted_item look size i)
    ∙ ap (λ n. item_count size i + n) (counted_data look size is)

-- ---- fixed numbers

at : Base → Tag → ℕ → Value
at b t n = record { base = b; tag = t; number = n }

fixed_by : (x : Bool) (m n : ℕ) → (x ≡ true → m ≡ n) → cond x (Some m) None ≡ cond x (Some n) None
fixed_by true m n same = ap Some (same refl)
fixed_by false m n same = refl

fixed_alike : (a b : Answer) → AreAlike a b → fixed_in a ≡ fixed_in b
fixed_alike (Ok v) (Ok w) same = fixed_by (is_fixed v.base) v.number w.number same.number ∙ ap (λ b. cond (is_fixed b) (Some w.number) None) same.base
fixed_alike (Ok v) (Err d) same = absurd same
fixed_alike (Err c) (Ok w) same = absurd same
fixed_alike (Err c) (Err d) same = refl

-- ---- operands

blurred_at : (b : Base) (t : Tag) (m n : ℕ) → (is_fixed b ≡ true → m ≡ n)
    → blurred_value (Some (record { base = b; tag = t; number = m })) ≡ blurred_value (Some (record { base = b; tag = t; number = n }))
blurred_at Fixed t m n same = λ i. Some (record { base = Fixed; tag = t; number = same refl i })
blurred_at Absolute t m n same = refl
blurred_at (Piece p) t m n same = refl
blurred_at (External e) t m n same = refl

blurred_values : (v w : Value) → AreAlikeValues v w → blurred_value (Some v) ≡ blurred_value (Some w)
blurred_values v w same =
    blurred_at v.base v.tag v.number w.number same.number
    ∙ (λ i. blurred_value (Some (record { base = same.base i; tag = same.tag i; number = w.number })))

blurred_alike : (a b : Answer) → AreAlike a b → blurred_value (value_in a) ≡ blurred_value (value_in b)
blurred_alike (Ok v) (Ok w) same = blurred_values v w same
blurred_alike (Ok v) (Err d) same = absurd same
blurred_alike (Err c) (Ok w) same = absurd same
blurred_alike (Err c) (Err d) same = refl

values_alike : (look other : Look) → AllAlike look other → (x : Tree) → blurred_value (value_of look x) ≡ blurred_value (value_of other x)
values_alike look other same x = blurred_alike (answer_by look x) (answer_by other x) (expressions_alike look other same x)

argument_alike : (look other : Look) → AllAlike look other → (a : ArgTree) → blurred (argument look a) ≡ blurred (argument other a)
argument_alike look other same (trees.Plain x) = ap arg.Plain (values_alike look other same x)
argument_alike look other same (trees.Immediate x) = ap arg.Immediate (values_alike look other same x)
argument_alike look other same (trees.Indirect r) = ap arg.Indirect (values_alike look other same r)
argument_alike look other same (trees.Increment r) = ap arg.Increment (values_alike look other same r)
argument_alike look other same (trees.Indexed x r) = λ i. arg.Indexed (values_alike look other same x i) (values_alike look other same r i)

arguments_alike : (look other : Look) → AllAlike look other → (args : List ArgTree) → map blurred (arguments look args) ≡ map blurred (arguments other args)
arguments_alike look other same [] = refl
arguments_alike look other same (a ∷ args) = λ i. argument_alike look other same a i ∷ arguments_alike look other same args i

operation_stays : LengthStays → (look other : Look) → AllAlike look other → (form : Form) (here there : Value) (word : List ℕ) (args : List ArgTree)
    → length (all_relocatable_bytes (instructions word (arguments look args) form here)) ≡ length (all_relocatable_bytes (instructions word (arguments other args) form there))
operation_stays stays look other same form here there word args =
    stays word (arguments look args) form here there
    ∙ ap (λ xs. length (all_relocatable_bytes (instructions word xs form there))) (arguments_alike look other same args)
    ∙ sym (stays word (arguments other args) form there there)

-- ---- statements

pub extent_stays : LengthStays → (look other : Look) → AllAlike look other → (form : Form) (here there : Value) (action : ActionTree)
    → extent_of (content look form here action) ≡ extent_of (content other form there action)
extent_stays stays look other same form here there (trees.Define size items) = ap extent.Bytes (counted_data look size items ∙ sym (counted_data other size items))
extent_stays stays look other same form here there (trees.Reserve size count) =
    ap (λ n. extent_of (reserved size n)) (fixed_alike (answer_by look count) (answer_by other count) (expressions_alike look other same count))
extent_stays stays look other same form here there (trees.Org x) =
    ap (λ n. extent_of (upto n)) (fixed_alike (answer_by look x) (answer_by other x) (expressions_alike look other same x))
extent_stays stays look other same form here there trees.Even = refl
extent_stays stays look other same form here there (trees.Operation word args) = ap extent.Bytes (operation_stays stays look other same form here there word args)
extent_stays stays look other same form here there trees.Bare = refl
extent_stays stays look other same form here there (trees.Module name stack) = refl
extent_stays stays look other same form here there (trees.Cseg at) = refl
extent_stays stays look other same form here there (trees.Dseg at) = refl
extent_stays stays look other same form here there (trees.Rseg at) = refl
extent_stays stays look other same form here there (trees.Sseg size) = refl
extent_stays stays look other same form here there (trees.Public names) = refl
extent_stays stays look other same form here there (trees.Extrn names) = refl
extent_stays stays look other same form here there (trees.Equ name x) = refl
extent_stays stays look other same form here there (trees.Set name x) = refl
extent_stays stays look other same form here there trees.End = refl
