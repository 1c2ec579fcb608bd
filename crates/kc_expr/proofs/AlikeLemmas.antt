-- Expressions over answers that are alike.
use Rattle.std.proofs.Common.{◌≡◌, ℕ, ◌+◌, ◌-◌, ◌%◌, Bool, true, false, cond, ◌&&◌, List, refl, sym, ap, subst, ◌∙◌}
use Rattle.std.specs.Prelude.{◌==◌, Ok, Err}
use Rattle.kc_lex.specs.declared.fault.SourceCode.TheVariants as code
use Rattle.kc_expr.specs.declared.values.Base.{Base}
use Rattle.kc_expr.specs.declared.values.Base.TheVariants.{Absolute}
use Rattle.kc_expr.specs.declared.values.Tag.{Tag}
use Rattle.kc_expr.specs.declared.values.Tag.TheVariants.{Memory}
use Rattle.kc_expr.specs.declared.values.Value.{Value}
use Rattle.kc_expr.specs.declared.values.NoValue.TheVariants.{Fault}
use Rattle.kc_expr.specs.declared.expr.Unary.{Unary}
use Rattle.kc_expr.specs.declared.expr.Binary.{Binary}
use Rattle.kc_expr.specs.declared.expr.Binary.TheVariants.{Times, Over, Mod, Shl, Shr, Plus, Minus, Eq, Ne, Lt, Le, Gt, Ge, And, Or, Xor}
use Rattle.kc_expr.specs.Tree.{Tree, Number, Chars, Name, Here, One, Two}
use Rattle.kc_expr.specs.Meaning.{Answer, plain, is_fixed, same_base, unary_number, binary_number, divided, moved, moved_to, distance, on_one, on_two, unary_answer, parts_answer, is_division, divides_by_zero, lesser, by_zero, binary_answer, here, answer_by}
use Rattle.kc_expr.specs.Alike.{AreAlikeValues, AreAlike}

pub alike_same : (a : Answer) → AreAlike a a
alike_same (Ok v) = record { base = refl; tag = refl; number = λ _. refl }
alike_same (Err fault) = refl

pub alike : (a b : Answer) → a ≡ b → AreAlike a b
alike a b e = subst (λ (x : Answer). AreAlike a x) e (alike_same a)

-- a value of this base and this tag
abbrev at : Base → Tag → ℕ → Value
at b t n = record { base = b; tag = t; number = n }

-- a place, wherever it is
pub places_alike : (b : Base) (t : Tag) (m n : ℕ) → is_fixed b ≡ false → AreAlike (Ok (at b t m)) (Ok (at b t n))
places_alike b t m n place = record { base = refl; tag = refl; number = λ fixed. absurd (differ (sym place ∙ fixed)) }
  where
    differ : false ≡ true → ⊥
    differ e = cc

-- the other of two values that are alike, with the base and the tag of the first
other : (v w : Value) → AreAlikeValues v w → at v.base v.tag w.number ≡ w
other v w same = λ i. record { base = same.base i; tag = same.tag i; number = w.number }

-- ---- one operand

one_by : (x : Bool) (op : Unary) (m n : ℕ) → (x ≡ true → m ≡ n) → AreAlike (cond x (Ok (plain (unary_number op m))) (Err (Fault code.NotRelocatable))) (cond x (Ok (plain (unary_number op n))) (Err (Fault code.NotRelocatable)))
one_by true op m n same = alike (Ok (plain (unary_number op m))) (Ok (plain (unary_number op n))) (ap (λ k. Ok (plain (unary_number op k))) (same refl))
one_by false op m n same = refl

one_alike : (op : Unary) (v w : Value) → AreAlikeValues v w → AreAlike (on_one op v) (on_one op w)
unfolding on_one
one_alike op v w same = subst (λ (u : Value). AreAlike (on_one op v) (on_one op u)) (other v w same) (one_by (is_fixed v.base) op v.number w.number same.number)

pub unary_alike : (op : Unary) (a b : Answer) → AreAlike a b → AreAlike (unary_answer op a) (unary_answer op b)
unary_alike op (Ok v) (Ok w) same = one_alike op v w same
unary_alike op (Ok v) (Err d) same = absurd same
unary_alike op (Err c) (Ok w) same = absurd same
unary_alike op (Err c) (Err d) same = same

-- ---- two operands

moved_to_alike : (op : Binary) (b : Base) (t : Tag) (n k m : ℕ) → is_fixed b ≡ false → AreAlike (moved_to op (at b t n) m) (moved_to op (at b t k) m)
moved_to_alike Times b t n k m place = refl
moved_to_alike Over b t n k m place = refl
moved_to_alike Mod b t n k m place = refl
moved_to_alike Shl b t n k m place = refl
moved_to_alike Shr b t n k m place = refl
moved_to_alike Plus b t n k m place = places_alike b t ((n + m) % 65536) ((k + m) % 65536) place
moved_to_alike Minus b t n k m place = refl
moved_to_alike Eq b t n k m place = refl
moved_to_alike Ne b t n k m place = refl
moved_to_alike Lt b t n k m place = refl
moved_to_alike Le b t n k m place = refl
moved_to_alike Gt b t n k m place = refl
moved_to_alike Ge b t n k m place = refl
moved_to_alike And b t n k m place = refl
moved_to_alike Or b t n k m place = refl
moved_to_alike Xor b t n k m place = refl

moved_alike : (op : Binary) (b : Base) (t : Tag) (n k m : ℕ) → is_fixed b ≡ false → AreAlike (moved op (at b t n) m) (moved op (at b t k) m)
moved_alike Times b t n k m place = refl
moved_alike Over b t n k m place = refl
moved_alike Mod b t n k m place = refl
moved_alike Shl b t n k m place = refl
moved_alike Shr b t n k m place = refl
moved_alike Plus b t n k m place = places_alike b t ((n + m) % 65536) ((k + m) % 65536) place
moved_alike Minus b t n k m place = places_alike b t ((n + 65536 - m) % 65536) ((k + 65536 - m) % 65536) place
moved_alike Eq b t n k m place = refl
moved_alike Ne b t n k m place = refl
moved_alike Lt b t n k m place = refl
moved_alike Le b t n k m place = refl
moved_alike Gt b t n k m place = refl
moved_alike Ge b t n k m place = refl
moved_alike And b t n k m place = refl
moved_alike Or b t n k m place = refl
moved_alike Xor b t n k m place = refl

apart_by : (x : Bool) (m n : ℕ) (t : Tag) → AreAlike (cond x (Ok (at Absolute t m)) (Err (Fault code.NotRelocatable))) (cond x (Ok (at Absolute t n)) (Err (Fault code.NotRelocatable)))
apart_by true m n t = places_alike Absolute t m n refl
apart_by false m n t = refl

distance_alike : (op : Binary) (b c : Base) (t u : Tag) (m n k j : ℕ) → AreAlike (distance op (at b t m) (at c u n)) (distance op (at b t k) (at c u j))
distance_alike Times b c t u m n k j = refl
distance_alike Over b c t u m n k j = refl
distance_alike Mod b c t u m n k j = refl
distance_alike Shl b c t u m n k j = refl
distance_alike Shr b c t u m n k j = refl
distance_alike Plus b c t u m n k j = refl
distance_alike Minus b c t u m n k j = apart_by (same_base b c) ((m + 65536 - n) % 65536) ((k + 65536 - j) % 65536) Memory
distance_alike Eq b c t u m n k j = refl
distance_alike Ne b c t u m n k j = refl
distance_alike Lt b c t u m n k j = refl
distance_alike Le b c t u m n k j = refl
distance_alike Gt b c t u m n k j = refl
distance_alike Ge b c t u m n k j = refl
distance_alike And b c t u m n k j = refl
distance_alike Or b c t u m n k j = refl
distance_alike Xor b c t u m n k j = refl

two_by : (x y : Bool) (op : Binary) (b c : Base) (t u : Tag) (m n k j : ℕ) → is_fixed b ≡ x → is_fixed c ≡ y → (x ≡ true → m ≡ k) → (y ≡ true → n ≡ j)
    → AreAlike (cond x (cond y (divided (binary_number op m n)) (moved_to op (at c u n) m)) (cond y (moved op (at b t m) n) (distance op (at b t m) (at c u n))))
    (cond x (cond y (divided (binary_number op k j)) (moved_to op (at c u j) k)) (cond y (moved op (at b t k) j) (distance op (at b t k) (at c u j))))
two_by true true op b c t u m n k j eb ec first second = alike (divided (binary_number op m n)) (divided (binary_number op k j)) (λ i. divided (binary_number op (first refl i) (second refl i)))
two_by true false op b c t u m n k j eb ec first second = subst (λ (f : ℕ). AreAlike (moved_to op (at c u n) m) (moved_to op (at c u j) f)) (first refl) (moved_to_alike op c u n j m ec)
two_by false true op b c t u m n k j eb ec first second = subst (λ (f : ℕ). AreAlike (moved op (at b t m) n) (moved op (at b t k) f)) (second refl) (moved_alike op b t m k n eb)
two_by false false op b c t u m n k j eb ec first second = distance_alike op b c t u m n k j

two_alike : (op : Binary) (a c b d : Value) → AreAlikeValues a c → AreAlikeValues b d → AreAlike (on_two op a b) (on_two op c d)
unfolding on_two
two_alike op a c b d first second =
    subst (λ (v : Value). AreAlike (on_two op a b) (on_two op v d)) (other a c first)
    (subst (λ (v : Value). AreAlike (on_two op a b) (on_two op (at a.base a.tag c.number) v)) (other b d second)
    (two_by (is_fixed a.base) (is_fixed b.base) op a.base b.base a.tag b.tag a.number b.number c.number d.number refl refl first.number second.number))

parts_alike : (op : Binary) (a c b d : Answer) → AreAlike a c → AreAlike b d → AreAlike (parts_answer op a b) (parts_answer op c d)
parts_alike op (Ok a) (Ok c) (Ok b) (Ok d) first second = two_alike op a c b d first second
parts_alike op (Ok a) (Ok c) (Ok b) (Err e) first second = absurd second
parts_alike op (Ok a) (Ok c) (Err e) (Ok d) first second = absurd second
parts_alike op (Ok a) (Ok c) (Err e) (Err f) first second = second
parts_alike op (Ok a) (Err g) b d first second = absurd first
parts_alike op (Err e) (Ok c) b d first second = absurd first
parts_alike op (Err e) (Err g) (Ok b) (Ok d) first second = first
parts_alike op (Err e) (Err g) (Ok b) (Err f) first second = absurd second
parts_alike op (Err e) (Err g) (Err f) (Ok d) first second = absurd second
parts_alike op (Err e) (Err g) (Err f) (Err h) first second = λ i. lesser (first i) (second i)

zero_alike : (a b : Answer) → AreAlike a b → AreAlike (by_zero a) (by_zero b)
zero_alike (Ok v) (Ok w) same = refl
zero_alike (Ok v) (Err d) same = absurd same
zero_alike (Err c) (Ok w) same = absurd same
zero_alike (Err c) (Err d) same = ap (λ e. lesser e (Fault code.DivisionByZero)) same

zero_by : (x y : Bool) (m n : ℕ) → (y ≡ true → m ≡ n) → (x && y && (m == 0)) ≡ (x && y && (n == 0))
zero_by true true m n same = ap (λ k. k == 0) (same refl)
zero_by true false m n same = refl
zero_by false true m n same = refl
zero_by false false m n same = refl

divides_alike : (op : Binary) (a b : Answer) → AreAlike a b → divides_by_zero op a ≡ divides_by_zero op b
divides_alike op (Ok v) (Ok w) same = zero_by (is_division op) (is_fixed v.base) v.number w.number same.number ∙ ap (λ b. is_division op && is_fixed b && (w.number == 0)) same.base
divides_alike op (Ok v) (Err d) same = absurd same
divides_alike op (Err c) (Ok w) same = absurd same
divides_alike op (Err c) (Err d) same = refl

either : (x y : Bool) (a b c d : Answer) → x ≡ y → AreAlike a c → AreAlike b d → AreAlike (cond x a b) (cond y c d)
either true true a b c d e first second = first
either true false a b c d e first second = absurd cc
either false true a b c d e first second = absurd cc
either false false a b c d e first second = second

pub binary_alike : (op : Binary) (a c b d : Answer) → AreAlike a c → AreAlike b d → AreAlike (binary_answer op a b) (binary_answer op c d)
unfolding binary_answer
binary_alike op a c b d first second = either (divides_by_zero op b) (divides_by_zero op d) (by_zero a) (parts_answer op a b) (by_zero c) (parts_answer op c d) (divides_alike op b d second) (zero_alike a c first) (parts_alike op a c b d first second)

-- ---- the whole expression

pub expressions_alike : (look at : List ℕ → Answer) → ((q : List ℕ) → AreAlike (look q) (at q)) → (x : Tree) → AreAlike (answer_by look x) (answer_by at x)
unfolding answer_by
expressions_alike look at same (Number n) = alike_same (answer_by look (Number n))
expressions_alike look at same (Chars cs) = alike_same (answer_by look (Chars cs))
expressions_alike look at same (Name n) = same n
expressions_alike look at same Here = same here
expressions_alike look at same (One op e) = unary_alike op (answer_by look e) (answer_by at e) (expressions_alike look at same e)
expressions_alike look at same (Two op a b) = binary_alike op (answer_by look a) (answer_by at a) (answer_by look b) (answer_by at b) (expressions_alike look at same a) (expressions_alike look at same b)
