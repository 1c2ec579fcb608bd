-- Where no name has a fault that is reported elsewhere, no expression has.
use Rattle.std.proofs.Common.{◌≡◌, ℕ, Bool, true, false, cond, List, [], ◌∷◌, refl, sym, ap, ◌∙◌}
use Rattle.std.specs.Prelude.{Option, Some, None, Ok, Err, nat_lt, ◌^◌}
use Rattle.std.specs.FinMap.{get}
use Rattle.kc_lex.specs.declared.fault.SourceCode.TheVariants as code
use Rattle.kc_expr.specs.declared.values.Value.{Value}
use Rattle.kc_expr.specs.declared.values.NoValue.{NoValue}
use Rattle.kc_expr.specs.declared.values.NoValue.TheVariants.{Fault, ReportedElsewhere}
use Rattle.kc_expr.specs.declared.expr.Unary.{Unary}
use Rattle.kc_expr.specs.declared.expr.Binary.{Binary}
use Rattle.kc_expr.specs.declared.expr.Binary.TheVariants as binary
use Rattle.kc_expr.specs.Tree.{Tree, Number, Chars, Name, Here, One, Two}
use Rattle.kc_expr.specs.Names.{NameMap}
use Rattle.kc_expr.specs.Meaning.{Answer, answer_by, name_answer, found, here, chars_answer, plain, is_fixed, binary_number, divided, moved, moved_to, distance, same_base, on_one, on_two, unary_answer, parts_answer, lesser, divides_by_zero, by_zero, binary_answer}

abbrev pub is_elsewhere : NoValue → Bool
is_elsewhere (Fault c) = false
is_elsewhere ReportedElsewhere = true

abbrev pub is_reported : Answer → Bool
is_reported (Ok v) = false
is_reported (Err fault) = is_elsewhere fault

abbrev pub AreUnreported : (List ℕ → Answer) → Type 0
AreUnreported look = (name : List ℕ) → is_reported (look name) ≡ false

pub either : (b : Bool) (x y : Answer) → is_reported x ≡ false → is_reported y ≡ false → is_reported (cond b x y) ≡ false
either true x y h k = h
either false x y h k = k

lesser_unreported : (d e : NoValue) → is_elsewhere d ≡ false → is_elsewhere (lesser d e) ≡ false
lesser_unreported (Fault c) (Fault d) h = refl
lesser_unreported (Fault c) ReportedElsewhere h = refl
lesser_unreported ReportedElsewhere e h = absurd cc

divided_unreported : (o : Option ℕ) → is_reported (divided o) ≡ false
divided_unreported None = refl
divided_unreported (Some n) = refl

moved_unreported : (op : Binary) (v : Value) (n : ℕ) → is_reported (moved op v n) ≡ false
moved_unreported binary.Plus v n = refl
moved_unreported binary.Minus v n = refl
moved_unreported _ v n = refl

moved_to_unreported : (op : Binary) (v : Value) (n : ℕ) → is_reported (moved_to op v n) ≡ false
moved_to_unreported binary.Plus v n = refl
moved_to_unreported _ v n = refl

distance_unreported : (op : Binary) (a b : Value) → is_reported (distance op a b) ≡ false
distance_unreported binary.Minus a b = either (same_base a.base b.base) _ _ refl refl
distance_unreported _ a b = refl

one_unreported : (op : Unary) (v : Value) → is_reported (on_one op v) ≡ false
unfolding on_one
one_unreported op v = either (is_fixed v.base) _ _ refl refl

two_unreported : (op : Binary) (a b : Value) → is_reported (on_two op a b) ≡ false
unfolding on_two
two_unreported op a b =
    either (is_fixed a.base) (cond (is_fixed b.base) (divided (binary_number op a.number b.number)) (moved_to op b a.number)) (cond (is_fixed b.base) (moved op a b.number) (distance op a b))
    (either (is_fixed b.base) _ _ (divided_unreported (binary_number op a.number b.number)) (moved_to_unreported op b a.number))
    (either (is_fixed b.base) _ _ (moved_unreported op a b.number) (distance_unreported op a b))

unary_unreported : (op : Unary) (a : Answer) → is_reported a ≡ false → is_reported (unary_answer op a) ≡ false
unary_unreported op (Ok v) h = one_unreported op v
unary_unreported op (Err e) h = h

parts_unreported : (op : Binary) (a b : Answer) → is_reported a ≡ false → is_reported b ≡ false → is_reported (parts_answer op a b) ≡ false
parts_unreported op (Ok a) (Ok b) h k = two_unreported op a b
parts_unreported op (Ok a) (Err e) h k = k
parts_unreported op (Err e) (Ok b) h k = h
parts_unreported op (Err d) (Err e) h k = lesser_unreported d e h

by_zero_unreported : (a : Answer) → is_reported a ≡ false → is_reported (by_zero a) ≡ false
by_zero_unreported (Ok a) h = refl
by_zero_unreported (Err e) h = lesser_unreported e (Fault code.DivisionByZero) h

binary_unreported : (op : Binary) (a b : Answer) → is_reported a ≡ false → is_reported b ≡ false → is_reported (binary_answer op a b) ≡ false
unfolding binary_answer
binary_unreported op a b h k = either (divides_by_zero op b) (by_zero a) (parts_answer op a b) (by_zero_unreported a h) (parts_unreported op a b h k)

chars_unreported : (cs : List ℕ) → is_reported (chars_answer cs) ≡ false
chars_unreported [] = refl
chars_unreported (a ∷ []) = refl
chars_unreported (a ∷ b ∷ []) = refl
chars_unreported (a ∷ b ∷ c ∷ cs) = refl

pub expression_unreported : (look : List ℕ → Answer) → AreUnreported look → (x : Tree) → is_reported (answer_by look x) ≡ false
unfolding answer_by
expression_unreported look h (Number n) = either (nat_lt n (2 ^ 16)) (Ok (plain n)) (Err (Fault code.BadNumber)) refl refl
expression_unreported look h (Chars cs) = chars_unreported cs
expression_unreported look h (Name n) = h n
expression_unreported look h Here = h here
expression_unreported look h (One op e) = unary_unreported op (answer_by look e) (expression_unreported look h e)
expression_unreported look h (Two op a b) = binary_unreported op (answer_by look a) (answer_by look b) (expression_unreported look h a) (expression_unreported look h b)

-- ---- the values of names

found_unreported : (o : Option Value) → is_reported (found o) ≡ false
found_unreported None = refl
found_unreported (Some v) = refl

pub never_reported : (names : NameMap) (x : Tree) → answer_by (name_answer names) x ≡ Err ReportedElsewhere → ⊥
never_reported names x e = differ (sym (ap is_reported e) ∙ expression_unreported (name_answer names) (λ name. found_unreported (get names name)) x)
  where
    differ : true ≡ false → ⊥
    differ e = cc
