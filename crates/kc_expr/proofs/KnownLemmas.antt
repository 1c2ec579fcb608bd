-- The values of expressions count from nothing that their names do not count from.
use Rattle.std.proofs.Common.{◌≡◌, ℕ, ◌+◌, ◌-◌, ◌%◌, Bool, true, false, cond, List, [], ◌∷◌, refl}
use Rattle.std.specs.Prelude.{nat_lt, Option, Some, None, Ok, Err}
use Rattle.kc_lex.specs.declared.fault.SourceCode.TheVariants as code
use Rattle.kc_expr.specs.declared.values.Base.{Base}
use Rattle.kc_expr.specs.declared.values.Base.TheVariants as bases
use Rattle.kc_expr.specs.declared.values.Tag.TheVariants.{Memory}
use Rattle.kc_expr.specs.declared.values.Value.{Value}
use Rattle.kc_expr.specs.declared.values.NoValue.TheVariants.{Fault}
use Rattle.kc_expr.specs.declared.expr.Unary.{Unary}
use Rattle.kc_expr.specs.declared.expr.Binary.{Binary}
use Rattle.kc_expr.specs.declared.expr.Binary.TheVariants.{Plus, Minus}
use Rattle.kc_expr.specs.Tree.{Tree, Number, Chars, Name, Here, One, Two}
use Rattle.kc_expr.specs.Meaning.{Answer, plain, is_fixed, same_base, unary_number, binary_number, number_answer, chars_answer, divided, moved, moved_to, distance, on_one, on_two, unary_answer, parts_answer, divides_by_zero, by_zero, binary_answer, here, answer_by}
use Rattle.kc_expr.specs.Known.{is_known}

module _ (known : Base → Bool) (fixed : known bases.Fixed ≡ true) (absolute : known bases.Absolute ≡ true) where
  either : (x : Bool) (a b : Answer) → is_known known a ≡ true → is_known known b ≡ true → is_known known (cond x a b) ≡ true
  either true a b h k = h
  either false a b h k = k

  number_known : (n : ℕ) → is_known known (number_answer n) ≡ true
  number_known n = either (nat_lt n 65536) (Ok (plain n)) (Err (Fault code.BadNumber)) fixed refl

  chars_known : (cs : List ℕ) → is_known known (chars_answer cs) ≡ true
  chars_known [] = refl
  chars_known (a ∷ []) = fixed
  chars_known (a ∷ b ∷ []) = fixed
  chars_known (a ∷ b ∷ c ∷ cs) = refl

  one_known : (op : Unary) (v : Value) → is_known known (on_one op v) ≡ true
  unfolding on_one
  one_known op v = either (is_fixed v.base) (Ok (plain (unary_number op v.number))) (Err (Fault code.NotRelocatable)) fixed refl

  unary_known : (op : Unary) (a : Answer) → is_known known (unary_answer op a) ≡ true
  unary_known op (Ok v) = one_known op v
  unary_known op (Err fault) = refl

  divided_known : (n : Option ℕ) → is_known known (divided n) ≡ true
  divided_known None = refl
  divided_known (Some n) = fixed

  moved_known : (op : Binary) (v : Value) (n : ℕ) → known v.base ≡ true → is_known known (moved op v n) ≡ true
  moved_known Plus v n h = h
  moved_known Minus v n h = h
  moved_known op v n h = refl

  moved_to_known : (op : Binary) (v : Value) (n : ℕ) → known v.base ≡ true → is_known known (moved_to op v n) ≡ true
  moved_to_known Plus v n h = h
  moved_to_known op v n h = refl

  distance_known : (op : Binary) (a b : Value) → is_known known (distance op a b) ≡ true
  distance_known Minus a b = either (same_base a.base b.base) (Ok (record { base = bases.Absolute; tag = Memory; number = (a.number + 65536 - b.number) % 65536 })) (Err (Fault code.NotRelocatable)) absolute refl
  distance_known op a b = refl

  two_known : (op : Binary) (a b : Value) → known a.base ≡ true → known b.base ≡ true → is_known known (on_two op a b) ≡ true
  unfolding on_two
  two_known op a b h k =
      either (is_fixed a.base) (cond (is_fixed b.base) (divided (binary_number op a.number b.number)) (moved_to op b a.number)) (cond (is_fixed b.base) (moved op a b.number) (distance op a b))
      (either (is_fixed b.base) (divided (binary_number op a.number b.number)) (moved_to op b a.number) (divided_known (binary_number op a.number b.number)) (moved_to_known op b a.number k))
      (either (is_fixed b.base) (moved op a b.number) (distance op a b) (moved_known op a b.number h) (distance_known op a b))

  parts_known : (op : Binary) (a b : Answer) → is_known known a ≡ true → is_known known b ≡ true → is_known known (parts_answer op a b) ≡ true
  parts_known op (Ok a) (Ok b) h k = two_known op a b h k
  parts_known op (Ok a) (Err e) h k = refl
  parts_known op (Err e) (Ok b) h k = refl
  parts_known op (Err d) (Err e) h k = refl

  zero_known : (a : Answer) → is_known known (by_zero a) ≡ true
  zero_known (Ok v) = refl
  zero_known (Err e) = refl

  binary_known : (op : Binary) (a b : Answer) → is_known known a ≡ true → is_known known b ≡ true → is_known known (binary_answer op a b) ≡ true
  unfolding binary_answer
  binary_known op a b h k = either (divides_by_zero op b) (by_zero a) (parts_answer op a b) (zero_known a) (parts_known op a b h k)

  pub answer_known : (look : List ℕ → Answer) → ((name : List ℕ) → is_known known (look name) ≡ true) → (x : Tree) → is_known known (answer_by look x) ≡ true
  unfolding answer_by
  answer_known look h (Number n) = number_known n
  answer_known look h (Chars cs) = chars_known cs
  answer_known look h (Name n) = h n
  answer_known look h Here = h here
  answer_known look h (One op e) = unary_known op (answer_by look e)
  answer_known look h (Two op a b) = binary_known op (answer_by look a) (answer_by look b) (answer_known look h a) (answer_known look h b)
