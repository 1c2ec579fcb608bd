-- An expression has no value for want of a name only where one of its names means nothing.
use Rattle.std.proofs.Common.{◌≡◌, ℕ, Bool, true, false, ◌||◌, cond, List, [], ◌∷◌, Option, Some, None, Ok, Err, inl, inr, refl, sym, ◌∙◌}
use Rattle.std.specs.Prelude.{◌==◌, nat_lt, ◌⊎◌}
use Rattle.std.specs.Option.{option_or}
use Rattle.std.proofs.lemmas.Bool.{or_cases, or_left, false≢true}
use Rattle.kc_lex.specs.declared.fault.SourceCode.{SourceCode}
use Rattle.kc_lex.specs.declared.fault.SourceCode.TheVariants as code
use Rattle.kc_lex.specs.Codes.{code_number, lesser_code, not_defined}
use Rattle.kc_expr.specs.declared.values.NoValue.{NoValue}
use Rattle.kc_expr.specs.declared.values.NoValue.TheVariants.{Fault, ReportedElsewhere}
use Rattle.kc_expr.specs.declared.values.Value.{Value}
use Rattle.kc_expr.specs.declared.expr.Unary.{Unary}
use Rattle.kc_expr.specs.declared.expr.Binary.{Binary}
use Rattle.kc_expr.specs.declared.expr.Binary.TheVariants as binary
use Rattle.kc_expr.specs.Tree.{Tree, Number, Chars, Name, Here, One, Two}
use Rattle.kc_expr.specs.Meaning.{Answer, plain, number_answer, chars_answer, is_fixed, same_base, unary_number, binary_number, divided, moved, moved_to, distance, on_one, on_two, unary_answer, lesser, parts_answer, divides_by_zero, by_zero, binary_answer, here, answer_by}
use Rattle.kc_asm_origin.specs.Values.{means_nothing, unknown_in}
use Rattle.kc_asm_laws.proofs.Others.{is_other}

-- ---- an answer whose fault passes a test

abbrev pub passes : (SourceCode → Bool) → Answer → Bool
passes fine (Ok v) = true
passes fine (Err ReportedElsewhere) = true
passes fine (Err (Fault c)) = fine c

one_passes : (fine : SourceCode → Bool) (b : Bool) (x y : Answer) → passes fine x ≡ true → passes fine y ≡ true → passes fine (cond b x y) ≡ true
one_passes fine true x y h k = h
one_passes fine false x y h k = k

-- a test that holds of the faults that operators have of their own
record IsFine (fine : SourceCode → Bool) : Type 0 where
  number : fine code.BadNumber ≡ true
  zero : fine code.DivisionByZero ≡ true
  places : fine code.NotRelocatable ≡ true

module _ (fine : SourceCode → Bool) (are : IsFine fine) where
  abbrev Passes : Answer → Type 0
  Passes a = passes fine a ≡ true

  number_passes : (n : ℕ) → Passes (number_answer n)
  number_passes n = one_passes fine (nat_lt n 65536) (Ok (plain n)) (Err (Fault code.BadNumber)) refl are.number

  chars_pass : (cs : List ℕ) → Passes (chars_answer cs)
  chars_pass [] = are.number
  chars_pass (a ∷ []) = refl
  chars_pass (a ∷ b ∷ []) = refl
  chars_pass (a ∷ b ∷ c ∷ cs) = are.number

  one_operator : (op : Unary) (a : Answer) → Passes a → Passes (unary_answer op a)
  unfolding on_one
  one_operator op (Ok v) h = one_passes fine (is_fixed v.base) (Ok (plain (unary_number op v.number))) (Err (Fault code.NotRelocatable)) refl are.places
  one_operator op (Err e) h = h

  divided_passes : (o : Option ℕ) → Passes (divided o)
  divided_passes None = are.zero
  divided_passes (Some n) = refl

  moved_passes : (op : Binary) (v : Value) (n : ℕ) → Passes (moved op v n)
  moved_passes binary.Plus v n = refl
  moved_passes binary.Minus v n = refl
  moved_passes op v n = are.places

  moved_to_passes : (op : Binary) (v : Value) (n : ℕ) → Passes (moved_to op v n)
  moved_to_passes binary.Plus v n = refl
  moved_to_passes op v n = are.places

  distance_passes : (op : Binary) (a b : Value) → Passes (distance op a b)
  distance_passes binary.Minus a b = one_passes fine (same_base a.base b.base) _ (Err (Fault code.NotRelocatable)) refl are.places
  distance_passes op a b = are.places

  two_pass : (op : Binary) (a b : Value) → Passes (on_two op a b)
  unfolding on_two
  two_pass op a b =
      one_passes fine (is_fixed a.base) (cond (is_fixed b.base) (divided (binary_number op a.number b.number)) (moved_to op b a.number)) (cond (is_fixed b.base) (moved op a b.number) (distance op a b))
      (one_passes fine (is_fixed b.base) (divided (binary_number op a.number b.number)) (moved_to op b a.number) (divided_passes (binary_number op a.number b.number)) (moved_to_passes op b a.number))
      (one_passes fine (is_fixed b.base) (moved op a b.number) (distance op a b) (moved_passes op a b.number) (distance_passes op a b))

  lesser_passes : (d e : NoValue) → Passes (Err d) → Passes (Err e) → Passes (Err (lesser d e))
  unfolding lesser_code
  lesser_passes (Fault c) (Fault d) h k = elim (nat_lt (code_number d) (code_number c)) as (λ b. fine (cond b d c) ≡ true) [ true ↦ k | false ↦ h ]
  lesser_passes (Fault c) ReportedElsewhere h k = h
  lesser_passes ReportedElsewhere other h k = k

  parts_pass : (op : Binary) (a b : Answer) → Passes a → Passes b → Passes (parts_answer op a b)
  parts_pass op (Ok v) (Ok w) h k = two_pass op v w
  parts_pass op (Ok v) (Err e) h k = k
  parts_pass op (Err d) (Ok w) h k = h
  parts_pass op (Err d) (Err e) h k = lesser_passes d e h k

  by_zero_passes : (a : Answer) → Passes a → Passes (by_zero a)
  by_zero_passes (Ok v) h = are.zero
  by_zero_passes (Err e) h = lesser_passes e (Fault code.DivisionByZero) h are.zero

  two_operators : (op : Binary) (a b : Answer) → Passes a → Passes b → Passes (binary_answer op a b)
  unfolding binary_answer
  two_operators op a b h k = one_passes fine (divides_by_zero op b) (by_zero a) (parts_answer op a b) (by_zero_passes a h) (parts_pass op a b h k)

-- ---- faults about no name, and beside them that of a name that means nothing

abbrev pub plain_code : SourceCode → Bool
plain_code c = is_other (code_number c)

abbrev pub tame_code : SourceCode → Bool
tame_code c = is_other (code_number c) || (code_number c == not_defined)

plain_fine : IsFine plain_code
plain_fine = record { number = refl; zero = refl; places = refl }

tame_fine : IsFine tame_code
tame_fine = record { number = refl; zero = refl; places = refl }

pub nothing_is : (c : SourceCode) → means_nothing (Err (Fault c)) ≡ (code_number c == not_defined)
nothing_is code.NotDefined = refl
nothing_is c = refl

-- what means something, and is reported here, is about no name
plain_of : (a : Answer) → passes tame_code a ≡ true → means_nothing a ≡ false → passes plain_code a ≡ true
plain_of (Ok v) h e = refl
plain_of (Err ReportedElsewhere) h e = refl
plain_of (Err (Fault c)) h e = by (or_cases (is_other (code_number c)) (code_number c == not_defined) h)
  where
    by : (is_other (code_number c) ≡ true) ⊎ ((code_number c == not_defined) ≡ true) → is_other (code_number c) ≡ true
    by (inl k) = k
    by (inr k) = absurd (false≢true (sym e ∙ nothing_is c ∙ k))

-- ---- expressions

-- an answer beside the name that means nothing
abbrev pub IsReportedBy : Option (List ℕ) → Answer → Type 0
IsReportedBy None a = passes plain_code a ≡ true
IsReportedBy (Some name) a = passes tame_code a ≡ true

tame_of : (o : Option (List ℕ)) (a : Answer) → IsReportedBy o a → passes tame_code a ≡ true
tame_of (Some name) a h = h
tame_of None (Ok v) h = refl
tame_of None (Err ReportedElsewhere) h = refl
tame_of None (Err (Fault c)) h = or_left (is_other (code_number c)) (code_number c == not_defined) h

one_reported : (op : Unary) (o : Option (List ℕ)) (a : Answer) → IsReportedBy o a → IsReportedBy o (unary_answer op a)
one_reported op None a h = one_operator plain_code plain_fine op a h
one_reported op (Some name) a h = one_operator tame_code tame_fine op a h

two_reported : (op : Binary) (o p : Option (List ℕ)) (a b : Answer) → IsReportedBy o a → IsReportedBy p b → IsReportedBy (option_or o p) (binary_answer op a b)
two_reported op None None a b h k = two_operators plain_code plain_fine op a b h k
two_reported op None (Some name) a b h k = two_operators tame_code tame_fine op a b (tame_of None a h) k
two_reported op (Some name) p a b h k = two_operators tame_code tame_fine op a b h (tame_of p b k)

-- what names mean: values, or nothing, or what is reported elsewhere; the place where a line stands has a value
pub record IsTame (look : List ℕ → Answer) : Type 0 where
  pub names : (name : List ℕ) → passes tame_code (look name) ≡ true
  pub place : passes plain_code (look here) ≡ true

pub tree_reported : (look : List ℕ → Answer) → IsTame look → (x : Tree) → IsReportedBy (unknown_in look x) (answer_by look x)
unfolding unknown_in answer_by
tree_reported look is (Number n) = number_passes plain_code plain_fine n
tree_reported look is (Chars cs) = chars_pass plain_code plain_fine cs
tree_reported look is (Name n) = by (means_nothing (look n)) refl
  where
    by : (b : Bool) → means_nothing (look n) ≡ b → IsReportedBy (cond (means_nothing (look n)) (Some n) None) (look n)
    by true e = rw e (is.names n)
    by false e = rw e (plain_of (look n) (is.names n) e)
tree_reported look is Here = is.place
tree_reported look is (One op e) = one_reported op (unknown_in look e) (answer_by look e) (tree_reported look is e)
tree_reported look is (Two op a b) = two_reported op (unknown_in look a) (unknown_in look b) (answer_by look a) (answer_by look b) (tree_reported look is a) (tree_reported look is b)
