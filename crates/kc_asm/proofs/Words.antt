-- The values of expressions are words where those of their names are and characters are bytes.
use Rattle.std.proofs.Common.{◌≡◌, ℕ, ◌+◌, ◌-◌, ◌/◌, ◌%◌, ◌^◌, ◌<◌, Bool, true, false, cond, ◌&&◌, List, [], ◌∷◌, refl, arith}
use Rattle.std.specs.Prelude.{nat_lt, nat_le, not, ◌==◌, Option, Some, None, Ok, Err}
use Rattle.std.specs.List.{list_all}
use Rattle.std.proofs.Math.Nat.{div-le_self, mod-le}
use Rattle.std.proofs.lemmas.Nat.{and_le_l, or_lt, xor_lt}
use Rattle.std.proofs.lemmas.Bool.{and_parts}
use Rattle.std.proofs.lemmas.Bool.Decides.{nat_tests}
use Rattle.kc_lex.specs.declared.fault.SourceCode.TheVariants as code
use Rattle.kc_expr.specs.declared.values.Base.TheVariants as bases
use Rattle.kc_expr.specs.declared.values.Tag.TheVariants.{Memory}
use Rattle.kc_expr.specs.declared.values.Value.{Value}
use Rattle.kc_expr.specs.declared.values.NoValue.TheVariants.{Fault}
use Rattle.kc_expr.specs.declared.expr.Unary.{Unary}
use Rattle.kc_expr.specs.declared.expr.Unary.TheVariants as unary
use Rattle.kc_expr.specs.declared.expr.Binary.{Binary}
use Rattle.kc_expr.specs.declared.expr.Binary.TheVariants as binary
use Rattle.kc_expr.specs.Tree.{Tree, Number, Chars, Name, Here, One, Two}
use Rattle.kc_expr.specs.Meaning.{Answer, plain, is_fixed, same_base, truth, unary_number, binary_number, number_answer, chars_answer, divided, moved, moved_to, distance, on_one, on_two, unary_answer, parts_answer, divides_by_zero, by_zero, binary_answer, here, answer_by}
use Rattle.kc_asm.specs.Characters.{are_bytes}

abbrev pub IsWordAnswer : Answer → Type 0
IsWordAnswer (Ok v) = v.number < 65536
IsWordAnswer (Err fault) = Unit {0}

pub either : (x : Bool) (a b : Answer) → IsWordAnswer a → IsWordAnswer b → IsWordAnswer (cond x a b)
either true a b h k = h
either false a b h k = k

number_word : (n : ℕ) → IsWordAnswer (number_answer n)
number_word n = by (nat_lt n 65536) refl
  where
    by : (t : Bool) → nat_lt n 65536 ≡ t → IsWordAnswer (cond t (Ok (plain n)) (Err (Fault code.BadNumber)))
    by true e = grind (arith, nat_tests, e)
    by false e = tt

is_byte : (a : ℕ) → nat_lt a 256 ≡ true → a < 256
is_byte a e = grind (arith, nat_tests, e)

chars_word : (cs : List ℕ) → list_all (λ c. nat_lt c 256) cs ≡ true → IsWordAnswer (chars_answer cs)
chars_word [] h = tt
chars_word (a ∷ []) h = let p = is_byte a (and_parts (nat_lt a 256) true h).0 in omega (arith, p)
chars_word (a ∷ b ∷ []) h =
    let s = and_parts (nat_lt a 256) (nat_lt b 256 && true) h in
    let p = is_byte a s.0 in
    let q = is_byte b (and_parts (nat_lt b 256) true s.1).0 in
    omega (arith, p, q)
chars_word (a ∷ b ∷ c ∷ cs) h = tt

unary_word : (op : Unary) (n : ℕ) → n < 65536 → unary_number op n < 65536
unfolding unary_number
unary_word unary.Low n h = omega (arith, h)
unary_word unary.High n h = omega (arith, h)
unary_word unary.Plus n h = h
unary_word unary.Minus n h = omega arith
unary_word unary.Not n h = omega arith

abbrev IsWordOption : Option ℕ → Type 0
IsWordOption None = Unit {0}
IsWordOption (Some n) = n < 65536

truth_word : (b : Bool) → truth b < 65536
truth_word true = omega arith
truth_word false = omega arith

unless_zero : (t : Bool) (n : ℕ) → n < 65536 → IsWordOption (cond t None (Some n))
unless_zero true n h = tt
unless_zero false n h = h

binary_word : (op : Binary) (a b : ℕ) → a < 65536 → b < 65536 → IsWordOption (binary_number op a b)
unfolding binary_number
binary_word binary.Times a b h k = omega arith
binary_word binary.Over a b h k = unless_zero (b == 0) (a / b) (let l = div-le_self a b in omega (arith, l, h))
binary_word binary.Mod a b h k = unless_zero (b == 0) (a % b) (let l = mod-le a b in omega (arith, l, h))
binary_word binary.Shl a b h k = omega arith
binary_word binary.Shr a b h k = let l = div-le_self a (2 ^ b) in omega (arith, l, h)
binary_word binary.Plus a b h k = omega arith
binary_word binary.Minus a b h k = omega arith
binary_word binary.Eq a b h k = truth_word (a == b)
binary_word binary.Ne a b h k = truth_word (not (a == b))
binary_word binary.Lt a b h k = truth_word (nat_lt a b)
binary_word binary.Le a b h k = truth_word (nat_le a b)
binary_word binary.Gt a b h k = truth_word (nat_lt b a)
binary_word binary.Ge a b h k = truth_word (nat_le b a)
binary_word binary.And a b h k = let l = and_le_l a b in omega (arith, l, h)
binary_word binary.Or a b h k = or_lt 16 a b h k
binary_word binary.Xor a b h k = xor_lt 16 a b h k

one_word : (op : Unary) (v : Value) → v.number < 65536 → IsWordAnswer (on_one op v)
unfolding on_one
one_word op v h = either (is_fixed v.base) (Ok (plain (unary_number op v.number))) (Err (Fault code.NotRelocatable)) (unary_word op v.number h) tt

unary_answer_word : (op : Unary) (a : Answer) → IsWordAnswer a → IsWordAnswer (unary_answer op a)
unary_answer_word op (Ok v) h = one_word op v h
unary_answer_word op (Err fault) h = tt

divided_word : (n : Option ℕ) → IsWordOption n → IsWordAnswer (divided n)
divided_word None h = tt
divided_word (Some n) h = h

moved_word : (op : Binary) (v : Value) (n : ℕ) → IsWordAnswer (moved op v n)
moved_word binary.Plus v n = omega arith
moved_word binary.Minus v n = omega arith
moved_word op v n = tt

moved_to_word : (op : Binary) (v : Value) (n : ℕ) → IsWordAnswer (moved_to op v n)
moved_to_word binary.Plus v n = omega arith
moved_to_word op v n = tt

distance_word : (op : Binary) (a b : Value) → IsWordAnswer (distance op a b)
distance_word binary.Minus a b = either (same_base a.base b.base) (Ok (record { base = bases.Absolute; tag = Memory; number = (a.number + 65536 - b.number) % 65536 })) (Err (Fault code.NotRelocatable)) (omega arith) tt
distance_word op a b = tt

two_word : (op : Binary) (a b : Value) → a.number < 65536 → b.number < 65536 → IsWordAnswer (on_two op a b)
unfolding on_two
two_word op a b h k =
    either (is_fixed a.base) (cond (is_fixed b.base) (divided (binary_number op a.number b.number)) (moved_to op b a.number)) (cond (is_fixed b.base) (moved op a b.number) (distance op a b))
    (either (is_fixed b.base) (divided (binary_number op a.number b.number)) (moved_to op b a.number) (divided_word (binary_number op a.number b.number) (binary_word op a.number b.number h k)) (moved_to_word op b a.number))
    (either (is_fixed b.base) (moved op a b.number) (distance op a b) (moved_word op a b.number) (distance_word op a b))

parts_word : (op : Binary) (a b : Answer) → IsWordAnswer a → IsWordAnswer b → IsWordAnswer (parts_answer op a b)
parts_word op (Ok a) (Ok b) h k = two_word op a b h k
parts_word op (Ok a) (Err e) h k = tt
parts_word op (Err e) (Ok b) h k = tt
parts_word op (Err d) (Err e) h k = tt

zero_word : (a : Answer) → IsWordAnswer (by_zero a)
zero_word (Ok v) = tt
zero_word (Err e) = tt

binary_answer_word : (op : Binary) (a b : Answer) → IsWordAnswer a → IsWordAnswer b → IsWordAnswer (binary_answer op a b)
unfolding binary_answer
binary_answer_word op a b h k = either (divides_by_zero op b) (by_zero a) (parts_answer op a b) (zero_word a) (parts_word op a b h k)

pub answer_word : (look : List ℕ → Answer) → ((name : List ℕ) → IsWordAnswer (look name)) → (x : Tree) → are_bytes x ≡ true → IsWordAnswer (answer_by look x)
unfolding answer_by are_bytes
answer_word look h (Number n) e = number_word n
answer_word look h (Chars cs) e = chars_word cs e
answer_word look h (Name n) e = h n
answer_word look h Here e = h here
answer_word look h (One op x) e = unary_answer_word op (answer_by look x) (answer_word look h x e)
answer_word look h (Two op a b) e =
    let s = and_parts (are_bytes a) (are_bytes b) e in
    binary_answer_word op (answer_by look a) (answer_by look b) (answer_word look h a s.0) (answer_word look h b s.1)
