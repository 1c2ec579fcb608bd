-- What holds of each of some faults holds of the least of them, and what holds of each of some codes of the least code.
use Rattle.std.proofs.Common.{◌≡◌, ℕ, Bool, true, false, cond, List, [], ◌∷◌, ◌++◌, Option, Some, None, inl, inr, subst, arith}
use Rattle.std.specs.Prelude.{min}
use Rattle.std.specs.List.{list_all}
use Rattle.std.specs.Option.{option_to_list}
use Rattle.std.proofs.lemmas.Bool.{and_parts, and_from, cases_lt}
use Rattle.kc_lex.specs.Codes.{lesser_number}
use Rattle.kc_lex.specs.LineFaults.{Fault, is_before, first_of, lesser, least, at_line}
use Rattle.kc_asm_emit.specs.Faults as codes
use Rattle.kc_source_laws.proofs.Tests.{Holds}

-- ---- faults

first_holds : (p : Fault → Bool) (f g : Fault) → p f ≡ true → p g ≡ true → p (first_of f g) ≡ true
first_holds p f g h k = elim (is_before g f) as (λ b. p (cond b g f) ≡ true) [ true ↦ k | false ↦ h ]

lesser_holds : (p : Fault → Bool) (f : Fault) (o : Option Fault) → p f ≡ true → Holds p o → Holds p (lesser (Some f) o)
lesser_holds p f None h k = h
lesser_holds p f (Some g) h k = first_holds p f g h k

pub least_holds : (p : Fault → Bool) (fs : List Fault) → list_all p fs ≡ true → Holds p (least fs)
unfolding least
least_holds p [] h = tt
least_holds p (f ∷ fs) h =
    let both : (p f ≡ true) × (list_all p fs ≡ true) = and_parts (p f) (list_all p fs) h in
    lesser_holds p f (least fs) both.0 (least_holds p fs both.1)

-- the fault of a line, if it has a code, in front of others
pub one_holds : (p : Fault → Bool) (line : ℕ) (o : Option ℕ) (fs : List Fault) → Holds (λ code. p (line, code)) o → list_all p fs ≡ true → list_all p (option_to_list (at_line line o) ++ fs) ≡ true
one_holds p line None fs h k = k
one_holds p line (Some code) fs h k = and_from (p (line, code)) (list_all p fs) h k

-- ---- codes

min_holds : (p : ℕ → Bool) (m n : ℕ) → p m ≡ true → p n ≡ true → p (min m n) ≡ true
min_holds p m n h k = elim (cases_lt m n) [
  | inl lt ↦ (let same : m ≡ min m n = omega (arith, lt) in subst (λ (x : ℕ). p x ≡ true) same h)
  | inr le ↦ (let same : n ≡ min m n = omega (arith, le) in subst (λ (x : ℕ). p x ≡ true) same k)
]

lesser_number_holds : (p : ℕ → Bool) (m : ℕ) (o : Option ℕ) → p m ≡ true → Holds p o → Holds p (lesser_number (Some m) o)
lesser_number_holds p m None h k = h
lesser_number_holds p m (Some n) h k = min_holds p m n h k

pub least_code : (p : ℕ → Bool) (cs : List ℕ) → list_all p cs ≡ true → Holds p (codes.least cs)
unfolding codes.least
least_code p [] h = tt
least_code p (c ∷ cs) h =
    let both : (p c ≡ true) × (list_all p cs ≡ true) = and_parts (p c) (list_all p cs) h in
    lesser_number_holds p c (codes.least cs) both.0 (least_code p cs both.1)
