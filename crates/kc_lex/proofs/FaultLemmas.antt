-- The order of faults, and the least of some faults, part by part.
use Rattle.std.proofs.Common.{◌≡◌, ℕ, Bool, true, false, ◌&&◌, ◌||◌, eqb, ltb, List, [], ◌∷◌, ◌++◌, Option, Some, None, refl, sym, ap, ◌∙◌, arith}
use Rattle.std.specs.Option.{option_to_list}
use Rattle.std.proofs.lemmas.Bool.Decides.{nat_tests}
use Rattle.kc_lex.specs.LineFaults.{Fault, at_line, is_before, first_of, lesser, least}

-- an order of two numbers, the first weighing more
trans : (a b c d e k : ℕ) → (ltb c a || (eqb c a && ltb d b)) ≡ true → (ltb e c || (eqb e c && ltb k d)) ≡ true → (ltb e a || (eqb e a && ltb k b)) ≡ true
trans a b c d e k p q = grind (arith, nat_tests)

negative : (a b c d e k : ℕ) → (ltb c a || (eqb c a && ltb d b)) ≡ false → (ltb e c || (eqb e c && ltb k d)) ≡ false → (ltb e a || (eqb e a && ltb k b)) ≡ false
negative a b c d e k p q = grind (arith, nat_tests)

first_cases : (f g h : Fault) (a b : Bool) → is_before g f ≡ a → is_before h g ≡ b → first_of (first_of f g) h ≡ first_of f (first_of g h)
first_cases f g h true true p q = rw (p, q, trans f.0 f.1 g.0 g.1 h.0 h.1 p q) refl
first_cases f g h true false p q = rw (p, q, p) refl
first_cases f g h false true p q = rw (p, q) refl
first_cases f g h false false p q = rw (p, q, negative f.0 f.1 g.0 g.1 h.0 h.1 p q, p) refl

pub first_assoc : (f g h : Fault) → first_of (first_of f g) h ≡ first_of f (first_of g h)
first_assoc f g h = first_cases f g h (is_before g f) (is_before h g) refl refl

pub lesser_none : (o : Option Fault) → lesser o None ≡ o
lesser_none None = refl
lesser_none (Some f) = refl

pub lesser_assoc : (a b c : Option Fault) → lesser (lesser a b) c ≡ lesser a (lesser b c)
lesser_assoc None b c = refl
lesser_assoc (Some f) None c = refl
lesser_assoc (Some f) (Some g) None = refl
lesser_assoc (Some f) (Some g) (Some h) = ap (λ (x : Fault). Some x) (first_assoc f g h)

pub least_append : (fs gs : List Fault) → least (fs ++ gs) ≡ lesser (least fs) (least gs)
unfolding least
least_append [] gs = refl
least_append (f ∷ fs) gs = ap (lesser (Some f)) (least_append fs gs) ∙ sym (lesser_assoc (Some f) (least fs) (least gs))

pub least_one : (o : Option Fault) (fs : List Fault) → least (option_to_list o ++ fs) ≡ lesser o (least fs)
unfolding least
least_one None fs = refl
least_one (Some f) fs = refl

pub nothing_found : (a b : Option Fault) → lesser a b ≡ None → a ≡ None
nothing_found None b e = refl
nothing_found (Some f) None e = e
nothing_found (Some f) (Some g) e = absurd cc

-- where there is no least fault, there is none
none_first : (f : Fault) (o : Option Fault) → lesser (Some f) o ≡ None → ⊥
none_first f None e = cc
none_first f (Some g) e = cc

pub no_least : (fs : List Fault) → least fs ≡ None → fs ≡ []
unfolding least
no_least [] e = refl
no_least (f ∷ fs) e = absurd (none_first f (least fs) e)

-- where two parts have none, neither has one
pub nothing_left : {A : Type 0} (xs ys : List A) → xs ++ ys ≡ [] → (xs ≡ []) × (ys ≡ [])
nothing_left [] ys e = (refl, e)
nothing_left (x ∷ xs) ys e = absurd cc

pub no_code_at : (line : ℕ) (o : Option ℕ) → option_to_list (at_line line o) ≡ [] → o ≡ None
no_code_at line None e = refl
no_code_at line (Some code) e = absurd cc
