-- Of faults that are listed the first is one of them, and none comes before it.
use Rattle.std.proofs.Common.{◌≡◌, ℕ, zero, suc, ◌<◌, Bool, true, false, ◌&&◌, ◌||◌, List, [], ◌∷◌, refl, ap, subst, arith}
use Rattle.std.specs.Prelude.{Option, Some, None, All, nat_lt, ◌==◌, if◌then◌else◌}
use Rattle.std.proofs.lemmas.Bool.Decides.{nat_tests}
use Rattle.kc_obj_fields.specs.declared.faults.Fault.{Fault}
use Rattle.kc_obj_fields.specs.Fields.{is_lesser, first_of_both, fault_at, noted, listed, IsFirst}
use Rattle.kc_obj.proofs.Within.{Within}

abbrev pub least : List Fault → Option Fault
least [] = None
least (f ∷ fs) = Some (first_of_both (least fs) f)

pub record IsLeast (fs : List Fault) (f : Option Fault) : Type 0 where
  pub is : least fs ≡ f

-- one more is listed, and taken down
pub one : (at code : ℕ) (fs : List Fault) (f : Option Fault) (broken : Bool) → IsLeast fs f → IsLeast (listed fs broken at code) (noted f broken at code)
one at code fs f true h = record { is = ap (λ (g : Option Fault). Some (first_of_both g (fault_at at code))) h.is }
one at code fs f false h = h

-- ---- in order

all_none : (P : Fault → Type 0) → All P []
all_none P = λ k d l. absurd (omega (arith, l))

all_more : (P : Fault → Type 0) (x : Fault) (xs : List Fault) → P x → All P xs → All P (x ∷ xs)
all_more P x xs here rest zero d l = here
all_more P x xs here rest (suc k) d l = rest k d (omega (arith, l))

not_itself : (a c : ℕ) → (nat_lt a a || ((a == a) && nat_lt c c)) ≡ false
not_itself a c = grind (arith, nat_tests)

goes_on : (a b c d e g : ℕ) → (nat_lt a c || ((a == c) && nat_lt b d)) ≡ true → (nat_lt e c || ((e == c) && nat_lt g d)) ≡ false → (nat_lt e a || ((e == a) && nat_lt g b)) ≡ false
goes_on a b c d e g h k = grind (arith, nat_tests)

-- where x comes before g, which is first, none comes before x
before_all : (x g : Fault) (fs : List Fault) → is_lesser x g ≡ true → All (λ other. is_lesser other g ≡ false) fs → All (λ other. is_lesser other x ≡ false) fs
before_all x g fs h all = λ k d l. goes_on x.at x.code g.at g.code _ _ h (all k d l)

pub none_is : (fs : List Fault) → least fs ≡ None → fs ≡ []
none_is [] e = refl
none_is (y ∷ ys) e = absurd (cc e)

pub first_is : (fs : List Fault) (f : Fault) → least fs ≡ Some f → IsFirst f fs
first_is [] f h = absurd (cc h)
first_is (x ∷ fs) f h = by (λ g e. first_is fs g e) (least fs) refl h
  where
    pick : (g : Fault) → IsFirst g fs → (b : Bool) → is_lesser x g ≡ b → IsFirst (if b then x else g) (x ∷ fs)
    pick g is true e =
        record {
          is_one = (0, omega arith, refl);
          least = all_more (λ other. is_lesser other x ≡ false) x fs (not_itself x.at x.code) (before_all x g fs e is.least);
        }
    pick g is false e =
        record {
          is_one = (suc is.is_one.0, omega (arith, is.is_one.1), is.is_one.2);
          least = all_more (λ other. is_lesser other g ≡ false) x fs e is.least;
        }

    by : ((g : Fault) → least fs ≡ Some g → IsFirst g fs) → (o : Option Fault) → least fs ≡ o → Some (first_of_both o x) ≡ Some f → IsFirst f (x ∷ fs)
    by rest None e k =
        let same : x ≡ f = cc k in
        let none : fs ≡ [] = none_is fs e in
        subst (λ (y : Fault). IsFirst y (x ∷ fs)) same (rw none (record { is_one = (0, omega arith, refl); least = all_more (λ other. is_lesser other x ≡ false) x [] (not_itself x.at x.code) (all_none (λ other. is_lesser other x ≡ false)) }))
    by rest (Some g) e k =
        let same : (if is_lesser x g then x else g) ≡ f = cc k in
        subst (λ (y : Fault). IsFirst y (x ∷ fs)) same (pick g (rest g e) (is_lesser x g) refl)

-- ---- a fault that stands before a place comes before one at it

pub least_within : (n : ℕ) (fs : List Fault) (f : Fault) → Within n fs → least fs ≡ Some f → f.at < n
least_within n [] f h e = absurd (cc e)
least_within n (x ∷ fs) f h e = by (λ g q. least_within n fs g h.1 q) (least fs) refl e
  where
    pick : (g : Fault) (b : Bool) → g.at < n → (if b then x else g).at < n
    pick g true l = h.0
    pick g false l = l

    by : ((g : Fault) → least fs ≡ Some g → g.at < n) → (o : Option Fault) → least fs ≡ o → Some (first_of_both o x) ≡ Some f → f.at < n
    by rest None q k = let same : x ≡ f = cc k in subst (λ (y : Fault). y.at < n) same h.0
    by rest (Some g) q k =
        let same : (if is_lesser x g then x else g) ≡ f = cc k in
        subst (λ (y : Fault). y.at < n) same (pick g (is_lesser x g) (rest g q))
