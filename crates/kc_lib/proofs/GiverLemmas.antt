-- Which module it is that gives a name.
use Rattle.std.proofs.Common.{◌≡◌, ℕ, suc, ◌+◌, ◌<◌, Bool, true, false, List, [], ◌∷◌, ◌++◌, length, get_or, take, Option, Some, None, refl, sym, ap, subst, ◌∙◌, arith}
use Rattle.std.specs.Prelude.{if◌then◌else◌, is_some, ◌||◌, slice_get}
use Rattle.std.specs.Option.{option_or}
use Rattle.std.specs.List.{list_any}
use Rattle.std.specs.Str.{bytes_eq}
use Rattle.std.specs.Global.{Vec}
use Rattle.std.proofs.lemmas.List.{take_more}
use Rattle.kc_obj_module.specs.declared.parts.Given.{Given}
use Rattle.kc_obj_module.specs.Object.{Object}
use Rattle.kc_lib.specs.Names.{gives, is_given}
use Rattle.kc_lib.specs.Givers.{giver_from, giver_of, found_in, Knows}

-- a module more at the end
pub giver_more : (ms : List Object) (m : Object) (n : ℕ) (name : List ℕ) → giver_from n (ms ++ m ∷ []) name ≡ option_or (giver_from n ms name) (if gives name m then Some (n + length ms) else None)
unfolding giver_from
giver_more [] m n name = ap (λ k. if gives name m then Some k else None) (let z : n ≡ n + length {A = Object} [] = omega arith in z)
giver_more (x ∷ ms) m n name = by (gives name x) (giver_more ms m (n + 1) name)
  where
    by : (b : Bool) → giver_from (n + 1) (ms ++ m ∷ []) name ≡ option_or (giver_from (n + 1) ms name) (if gives name m then Some (n + 1 + length ms) else None)
        → (if b then Some n else giver_from (n + 1) (ms ++ m ∷ []) name) ≡ option_or (if b then Some n else giver_from (n + 1) ms name) (if gives name m then Some (n + length (x ∷ ms)) else None)
    by true e = refl
    by false e =
        let s : n + 1 + length ms ≡ n + length (x ∷ ms) = omega arith in
        e ∙ ap (λ k. option_or (giver_from (n + 1) ms name) (if gives name m then Some k else None)) s

-- some module gives a name, where one is found
pub given_found : (ms : List Object) (n : ℕ) (name : List ℕ) → is_some (giver_from n ms name) ≡ is_given ms name
unfolding giver_from
given_found [] n name = refl
given_found (m ∷ ms) n name = by (gives name m) (given_found ms (n + 1) name)
  where
    by : (b : Bool) → is_some (giver_from (n + 1) ms name) ≡ is_given ms name → is_some (if b then Some n else giver_from (n + 1) ms name) ≡ (b || is_given ms name)
    by true e = refl
    by false e = e

pub knows_none : (es : List (Vec ℕ × ℕ)) → es ≡ [] → Knows es []
unfolding giver_from
knows_none es e name = ap (λ (l : List (Vec ℕ × ℕ)). found_in l name) e

abbrev pub IsNoted : List (Vec ℕ × ℕ) → List (Vec ℕ × ℕ) → ℕ → List Given → Type 0
IsNoted es fs n gs = (q : List ℕ) → found_in fs q ≡ option_or (found_in es q) (if list_any (λ g. bytes_eq g.name q) gs then Some n else None)

-- the next module's names are noted
pub knows_more : (es fs : List (Vec ℕ × ℕ)) (ms : List Object) (m : Object) (n : ℕ) → n ≡ length ms
    → IsNoted es fs n m.publics → Knows es ms → Knows fs (ms ++ m ∷ [])
knows_more es fs ms m n e h k q =
    let at : n ≡ 0 + length ms = omega arith in
    h q ∙ ap (λ o. option_or o (if gives q m then Some n else None)) (k q)
    ∙ ap (λ (i : ℕ). option_or (giver_of ms q) (if gives q m then Some i else None)) at ∙ sym (giver_more ms m 0 q)

-- a name that is known is given
pub known_given : (es : List (Vec ℕ × ℕ)) (ms : List Object) (name : List ℕ) → Knows es ms → is_some (found_in es name) ≡ is_given ms name
known_given es ms name k = ap (λ (o : Option ℕ). is_some o) (k name) ∙ given_found ms 0 name

-- the names of the first modules, with those of the next one
pub knows_next : (es : List (Vec ℕ × ℕ)) (ms : List Object) (n : ℕ) (m : Object) → n < length ms → m ≡ get_or ms n m → Knows es (take n ms ++ m ∷ []) → Knows es (take (n + 1) ms)
knows_next es ms n m l e k =
    let prefix : take n ms ++ m ∷ [] ≡ take (n + 1) ms = ap (λ x. take n ms ++ x ∷ []) e ∙ sym (take_more ms n m l) in
    subst (λ (f : List Object). Knows es f) prefix k

-- the first module that gives a name
pub record Giver (n : ℕ) (ms : List Object) (name : List ℕ) (number : ℕ) : Type 0 where
  pub at : ℕ
  pub m : Object
  pub is : number ≡ n + at
  pub is_there : slice_get ms at ≡ Some m
  pub gives_it : gives name m ≡ true

pub giver_is : (ms : List Object) (n : ℕ) (name : List ℕ) (number : ℕ) → giver_from n ms name ≡ Some number → Giver n ms name number
unfolding giver_from
giver_is [] n name number h = absurd (cc h)
giver_is (m ∷ ms) n name number h = by (gives name m) refl h (giver_is ms (n + 1) name number)
  where
    by : (b : Bool) → gives name m ≡ b → (if b then Some n else giver_from (n + 1) ms name) ≡ Some number → (giver_from (n + 1) ms name ≡ Some number → Giver (n + 1) ms name number) → Giver n (m ∷ ms) name number
    by true e k rest = let same : n ≡ number = cc k in record { at = 0; m = m; is = omega (arith, same); is_there = refl; gives_it = e }
    by false e k rest = let g = rest k in record { at = suc g.at; m = g.m; is = omega (arith, g.is); is_there = g.is_there; gives_it = g.gives_it }

-- there is one, where some module gives the name
pub has_giver : (ms : List Object) (n : ℕ) (name : List ℕ) → is_given ms name ≡ true → (number : ℕ) × (giver_from n ms name ≡ Some number)
has_giver ms n name h = by (giver_from n ms name) refl (given_found ms n name ∙ h)
  where
    by : (o : Option ℕ) → giver_from n ms name ≡ o → is_some (giver_from n ms name) ≡ true → (number : ℕ) × (giver_from n ms name ≡ Some number)
    by None e k = absurd (let none : is_some (giver_from n ms name) ≡ false = ap (λ (o : Option ℕ). is_some o) e in cc (none, k))
    by (Some number) e k = (number, e)
