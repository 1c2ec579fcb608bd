-- The last element of a list, and lists in order with one more element.
use Rattle.std.proofs.Common.{◌≡◌, suc, ◌-◌, Bool, true, false, ◌&&◌, List, [], ◌∷◌, ◌++◌, length, Option, Some, None, refl, sym, ap, ◌∙◌, arith}
use Rattle.std.specs.Prelude.{slice_get}
use Rattle.std.specs.List.{list_all, list_any}
use Rattle.std.proofs.lemmas.Bool.{and_parts, and_from, or_parts}
use Rattle.kc_obj_fields.specs.Fields.{last_of}

abbrev pub AfterLast : {X : Type 0} → (X → X → Bool) → Option X → X → Type 0
AfterLast f None x = Unit {0}
AfterLast f (Some y) x = f y x ≡ true

pub last_cons : {X : Type 0} (x y : X) (ys : List X) → last_of (x ∷ y ∷ ys) ≡ last_of (y ∷ ys)
last_cons {X} x y ys =
    let a : suc (suc (length ys)) - 1 ≡ suc (length ys) = omega arith in
    let b : suc (length ys) - 1 ≡ length ys = omega arith in
    ap (λ n. slice_get (x ∷ y ∷ ys) n) a ∙ sym (ap (λ n. slice_get (y ∷ ys) n) b)

pub last_push : {X : Type 0} (xs : List X) (x : X) → last_of (xs ++ x ∷ []) ≡ Some x
last_push [] x = refl
last_push (y ∷ []) x = refl
last_push (y ∷ z ∷ xs) x = last_cons y z (xs ++ x ∷ []) ∙ last_push (z ∷ xs) x

pub ordered_push : {X : Type 0} (f : X → X → Bool) (order : List X → Bool) → ((x : X) → order (x ∷ []) ≡ true) → ((x y : X) (xs : List X) → order (x ∷ y ∷ xs) ≡ (f x y && order (y ∷ xs)))
    → (xs : List X) (x : X) → order xs ≡ true → AfterLast f (last_of xs) x → order (xs ++ x ∷ []) ≡ true
ordered_push f order one more [] x h after = one x
ordered_push f order one more (y ∷ []) x h after = more y x [] ∙ and_from (f y x) (order (x ∷ [])) after (one x)
ordered_push f order one more (y ∷ z ∷ xs) x h after =
    let parts = and_parts (f y z) (order (z ∷ xs)) (sym (more y z xs) ∙ h) in
    let same : AfterLast f (last_of (z ∷ xs)) x = rw (last_cons y z xs) at after in
    more y z (xs ++ x ∷ []) ∙ and_from (f y z) (order (z ∷ (xs ++ x ∷ []))) parts.0 (ordered_push f order one more (z ∷ xs) x parts.1 same)

pub all_push : {X : Type 0} (f : X → Bool) (xs : List X) (x : X) → list_all f xs ≡ true → f x ≡ true → list_all f (xs ++ x ∷ []) ≡ true
all_push f [] x h hx = and_from (f x) true hx refl
all_push f (y ∷ xs) x h hx = let parts = and_parts (f y) (list_all f xs) h in and_from (f y) (list_all f (xs ++ x ∷ [])) parts.0 (all_push f xs x parts.1 hx)

-- none of them passes, so the last does not
pub none_last : {X : Type 0} (f : X → Bool) (xs : List X) (x : X) → list_any f xs ≡ false → last_of xs ≡ Some x → f x ≡ false
none_last f [] x h e = absurd (cc e)
none_last f (y ∷ []) x h e = let same : y ≡ x = cc e in rw (← same) (or_parts (f y) false h).0
none_last f (y ∷ z ∷ xs) x h e = none_last f (z ∷ xs) x (or_parts (f y) (list_any f (z ∷ xs)) h).1 (sym (last_cons y z xs) ∙ e)

pub last_append : {X : Type 0} (xs : List X) (y : X) (ys : List X) → last_of (xs ++ y ∷ ys) ≡ last_of (y ∷ ys)
last_append [] y ys = refl
last_append (x ∷ []) y ys = last_cons x y ys
last_append (x ∷ z ∷ xs) y ys = last_cons x z (xs ++ y ∷ ys) ∙ last_append (z ∷ xs) y ys

pub all_append : {X : Type 0} (f : X → Bool) (xs ys : List X) → list_all f xs ≡ true → list_all f ys ≡ true → list_all f (xs ++ ys) ≡ true
all_append f [] ys h k = k
all_append f (x ∷ xs) ys h k = let parts = and_parts (f x) (list_all f xs) h in and_from (f x) (list_all f (xs ++ ys)) parts.0 (all_append f xs ys parts.1 k)

-- the last of a list of which each passes
pub last_passes : {X : Type 0} (f : X → Bool) (x : X) (xs : List X) → list_all f (x ∷ xs) ≡ true → (y : X) × (last_of (x ∷ xs) ≡ Some y) × (f y ≡ true)
last_passes f x [] h = (x, refl, (and_parts (f x) true h).0)
last_passes f x (y ∷ xs) h = let rest = last_passes f y xs (and_parts (f x) (list_all f (y ∷ xs)) h).1 in (rest.0, last_cons x y xs ∙ rest.1, rest.2)

-- in order as a whole: each part is, and the next element follows the last one
pub ordered_rest : {X : Type 0} (f : X → X → Bool) (order : List X → Bool) → order [] ≡ true → ((x y : X) (xs : List X) → order (x ∷ y ∷ xs) ≡ (f x y && order (y ∷ xs))) → (x : X) (xs : List X) → order (x ∷ xs) ≡ true → order xs ≡ true
ordered_rest f order none more x [] h = none
ordered_rest f order none more x (y ∷ xs) h = (and_parts (f x y) (order (y ∷ xs)) (sym (more x y xs) ∙ h)).1

pub ordered_last : {X : Type 0} (f : X → X → Bool) (order : List X → Bool) → order [] ≡ true → ((x y : X) (xs : List X) → order (x ∷ y ∷ xs) ≡ (f x y && order (y ∷ xs))) → (xs : List X) (x : X) (ys : List X) → order (xs ++ x ∷ ys) ≡ true → AfterLast f (last_of xs) x
ordered_last f order none more [] x ys h = tt
ordered_last f order none more (y ∷ []) x ys h = (and_parts (f y x) (order (x ∷ ys)) (sym (more y x ys) ∙ h)).0
ordered_last f order none more (y ∷ z ∷ xs) x ys h =
    let ih : AfterLast f (last_of (z ∷ xs)) x = ordered_last f order none more (z ∷ xs) x ys (ordered_rest f order none more y (z ∷ (xs ++ x ∷ ys)) h) in
    rw (last_cons y z xs) ih

pub ordered_up_to : {X : Type 0} (f : X → X → Bool) (order : List X → Bool) → ((x : X) → order (x ∷ []) ≡ true) → ((x y : X) (xs : List X) → order (x ∷ y ∷ xs) ≡ (f x y && order (y ∷ xs))) → (xs : List X) (x : X) (ys : List X) → order (xs ++ x ∷ ys) ≡ true → order (xs ++ x ∷ []) ≡ true
ordered_up_to f order one more [] x ys h = one x
ordered_up_to f order one more (y ∷ []) x ys h = more y x [] ∙ and_from (f y x) (order (x ∷ [])) (and_parts (f y x) (order (x ∷ ys)) (sym (more y x ys) ∙ h)).0 (one x)
ordered_up_to f order one more (y ∷ z ∷ xs) x ys h =
    let parts = and_parts (f y z) (order (z ∷ (xs ++ x ∷ ys))) (sym (more y z (xs ++ x ∷ ys)) ∙ h) in
    more y z (xs ++ x ∷ []) ∙ and_from (f y z) (order (z ∷ (xs ++ x ∷ []))) parts.0 (ordered_up_to f order one more (z ∷ xs) x ys parts.1)

pub ordered_prefix : {X : Type 0} (f : X → X → Bool) (order : List X → Bool) → order [] ≡ true → ((x : X) → order (x ∷ []) ≡ true) → ((x y : X) (xs : List X) → order (x ∷ y ∷ xs) ≡ (f x y && order (y ∷ xs))) → (xs ys : List X) → order (xs ++ ys) ≡ true → order xs ≡ true
ordered_prefix f order none one more [] ys h = none
ordered_prefix f order none one more (x ∷ []) ys h = one x
ordered_prefix f order none one more (x ∷ y ∷ xs) ys h =
    let parts = and_parts (f x y) (order (y ∷ (xs ++ ys))) (sym (more x y (xs ++ ys)) ∙ h) in
    more x y xs ∙ and_from (f x y) (order (y ∷ xs)) parts.0 (ordered_prefix f order none one more (y ∷ xs) ys parts.1)

pub all_first : {X : Type 0} (f : X → Bool) (xs ys : List X) → list_all f (xs ++ ys) ≡ true → list_all f xs ≡ true
all_first f [] ys h = refl
all_first f (x ∷ xs) ys h = let parts = and_parts (f x) (list_all f (xs ++ ys)) h in and_from (f x) (list_all f xs) parts.0 (all_first f xs ys parts.1)

pub all_second : {X : Type 0} (f : X → Bool) (xs ys : List X) → list_all f (xs ++ ys) ≡ true → list_all f ys ≡ true
all_second f [] ys h = h
all_second f (x ∷ xs) ys h = all_second f xs ys (and_parts (f x) (list_all f (xs ++ ys)) h).1
