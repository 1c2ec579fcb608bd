-- Tests that hold of all items of lists.
use Rattle.std.proofs.Common.{◌≡◌, ℕ, zero, suc, Bool, true, false, cond, List, [], ◌∷◌, ◌++◌, map, drop, take, get_or, Option, Some, None, Result, Ok, Err, refl}
use Rattle.std.specs.Option.{option_map}
use Rattle.std.specs.List.{list_all}
use Rattle.std.proofs.lemmas.Bool.{and_parts, and_from}

pub all_split : {A : Type 0} (p : A → Bool) (xs ys : List A) → list_all p (xs ++ ys) ≡ true → (list_all p xs ≡ true) × (list_all p ys ≡ true)
all_split p [] ys h = (refl, h)
all_split p (x ∷ xs) ys h =
    let both : (p x ≡ true) × (list_all p (xs ++ ys) ≡ true) = and_parts (p x) (list_all p (xs ++ ys)) h in
    let rest : (list_all p xs ≡ true) × (list_all p ys ≡ true) = all_split p xs ys both.1 in
    (and_from (p x) (list_all p xs) both.0 rest.0, rest.1)

pub all_join : {A : Type 0} (p : A → Bool) (xs ys : List A) → list_all p xs ≡ true → list_all p ys ≡ true → list_all p (xs ++ ys) ≡ true
all_join p [] ys h k = k
all_join p (x ∷ xs) ys h k =
    let both : (p x ≡ true) × (list_all p xs ≡ true) = and_parts (p x) (list_all p xs) h in
    and_from (p x) (list_all p (xs ++ ys)) both.0 (all_join p xs ys both.1 k)

pub all_drop : {A : Type 0} (p : A → Bool) (n : ℕ) (xs : List A) → list_all p xs ≡ true → list_all p (drop n xs) ≡ true
all_drop p zero xs h = h
all_drop p (suc n) [] h = refl
all_drop p (suc n) (x ∷ xs) h = all_drop p n xs (and_parts (p x) (list_all p xs) h).1

pub all_take : {A : Type 0} (p : A → Bool) (n : ℕ) (xs : List A) → list_all p xs ≡ true → list_all p (take n xs) ≡ true
all_take p zero xs h = refl
all_take p (suc n) [] h = refl
all_take p (suc n) (x ∷ xs) h =
    let both : (p x ≡ true) × (list_all p xs ≡ true) = and_parts (p x) (list_all p xs) h in
    and_from (p x) (list_all p (take n xs)) both.0 (all_take p n xs both.1)

pub all_map : {A B : Type 0} (p : B → Bool) (q : A → Bool) (f : A → B) (xs : List A) → ((x : A) → q x ≡ true → p (f x) ≡ true) → list_all q xs ≡ true → list_all p (map f xs) ≡ true
all_map p q f [] each h = refl
all_map p q f (x ∷ xs) each h =
    let both : (q x ≡ true) × (list_all q xs ≡ true) = and_parts (q x) (list_all q xs) h in
    and_from (p (f x)) (list_all p (map f xs)) (each x both.0) (all_map p q f xs each both.1)

pub all_or : {A : Type 0} (p : A → Bool) (xs : List A) (k : ℕ) (d : A) → list_all p xs ≡ true → p d ≡ true → p (get_or xs k d) ≡ true
all_or p [] k d h e = e
all_or p (x ∷ xs) zero d h e = (and_parts (p x) (list_all p xs) h).0
all_or p (x ∷ xs) (suc k) d h e = all_or p xs k d (and_parts (p x) (list_all p xs) h).1 e

-- ---- a value, where there is one

abbrev pub Holds : {A : Type 0} → (A → Bool) → Option A → Type 0
Holds p None = Unit {0}
Holds p (Some x) = p x ≡ true

pub holds_at : {A : Type 0} (p : A → Bool) (o : Option A) (x : A) → Holds p o → o ≡ Some x → p x ≡ true
holds_at p None x h e = absurd (cc e)
holds_at p (Some y) x h e = let same : y ≡ x = cc e in rw (← same) h

pub mapped : {A B : Type 0} (q : A → Bool) (p : B → Bool) (f : A → B) (o : Option A) → Holds q o → ((x : A) → q x ≡ true → p (f x) ≡ true) → Holds p (option_map f o)
mapped q p f None held h = tt
mapped q p f (Some x) held h = h x held

pub always : {A B : Type 0} (p : B → Bool) (f : A → B) (o : Option A) → ((x : A) → p (f x) ≡ true) → Holds p (option_map f o)
always p f None h = tt
always p f (Some x) h = h x

pub either : {A : Type 0} (p : A → Bool) (b : Bool) (x y : Option A) → Holds p x → Holds p y → Holds p (cond b x y)
either p true x y h k = h
either p false x y h k = k

-- ---- a result, where there is no fault

abbrev pub HoldsOk : {A E : Type 0} → (A → Bool) → Result A E → Type 0
HoldsOk p (Ok x) = p x ≡ true
HoldsOk p (Err e) = Unit {0}

pub ok_at : {A E : Type 0} (p : A → Bool) (r : Result A E) (x : A) → HoldsOk p r → r ≡ Ok x → p x ≡ true
ok_at p (Ok y) x h e = let same : y ≡ x = cc e in rw (← same) h
ok_at p (Err f) x h e = absurd (cc e)

pub one_ok : {A E : Type 0} (p : A → Bool) (b : Bool) (x y : Result A E) → HoldsOk p x → HoldsOk p y → HoldsOk p (cond b x y)
one_ok p true x y h k = h
one_ok p false x y h k = k
