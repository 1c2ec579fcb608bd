-- Elements of lists that are read, set, mapped and tested.
use Rattle.std.proofs.Common.{◌≡◌, ℕ, zero, suc, Bool, true, List, [], ◌∷◌, ◌++◌, map, set, reverse, length, get_or, refl, sym, ap, ◌∙◌, subst}
use Rattle.std.specs.Prelude.{Some, None, slice_get}
use Rattle.std.specs.List.{list_all, AllByRecursion}
use Rattle.std.proofs.lemmas.Bool.{and_parts}
use Rattle.std.proofs.lemmas.List.Folds.{list_all-append}
use Rattle.kc_asm_symbols.proofs.KnownLemmas.{test_reverse}

module _ {A : Type 0} where
  pub no_element : (x : A) → None ≡ Some x → ⊥
  no_element x e = cc

  pub same_element : (x y : A) → Some x ≡ Some y → x ≡ y
  same_element x y e = cc

  pub prefix_at : (xs ys : List A) (i : ℕ) (x : A) → slice_get xs i ≡ Some x → slice_get (xs ++ ys) i ≡ Some x
  prefix_at [] ys i x e = absurd (no_element x e)
  prefix_at (y ∷ xs) ys zero x e = e
  prefix_at (y ∷ xs) ys (suc i) x e = prefix_at xs ys i x e

  pub last_at : (xs : List A) (x : A) → slice_get (xs ++ x ∷ []) (length xs) ≡ Some x
  last_at [] x = refl
  last_at (y ∷ xs) x = last_at xs x

  pub seam : (before after : List A) (x : A) → slice_get (before ++ x ∷ after) (length before) ≡ Some x
  seam [] after x = refl
  seam (y ∷ before) after x = seam before after x

  pub set_itself : (xs : List A) (i : ℕ) (x y : A) → slice_get xs i ≡ Some x → slice_get (set xs i y) i ≡ Some y
  set_itself [] i x y e = absurd (no_element x e)
  set_itself (z ∷ xs) zero x y e = refl
  set_itself (z ∷ xs) (suc i) x y e = set_itself xs i x y e

  pub index_at : (xs : List A) (i : ℕ) (x d : A) → slice_get xs i ≡ Some x → get_or xs i d ≡ x
  index_at [] i x d e = absurd (no_element x e)
  index_at (y ∷ xs) zero x d e = same_element y x e
  index_at (y ∷ xs) (suc i) x d e = index_at xs i x d e

  pub all_at : (P : A → Type 0) (xs : List A) (i : ℕ) (x : A) → slice_get xs i ≡ Some x → AllByRecursion P xs → P x
  all_at P [] i x e h = absurd (no_element x e)
  all_at P (y ∷ xs) zero x e h = subst P (same_element y x e) h.0
  all_at P (y ∷ xs) (suc i) x e h = all_at P xs i x e h.1

  pub all_set : (P : A → Type 0) (xs : List A) (i : ℕ) (y : A) → P y → AllByRecursion P xs → AllByRecursion P (set xs i y)
  all_set P [] i y p h = tt
  all_set P (x ∷ xs) zero y p h = (p, h.1)
  all_set P (x ∷ xs) (suc i) y p h = (h.0, all_set P xs i y p h.1)

  pub all_pushed : (P : A → Type 0) (xs : List A) (y : A) → P y → AllByRecursion P xs → AllByRecursion P (xs ++ y ∷ [])
  all_pushed P [] y p h = (p, tt)
  all_pushed P (x ∷ xs) y p h = (h.0, all_pushed P xs y p h.1)

module _ {A B : Type 0} (f : A → B) where
  pub mapped_at : (xs : List A) (i : ℕ) (x : A) → slice_get xs i ≡ Some x → slice_get (map f xs) i ≡ Some (f x)
  mapped_at [] i x e = absurd (no_element x e)
  mapped_at (y ∷ xs) zero x e = ap (λ (z : A). Some (f z)) (same_element y x e)
  mapped_at (y ∷ xs) (suc i) x e = mapped_at xs i x e

  pub mapped_set : (xs : List A) (i : ℕ) (y : A) → map f (set xs i y) ≡ set (map f xs) i (f y)
  mapped_set [] i y = refl
  mapped_set (x ∷ xs) zero y = refl
  mapped_set (x ∷ xs) (suc i) y = ap (λ (zs : List B). f x ∷ zs) (mapped_set xs i y)

  pub mapped_same : (xs : List A) (i : ℕ) (x y : A) → slice_get xs i ≡ Some x → f y ≡ f x → map f (set xs i y) ≡ map f xs
  mapped_same [] i x y e s = refl
  mapped_same (z ∷ xs) zero x y e s = ap (λ (w : B). w ∷ map f xs) (s ∙ ap f (sym (same_element z x e)))
  mapped_same (z ∷ xs) (suc i) x y e s = ap (λ (ws : List B). f z ∷ ws) (mapped_same xs i x y e s)

  pub mapped_pushed : (xs : List A) (y : A) → map f (xs ++ y ∷ []) ≡ map f xs ++ f y ∷ []
  mapped_pushed [] y = refl
  mapped_pushed (x ∷ xs) y = ap (λ (ws : List B). f x ∷ ws) (mapped_pushed xs y)

  pub mapped_length : (xs : List A) → length (map f xs) ≡ length xs
  mapped_length [] = refl
  mapped_length (x ∷ xs) = ap suc (mapped_length xs)

-- a test of all elements holds of one of them and of those before it, the latest first
pub split_test : {X : Type 0} (p : X → Bool) (all before after : List X) (l : X) → list_all p all ≡ true → all ≡ reverse before ++ l ∷ after → (list_all p before ≡ true) × (p l ≡ true)
split_test p all before after l h whole =
    let split = sym (list_all-append p (reverse before) (l ∷ after)) ∙ ap (list_all p) (sym whole) ∙ h in
    let parts = and_parts (list_all p (reverse before)) (list_all p (l ∷ after)) split in
    (test_reverse p before parts.0, (and_parts (p l) (list_all p after) parts.1).0)

-- two lists that are empty together
pub nothing_left : {A : Type 0} (xs ys : List A) → xs ++ ys ≡ [] → (xs ≡ []) × (ys ≡ [])
nothing_left [] ys e = (refl, e)
nothing_left (x ∷ xs) ys e = absurd (cc e)
