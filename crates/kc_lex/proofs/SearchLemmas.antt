-- A search by halves in a list that is in the order of its texts: what is found has the text, and where nothing is found, nothing
-- has it.
use Rattle.std.proofs.Common.{◌≡◌, ℕ, zero, suc, ◌+◌, ◌<◌, Bool, true, false, refl, sym, ap, subst, ◌∙◌, List, [], ◌∷◌, length, get_or, arith, inl, inr}
use Rattle.std.specs.Prelude.{◌&&◌, not}
use Rattle.std.specs.List.{list_all, list_any}
use Rattle.std.specs.List.Sorted.{IsSortedBy, IsNonDecreasingBy, IsPartitionPoint}
use Rattle.std.specs.Ordering.{nat_cmp, is_lt, is_eq, ordering_index}
use Rattle.std.specs.declared.cmp.Ordering.{Ordering}
use Rattle.std.specs.declared.cmp.Ordering.TheVariants.{Less, Equal, Greater}
use Rattle.std.specs.Cmp.Lexicographic.{slice_cmp}
use Rattle.std.specs.Str.{bytes_eq}
use Rattle.std.proofs.lemmas.Bool.{cases_lt}
use Rattle.std.proofs.lemmas.Cmp.{nat_list_cmp_total}
use Rattle.std.proofs.lemmas.List.Sorted.{searchable_from_sorted}
use Rattle.std.proofs.lemmas.Map.Text.{is_eq-slice_cmp}
use Rattle.std.proofs.lemmas.Slice.Eq.{bytes_eq-Decides}

pub both : (a b : Bool) → (a && b) ≡ true → (a ≡ true) × (b ≡ true)
both true b h = (refl, h)
both false b h = absurd (cc h)

not_true : (a : Bool) → not a ≡ true → a ≡ false
not_true true h = absurd (cc h)
not_true false h = refl

abbrev pub order : List ℕ → List ℕ → Ordering
order a b = slice_cmp nat_cmp a b

pub equal_text : (a b : List ℕ) → order a b ≡ Equal → a ≡ b
equal_text a b h = (bytes_eq-Decides a b).0 (sym (is_eq-slice_cmp a b) ∙ ap is_eq h)

other_text : (a b : List ℕ) (o : Ordering) → order a b ≡ o → is_eq o ≡ false → bytes_eq a b ≡ false
other_text a b o h f = sym (is_eq-slice_cmp a b) ∙ (ap is_eq h ∙ f)

unlike : (p : List ℕ → Bool) (name word : List ℕ) (t : Bool) → bytes_eq name word ≡ t → p name ≡ true → p word ≡ false → bytes_eq name word ≡ false
unlike p name word false e h g = e
unlike p name word true e h g =
    let there : p word ≡ true = subst (λ (w : List ℕ). p w ≡ true) ((bytes_eq-Decides name word).0 e) h in
    absurd (cc (there, g))

module _ {X : Type 0} where
  pub all_at : (p : X → Bool) (xs : List X) (k : ℕ) (d : X) → k < length xs → list_all p xs ≡ true → p (get_or xs k d) ≡ true
  all_at p [] k d l h = absurd (omega arith)
  all_at p (x ∷ xs) zero d l h = (both _ _ h).0
  all_at p (x ∷ xs) (suc k) d l h = all_at p xs k d (omega arith) (both _ _ h).1

  none_any : (p : X → Bool) (xs : List X) → ((k : ℕ) (d : X) → k < length xs → p (get_or xs k d) ≡ false) → list_any p xs ≡ false
  none_any p [] h = refl
  none_any p (x ∷ xs) h = rw (h 0 x (omega arith)) (none_any p xs (λ k d l. h (suc k) d (omega arith)))

  -- what each text of the list is, and the word is not
  pub none_such : (p : List ℕ → Bool) (name : X → List ℕ) (xs : List X) (word : List ℕ) → list_all (λ x. p (name x)) xs ≡ true → p word ≡ false → list_any (λ x. bytes_eq (name x) word) xs ≡ false
  none_such p name [] word h g = refl
  none_such p name (x ∷ xs) word h g = rw (unlike p (name x) word (bytes_eq (name x) word) refl (both _ _ h).0 g) (none_such p name xs word (both _ _ h).1 g)

  abbrev pub ascends : (X → List ℕ) → List X → Bool
  ascends name [] = true
  ascends name (a ∷ []) = true
  ascends name (a ∷ b ∷ rest) = not (is_lt (order (name b) (name a))) && ascends name (b ∷ rest)

  is_sorted : (name : X → List ℕ) (xs : List X) → ascends name xs ≡ true → IsSortedBy (λ a b. is_lt (order (name a) (name b))) xs
  is_sorted name [] h k d l m = absurd (omega arith)
  is_sorted name (a ∷ []) h k d l m = absurd (omega arith)
  is_sorted name (a ∷ b ∷ rest) h zero d l m = not_true _ (both _ _ h).0
  is_sorted name (a ∷ b ∷ rest) h (suc k) d l m =
      let next : suc (k + 1) ≡ suc k + 1 = omega arith in
      subst (λ (n : ℕ). is_lt (order (name (get_or (a ∷ b ∷ rest) n d)) (name (get_or (b ∷ rest) k d))) ≡ false) next (is_sorted name (b ∷ rest) (both _ _ h).1 k d (omega arith) (omega arith))

  abbrev pub IsParted : (X → List ℕ) → List X → List ℕ → ℕ → Type 0
  IsParted name xs word i = IsNonDecreasingBy (λ x. ordering_index (order (name x) word)) xs →
      IsPartitionPoint (λ x. order (name x) word ≡ Less) (λ x. order (name x) word ≡ Greater) xs i

  pub none_has : (name : X → List ℕ) (xs : List X) → ascends name xs ≡ true → (word : List ℕ) (i : ℕ) → IsParted name xs word i → list_any (λ x. bytes_eq (name x) word) xs ≡ false
  none_has name xs sorted word i h =
      let parts = h (searchable_from_sorted nat_list_cmp_total name xs word (is_sorted name xs sorted)) in
      none_any (λ x. bytes_eq (name x) word) xs (λ k d l. elim (cases_lt k i) [
        | inl less ↦ other_text (name (get_or xs k d)) word Less (parts.0 k d (omega arith) less) refl
        | inr more ↦ other_text (name (get_or xs k d)) word Greater (parts.1 k d more l) refl
      ])
