-- Bytes that are shown one after the other, and activities that are reported so.
use Rattle.std.proofs.Common.{◌≡◌, ℕ, suc, ◌+◌, ◌-◌, ◌*◌, ◌%◌, ◌^◌, ◌<◌, ◌≤◌, min, max, List, [], ◌∷◌, ◌++◌, Some, None, length, take, drop, get_or, flat_map, refl, sym, ap, subst, ◌∙◌, append-nil, arith, length-take, length-take-le, inl, inr}
use Rattle.std.specs.Prelude.{slice_get}
use Rattle.std.proofs.lemmas.Bool.{cases_lt}
use Rattle.std.proofs.lemmas.Grind.{flat_map-append}
use Rattle.std.proofs.lemmas.List.{drop_all, drop-append-le, take_more, take_all}
use Rattle.std.proofs.lemmas.Option.{get_or_from_slice_get, slice_get_cases}
use Rattle.kc_extra.specs.Further.{Further}
use Rattle.kc_trace.specs.Out.{Out, Puts}
use Rattle.kc_trace.specs.Text.{hex}
use Rattle.kc_trace.proofs.Outs.{Puts-nothing, Puts-append}
use Rattle.kc_machine_spec.specs.Machine.{Machine}
use Rattle.kc_machine_spec.specs.Peeking.{peeked}
use Rattle.kc_debug.specs.Lines.{shown_bytes, memory_line, memory_rows}

module _ {X : Type 0} (f : Further X) (m : Machine X) where
  pub bytes-none : (from : ℕ) → shown_bytes f m from 0 ≡ []
  unfolding shown_bytes
  bytes-none from = refl

  pub bytes-more : (from n : ℕ) → shown_bytes f m from (n + 1) ≡ shown_bytes f m from n ++ hex 2 (peeked f m ((from + n) % 2 ^ 16))
  unfolding shown_bytes
  bytes-more from n = let e : n + 1 ≡ suc n = omega arith in ap (shown_bytes f m from) e

  pub rows-none : (from count : ℕ) → memory_rows f m from count 0 ≡ []
  unfolding memory_rows
  rows-none from count = refl

  pub rows-more : (from count n : ℕ) → memory_rows f m from count (n + 1) ≡ memory_rows f m from count n ++ memory_line f m ((from + 16 * n) % 2 ^ 16) (min (count - 16 * n) 16)
  unfolding memory_rows
  rows-more from count n = let e : n + 1 ≡ suc n = omega arith in ap (memory_rows f m from count) e

module _ {A : Type 0} (line : A → List ℕ) where
  -- no item yet
  pub reported-none : (o : Out) (first : ℕ) (xs : List A) → Puts o (flat_map line (drop first (take first xs))) o
  reported-none o first xs =
      let none : drop first (take first xs) ≡ [] = drop_all first (take first xs) (omega (arith, length-take first xs)) in
      subst (λ ys. Puts o (flat_map line ys) o) (sym none) (Puts-nothing o)

  -- one item more
  pub reported-more : (o p q : Out) (first n : ℕ) (xs : List A) (x : A) → first ≤ n → n < length xs → get_or xs n x ≡ x →
      Puts o (flat_map line (drop first (take n xs))) p → Puts p (line x) q → Puts o (flat_map line (drop first (take (n + 1) xs))) q
  reported-more o p q first n xs x after within is h k =
      let more : take (n + 1) xs ≡ take n xs ++ x ∷ [] = take_more xs n x within ∙ ap (λ y. take n xs ++ y ∷ []) is in
      let longer : drop first (take (n + 1) xs) ≡ drop first (take n xs) ++ x ∷ [] =
      ap (drop first) more ∙ drop-append-le first (take n xs) (x ∷ []) (omega (arith, length-take-le n xs)) in
      let text : flat_map line (drop first (take (n + 1) xs)) ≡ flat_map line (drop first (take n xs)) ++ line x =
      ap (flat_map line) longer ∙ flat_map-append line (drop first (take n xs)) (x ∷ []) ∙ ap (λ ys. flat_map line (drop first (take n xs)) ++ ys) (append-nil (line x)) in
      subst (λ ys. Puts o ys q) (sym text) (Puts-append o (flat_map line (drop first (take n xs))) p (line x) q h k)

-- the item that was asked for
pub got : {A : Type 0} (xs : List A) (n : ℕ) (x : A) → Some x ≡ slice_get xs n → get_or xs n x ≡ x
got xs n x e = get_or_from_slice_get xs n x x (sym e)

pub got-within : {A : Type 0} (xs : List A) (n : ℕ) (x : A) → Some x ≡ slice_get xs n → n < length xs
got-within xs n x e = elim (slice_get_cases xs n).1 [
  | inl some ↦ some.1
  | inr none ↦ absurd (let f : Some x ≡ None = e ∙ none.1 in cc)
]

-- an item that is not there
pub lost-behind : {A : Type 0} (xs : List A) (n : ℕ) → None ≡ slice_get xs n → length xs ≤ n
lost-behind xs n e = elim (slice_get_cases xs n).1 [
  | inl some ↦ absurd (let f : None ≡ Some some.0 = e ∙ some.2 in cc)
  | inr none ↦ none.0
]

pub reported-same : {A : Type 0} (line : A → List ℕ) (o p : Out) (first n : ℕ) (xs : List A) → length xs ≤ n → Puts o (flat_map line (drop first (take n xs))) p → Puts o (flat_map line (drop first (take (n + 1) xs))) p
reported-same line o p first n xs past h = subst (λ ys. Puts o (flat_map line (drop first ys)) p) (take_all n xs past ∙ sym (take_all (n + 1) xs (omega arith))) h

-- the last item of some
pub reported-last : {A : Type 0} (line : A → List ℕ) (o p : Out) (first n end : ℕ) (xs : List A) → end ≤ n → first ≤ n → n ≤ max first end → Puts o (flat_map line (drop first (take n xs))) p → Puts o (flat_map line (drop first (take end xs))) p
reported-last line o p first n end xs past after within h = subst (λ ys. Puts o (flat_map line ys) p) (elim (cases_lt first end) [
  | inl less ↦ let same : n ≡ end = omega (arith, less) in ap (λ k. drop first (take k xs)) same
  | inr behind ↦
      let one : drop first (take n xs) ≡ [] = drop_all first (take n xs) (omega (arith, length-take n xs, behind)) in
      let other : drop first (take end xs) ≡ [] = drop_all first (take end xs) (omega (arith, length-take end xs, behind)) in
      one ∙ sym other
]) h
