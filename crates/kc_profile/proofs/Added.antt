-- Numbers added to others, each to its own, one after the other.
use Rattle.std.proofs.Common.{◌≡◌, ℕ, zero, suc, ◌+◌, ◌<◌, ◌≤◌, ◌⊎◌, inl, inr, List, [], ◌∷◌, length, get_or, refl, sym, ap, ◌∙◌, arith}
use Rattle.std.specs.Prelude.{slice_index, slice_index_or, slice_set, sum}
use Rattle.std.proofs.lemmas.Bool.{cases_lt, cases_eq}
use Rattle.std.proofs.lemmas.List.{ext_get_or, get_or_default}
use Rattle.std.proofs.lemmas.Grind.{common_steps}
use Rattle.kc_profile.specs.declared.waits.Waits.{Waits}
use Rattle.kc_profile.specs.declared.sight.Sight.{Sight}
use Rattle.kc_profile.specs.Waits.{added, no_waits, see}
use Rattle.kc_profile.specs.Statistics.{HaveSeen, all_added}
use Rattle.kc_profile.specs.Tally.{sums}

-- the first so many have been added to, and the others not
pub record HaveAdded {A : Type 0} (plus : A → A → A) (count : ℕ) (old more now : List A) : Type 0 where
  pub many : length now ≡ length old
  pub first : (k : ℕ) (d : A) → k < count → k < length old → get_or now k d ≡ plus (get_or old k d) (get_or more k d)
  pub rest : (k : ℕ) (d : A) → count ≤ k → get_or now k d ≡ get_or old k d

module _ {A : Type 0} (plus : A → A → A) where
  pub added-none : (old more : List A) → HaveAdded plus 0 old more old
  added-none old more = record { many = refl; first = λ k d below within. absurd (omega (arith, below)); rest = λ k d past. refl }

  pub set-there : (xs : List A) (i : ℕ) (x : A) (k : ℕ) (d : A) → k ≡ i → i < length xs → get_or (slice_set xs i x) k d ≡ x
  set-there xs i x k d same within = grind (arith, common_steps)

  pub set-else : (xs : List A) (i : ℕ) (x : A) (k : ℕ) (d : A) → (k ≡ i → ⊥) → get_or (slice_set xs i x) k d ≡ get_or xs k d
  set-else xs i x k d other = grind (arith, common_steps)

  pub set-long : (xs : List A) (i : ℕ) (x : A) → length (slice_set xs i x) ≡ length xs
  set-long xs i x = grind (arith, common_steps)

  pub added-next : (i : ℕ) (old more now new : List A) (x : A) → HaveAdded plus i old more now → i < length now → length old ≡ length more → new ≡ slice_set now i x → ((d : A) → x ≡ plus (get_or now i d) (get_or more i d)) → HaveAdded plus (i + 1) old more new
  added-next i old more now new x h within same is value = record {
    many = ap length is ∙ set-long now i x ∙ h.many;
    first = λ k d below inside. by k d inside below (cases_lt k i);
    rest = λ k d past. ap (λ l. get_or l k d) is ∙ set-else now i x k d (λ e. omega (arith, e, past)) ∙ h.rest k d (omega (arith, past));
  }
    where
      by : (k : ℕ) (d : A) → k < length old → k < i + 1 → (k < i) ⊎ (i ≤ k) → get_or new k d ≡ plus (get_or old k d) (get_or more k d)
      by k d inside below (inl less) = ap (λ l. get_or l k d) is ∙ set-else now i x k d (λ e. omega (arith, e, less)) ∙ h.first k d less inside
      by k d inside below (inr here) =
          let e : k ≡ i = omega (arith, below, here) in
          ap (λ l. get_or l k d) is
          ∙ set-there now i x k d e within
          ∙ value d
          ∙ ap (λ y. plus y (get_or more i d)) (h.rest i d (omega arith))
          ∙ ap (λ m. plus (get_or old m d) (get_or more m d)) (sym e)

-- ---- numbers

pub sums-long : (xs ys : List ℕ) → length xs ≡ length ys → length (sums xs ys) ≡ length xs
unfolding sums
sums-long [] ys e = refl
sums-long (x ∷ xs) [] e = absurd (omega (arith, e))
sums-long (x ∷ xs) (y ∷ ys) e = ap suc (sums-long xs ys (omega (arith, e)))

pub sums-at : (xs ys : List ℕ) (k : ℕ) → length xs ≡ length ys → k < length xs → get_or (sums xs ys) k 0 ≡ get_or xs k 0 + get_or ys k 0
unfolding sums
sums-at [] ys k e below = absurd (omega (arith, below))
sums-at (x ∷ xs) [] k e below = absurd (omega (arith, e))
sums-at (x ∷ xs) (y ∷ ys) zero e below = refl
sums-at (x ∷ xs) (y ∷ ys) (suc k) e below = sums-at xs ys k (omega (arith, e)) (omega (arith, below))

pub added_sums : (i : ℕ) (old more now : List ℕ) → HaveAdded (λ n m. n + m) i old more now → length old ≤ i → length old ≡ length more → now ≡ sums old more
added_sums i old more now h all same =
    ext_get_or 0 now (sums old more) (h.many ∙ sym (sums-long old more same)) (λ k below.
    h.first k 0 (omega (arith, below, h.many, all)) (omega (arith, below, h.many)) ∙ sym (sums-at old more k same (omega (arith, below, h.many))))

-- ---- requests

pub all-long : (xs ys : List Waits) → length xs ≡ length ys → length (all_added xs ys) ≡ length xs
unfolding all_added
all-long [] ys e = refl
all-long (x ∷ xs) [] e = absurd (omega (arith, e))
all-long (x ∷ xs) (y ∷ ys) e = ap suc (all-long xs ys (omega (arith, e)))

pub all-at : (xs ys : List Waits) (k : ℕ) (d : Waits) → length xs ≡ length ys → k < length xs → get_or (all_added xs ys) k d ≡ added (get_or xs k d) (get_or ys k d)
unfolding all_added
all-at [] ys k d e below = absurd (omega (arith, below))
all-at (x ∷ xs) [] k d e below = absurd (omega (arith, e))
all-at (x ∷ xs) (y ∷ ys) zero d e below = refl
all-at (x ∷ xs) (y ∷ ys) (suc k) d e below = all-at xs ys k d (omega (arith, e)) (omega (arith, below))

pub added_waits : (i : ℕ) (old more now : List Waits) → HaveAdded added i old more now → length old ≤ i → length old ≡ length more → now ≡ all_added old more
added_waits i old more now h all same =
    ext_get_or no_waits now (all_added old more) (h.many ∙ sym (all-long old more same)) (λ k below.
    h.first k no_waits (omega (arith, below, h.many, all)) (omega (arith, below, h.many)) ∙ sym (all-at old more k no_waits same (omega (arith, below, h.many))))

-- the first so many requests have seen a state, and the others not
pub record SeenTo (count life : ℕ) (s : Sight) (old now : List Waits) : Type 0 where
  pub many : length now ≡ length old
  pub first : (k : ℕ) (d : Waits) → k < count → k < length old → get_or now k d ≡ see k life s (get_or old k d)
  pub rest : (k : ℕ) (d : Waits) → count ≤ k → get_or now k d ≡ get_or old k d

pub seen_none : (life : ℕ) (s : Sight) (old : List Waits) → SeenTo 0 life s old old
seen_none life s old = record { many = refl; first = λ k d below within. absurd (omega (arith, below)); rest = λ k d past. refl }

pub seen_next : (i life : ℕ) (s : Sight) (old now new : List Waits) (x : Waits) → SeenTo i life s old now → i < length now → new ≡ slice_set now i x → ((d : Waits) → x ≡ see i life s (get_or now i d)) → SeenTo (i + 1) life s old new
seen_next i life s old now new x h within is value = record {
  many = ap length is ∙ set-long added now i x ∙ h.many;
  first = λ k d below inside. by k d inside below (cases_lt k i);
  rest = λ k d past. ap (λ l. get_or l k d) is ∙ set-else added now i x k d (λ e. omega (arith, e, past)) ∙ h.rest k d (omega (arith, past));
}
  where
    by : (k : ℕ) (d : Waits) → k < length old → k < i + 1 → (k < i) ⊎ (i ≤ k) → get_or new k d ≡ see k life s (get_or old k d)
    by k d inside below (inl less) = ap (λ l. get_or l k d) is ∙ set-else added now i x k d (λ e. omega (arith, e, less)) ∙ h.first k d less inside
    by k d inside below (inr here) =
        let e : k ≡ i = omega (arith, below, here) in
        ap (λ l. get_or l k d) is
        ∙ set-there added now i x k d e within
        ∙ value d
        ∙ ap (λ y. see i life s y) (h.rest i d (omega arith))
        ∙ ap (λ m. see m life s (get_or old m d)) (sym e)

pub have_seen : (i life : ℕ) (s : Sight) (old now : List Waits) → SeenTo i life s old now → 16 ≤ i → length old ≡ 16 → HaveSeen life s old now
have_seen i life s old now h all long = record { many = h.many; each = λ n below. h.first n no_waits (omega (arith, below, all)) (omega (arith, below, long)) }
