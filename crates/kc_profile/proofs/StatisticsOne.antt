-- The statistics of some states as a value.
use Rattle.std.proofs.Common.{◌≡◌, ℕ, zero, suc, ◌+◌, ◌<◌, ◌≤◌, ◌⊎◌, inl, inr, List, [], ◌∷◌, ◌++◌, length, get_or, refl, sym, ap, ◌∙◌, length-append, arith}
use Rattle.std.specs.Prelude.{count_by, slice_index, slice_index_or}
use Rattle.std.proofs.lemmas.Bool.{cases_lt}
use Rattle.std.proofs.lemmas.List.{ext_get_or, get_or_push, get_or_append_left}
use Rattle.kc_profile.specs.declared.sight.Sight.{Sight}
use Rattle.kc_profile.specs.declared.sight.Way.TheVariants.{Taken, Passed}
use Rattle.kc_profile.specs.declared.waits.Waits.{Waits}
use Rattle.kc_profile.specs.Waits.{AreWaitsOf, no_waits}
use Rattle.kc_profile.specs.Statistics.{StatisticsAreOne, is_hit, is_way, values_for, waits_at, waits_of}

module _ {A : Type 0} (value : ℕ → A) (other : A) where
  values-length : (n : ℕ) → length (values_for value n) ≡ n
  unfolding values_for
  values-length zero = refl
  values-length (suc n) =
      let longer : length (values_for value n ++ value n ∷ []) ≡ length (values_for value n) + 1 = length-append (values_for value n) (value n ∷ []) in
      omega (arith, longer, values-length n)

  values-at : (n i : ℕ) → i < n → get_or (values_for value n) i other ≡ value i
  unfolding values_for
  values-at zero i within = absurd (omega (arith, within))
  values-at (suc n) i within = by_place (values-length n) (λ before. values-at n i before) (cases_lt i n)
    where
      by_place : length (values_for value n) ≡ n → (i < n → get_or (values_for value n) i other ≡ value i) → (i < n) ⊎ (n ≤ i) → get_or (values_for value n ++ value n ∷ []) i other ≡ value i
      by_place long rest (inl before) = get_or_append_left (values_for value n) (value n ∷ []) other i (omega (arith, before, long)) ∙ rest before
      by_place long rest (inr last) =
          let e : n ≡ i = omega (arith, last, within) in
          get_or_push (values_for value n) (value n) other i (long ∙ e) ∙ ap value e

  same-values : (n : ℕ) (xs : List A) → length xs ≡ n → ((i : ℕ) → i < n → get_or xs i other ≡ value i) → xs ≡ values_for value n
  same-values n xs long each =
      ext_get_or other xs (values_for value n) (long ∙ sym (values-length n)) (λ i within. each i (omega (arith, within, long)) ∙ sym (values-at n i (omega (arith, within, long))))

waits-one : (n life : ℕ) (sights : List Sight) (w : Waits) → AreWaitsOf n life sights w → w ≡ waits_of n life sights
waits-one n life sights w is = λ j. record {
  waiting = record { pending = is.pending j; handed = is.handed j };
  latency = is.latency j;
  served = is.served j;
  missed = is.missed j;
}

pub statistics_are_one : StatisticsAreOne
statistics_are_one life sights t number is = λ j. record {
  life = number j;
  waits = same-values (λ n. waits_of n life sights) no_waits 16 t.waits is.whole.waits (λ n below. waits-one n life sights (waits_at t n) (is.waits n below)) j;
  deepest = is.deepest j;
  hits = same-values (λ addr. count_by (is_hit addr) sights) 0 65536 t.hits is.whole.hits (λ addr below. is.hits addr) j;
  taken = same-values (λ addr. count_by (is_way Taken addr) sights) 0 65536 t.taken is.whole.taken (λ addr below. is.taken addr) j;
  passed = same-values (λ addr. count_by (is_way Passed addr) sights) 0 65536 t.passed is.whole.passed (λ addr below. is.passed addr) j;
}
