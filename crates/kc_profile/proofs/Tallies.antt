-- A tally as a value.
use Rattle.std.proofs.Common.{◌≡◌, ℕ, zero, suc, ◌+◌, ◌<◌, ◌≤◌, ◌⊎◌, inl, inr, List, [], ◌∷◌, ◌++◌, length, get_or, refl, sym, ap, ◌∙◌, length-append, arith}
use Rattle.std.specs.Prelude.{slice_index}
use Rattle.std.proofs.lemmas.Bool.{cases_lt}
use Rattle.std.proofs.lemmas.List.{ext_get_or, get_or_push, get_or_append_left}
use Rattle.kc_profile.specs.declared.spot.Spot.{Spot}
use Rattle.kc_profile.specs.declared.spot.Spot.TheVariants.{At, Entry, Server, Idle}
use Rattle.kc_profile.specs.Spots.{spent_at}
use Rattle.kc_profile.specs.Tally.{numbers_for, TalliesAreOne}

numbers-length : (kind : ℕ → Spot) (n : ℕ) (spots : List Spot) → length (numbers_for kind n spots) ≡ n
unfolding numbers_for
numbers-length kind zero spots = refl
numbers-length kind (suc n) spots =
    let longer : length (numbers_for kind n spots ++ spent_at (kind n) spots ∷ []) ≡ length (numbers_for kind n spots) + 1 = length-append (numbers_for kind n spots) (spent_at (kind n) spots ∷ []) in
    omega (arith, longer, numbers-length kind n spots)

numbers-at : (kind : ℕ → Spot) (n : ℕ) (spots : List Spot) (i : ℕ) → i < n → get_or (numbers_for kind n spots) i 0 ≡ spent_at (kind i) spots
unfolding numbers_for
numbers-at kind zero spots i within = absurd (omega (arith, within))
numbers-at kind (suc n) spots i within = by_place (numbers-length kind n spots) (λ before. numbers-at kind n spots i before) (cases_lt i n)
  where
    by_place : length (numbers_for kind n spots) ≡ n → (i < n → get_or (numbers_for kind n spots) i 0 ≡ spent_at (kind i) spots) → (i < n) ⊎ (n ≤ i) → get_or (numbers_for kind n spots ++ spent_at (kind n) spots ∷ []) i 0 ≡ spent_at (kind i) spots
    by_place long rest (inl before) = get_or_append_left (numbers_for kind n spots) (spent_at (kind n) spots ∷ []) 0 i (omega (arith, before, long)) ∙ rest before
    by_place long rest (inr last) =
        let e : n ≡ i = omega (arith, last, within) in
        get_or_push (numbers_for kind n spots) (spent_at (kind n) spots) 0 i (long ∙ e) ∙ ap (λ k. spent_at (kind k) spots) e

same-numbers : (kind : ℕ → Spot) (n : ℕ) (spots : List Spot) (xs : List ℕ) → length xs ≡ n → ((i : ℕ) → slice_index xs i ≡ spent_at (kind i) spots) → xs ≡ numbers_for kind n spots
same-numbers kind n spots xs long each =
    ext_get_or 0 xs (numbers_for kind n spots) (long ∙ sym (numbers-length kind n spots)) (λ i within. each i ∙ sym (numbers-at kind n spots i (omega (arith, within, long))))

pub tallies_are_one : TalliesAreOne
tallies_are_one spots t is = λ j. record {
  at = same-numbers At 65536 spots t.at is.whole.at (λ i. is.each (At i)) j;
  entries = same-numbers Entry 256 spots t.entries is.whole.entries (λ i. is.each (Entry i)) j;
  server = same-numbers Server 256 spots t.server is.whole.server (λ i. is.each (Server i)) j;
  idle = is.each Idle j;
}
