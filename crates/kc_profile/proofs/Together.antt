-- The numbers of two profiles, added.
use Rattle.std.proofs.Common.{◌≡◌, ℕ, zero, suc, ◌+◌, ◌<◌, ◌^◌, cond, List, [], ◌∷◌, ◌++◌, length, refl, sym, ap, subst, ◌∙◌, length-append, arith}
use Rattle.std.specs.Prelude.{slice_index, sum}
use Rattle.std.proofs.lemmas.List.Sums.{sum_by-append}
use Rattle.kc_profile.specs.declared.spot.Spot.{Spot}
use Rattle.kc_profile.specs.declared.spot.Spot.TheVariants.{At, Entry, Server, Idle}
use Rattle.kc_profile.specs.Spots.{is_spot, spent_at}
use Rattle.kc_profile.specs.Tally.{Tally, IsTallyOf, IsWhole, both, number_of, sums, total}
use Rattle.kc_profile.proofs.Added.{sums-long}

sum-first : (x : ℕ) (xs : List ℕ) → sum (x ∷ xs) ≡ x + sum xs
sum-first x xs =
    let one : 0 + x ≡ x = omega arith in
    sum_by-append (λ (y : ℕ). y) (x ∷ []) xs ∙ ap (λ (n : ℕ). n + sum xs) one

sums-sum : (xs ys : List ℕ) → length xs ≡ length ys → sum (sums xs ys) ≡ sum xs + sum ys
unfolding sums
sums-sum [] [] same = refl
sums-sum [] (y ∷ ys) same = absurd (omega (arith, same))
sums-sum (x ∷ xs) [] same = absurd (omega (arith, same))
sums-sum (x ∷ xs) (y ∷ ys) same =
    let rest = sums-sum xs ys (omega (arith, same)) in
    let all = sum-first (x + y) (sums xs ys) in
    let left = sum-first x xs in
    let right = sum-first y ys in
    omega (arith, rest, all, left, right)

sums-index : (xs ys : List ℕ) (i : ℕ) → length xs ≡ length ys → slice_index (sums xs ys) i ≡ slice_index xs i + slice_index ys i
unfolding sums
sums-index [] [] i same = refl
sums-index [] (y ∷ ys) i same = absurd (omega (arith, same))
sums-index (x ∷ xs) [] i same = absurd (omega (arith, same))
sums-index (x ∷ xs) (y ∷ ys) zero same = refl
sums-index (x ∷ xs) (y ∷ ys) (suc i) same = sums-index xs ys i (omega (arith, same))

module _ (t u : Tally) (t-whole : IsWhole t) (u-whole : IsWhole u) where
  at-same : length t.at ≡ length u.at
  at-same = t-whole.at ∙ sym u-whole.at

  entries-same : length t.entries ≡ length u.entries
  entries-same = t-whole.entries ∙ sym u-whole.entries

  server-same : length t.server ≡ length u.server
  server-same = t-whole.server ∙ sym u-whole.server

  pub both_whole : IsWhole (both t u)
  both_whole = record {
    at = sums-long t.at u.at at-same ∙ t-whole.at;
    entries = sums-long t.entries u.entries entries-same ∙ t-whole.entries;
    server = sums-long t.server u.server server-same ∙ t-whole.server;
  }

  pub both_total : total (both t u) ≡ total t + total u
  both_total =
      let a = sums-sum t.at u.at at-same in
      let b = sums-sum t.entries u.entries entries-same in
      let c = sums-sum t.server u.server server-same in
      omega (arith, a, b, c)

  number-both : (spot : Spot) → number_of (both t u) spot ≡ number_of t spot + number_of u spot
  number-both (At addr) = sums-index t.at u.at addr at-same
  number-both (Entry number) = sums-index t.entries u.entries number entries-same
  number-both (Server number) = sums-index t.server u.server number server-same
  number-both Idle = refl

  pub both-tally : (before others : List Spot) → IsTallyOf before t → IsTallyOf others u → IsTallyOf (before ++ others) (both t u)
  both-tally before others h k = record {
    whole = both_whole;
    each = λ spot.
        number-both spot
        ∙ ap (λ n. n + number_of u spot) (h.each spot)
        ∙ ap (λ n. spent_at spot before + n) (k.each spot)
        ∙ sym (sum_by-append (λ x. cond (is_spot spot x) 1 0) before others);
    sum = (let a = both_total in let b = length-append before others in let c = h.sum in let d = k.sum in omega (arith, a, b, c, d));
  }
