-- The sums of lives that are counted, and their texts.
use Rattle.std.proofs.Common.{◌≡◌, ℕ, ◌+◌, List, [], ◌∷◌, ◌++◌, length, map, refl, sym, ◌∙◌, ap, subst, append-nil, append_assoc, length-append, arith}
use Rattle.std.specs.Prelude.{flat_map, codes, Some}
use Rattle.std.proofs.lemmas.Grind.{flat_map-append}
use Rattle.kc_profile.specs.declared.sight.Sight.{Sight}
use Rattle.kc_profile.specs.declared.spot.Spot.{Spot}
use Rattle.kc_profile.specs.Statistics.{Statistics, AreAllFew, statistics_of, statistics_of_lives, with_life, with_lives}
use Rattle.kc_profile.specs.Tally.{Tally, IsTallyOf, tally_of}
use Rattle.kc_profile.proofs.Tallies.{tallies_are_one}
use Rattle.kc_profile.proofs.StatisticsOne.{statistics_are_one}
use Rattle.kc_profile.specs.Cover.{cover_text}
use Rattle.kc_kit_running.specs.Counting.{IsCount, IsSum}
use Rattle.kc_profile.specs.declared.statistics_text.Scope.TheVariants as scope
use Rattle.kc_kit_running.specs.Profiled.{Counted, Known, counted_text, heading, life_text, lives_cover, lives_profile, sums_text}

-- ---- one life more

with_lives-more : (t : Statistics) (n : ℕ) (xs : List (List Sight)) (y : List Sight) → with_lives t n (xs ++ y ∷ []) ≡ with_life (with_lives t n xs) (statistics_of (n + length xs) y)
unfolding with_lives
with_lives-more t n [] y = let e : n ≡ n + 0 = omega arith in ap (λ k. with_life t (statistics_of k y)) e
with_lives-more t n (x ∷ xs) y =
    with_lives-more (with_life t (statistics_of n x)) (n + 1) xs y
    ∙ (let e : n + 1 + length xs ≡ n + length (x ∷ xs) = omega arith in ap (λ k. with_life (with_lives (with_life t (statistics_of n x)) (n + 1) xs) (statistics_of k y)) e)

map-more : (lives : List Counted) (c : Counted) → map (λ (c : Counted). c.sights) (lives ++ c ∷ []) ≡ map (λ (c : Counted). c.sights) lives ++ c.sights ∷ []
map-more [] c = refl
map-more (d ∷ lives) c = ap (λ xs. d.sights ∷ xs) (map-more lives c)

length-sights : (lives : List Counted) → length (map (λ (c : Counted). c.sights) lives) ≡ length lives
length-sights [] = refl
length-sights (c ∷ lives) = let e = length-sights lives in omega (arith, e)

pub spots-more : (lives : List Counted) (c : Counted) → flat_map (λ (c : Counted). c.spots) (lives ++ c ∷ []) ≡ flat_map (λ (c : Counted). c.spots) lives ++ c.spots
spots-more lives c = flat_map-append (λ (c : Counted). c.spots) lives (c ∷ []) ∙ ap (λ xs. flat_map (λ (c : Counted). c.spots) lives ++ xs) (append-nil c.spots)

pub sum-next : (lives : List Counted) (c : Counted) (number : ℕ) (t own u : Tally) (s its v : Statistics) → number ≡ 1 + length lives → IsSum lives t s → IsCount number c.spots c.sights own its →
    ((before others : List Spot) → IsTallyOf before t → IsTallyOf others own → IsTallyOf (before ++ others) u) → v ≡ with_life s its → ((n m : ℕ) → AreAllFew n s → AreAllFew m its → AreAllFew (n + m) v) → IsSum (lives ++ c ∷ []) u v
sum-next lives c number t own u s its v is sum count tallied added few =
    let spots : List Spot = flat_map (λ (c : Counted). c.spots) lives in
    let all = spots-more lives c in
    let one : its ≡ statistics_of number c.sights = statistics_are_one number c.sights its count.life count.statistics in
    let at : number ≡ 1 + length (map (λ (c : Counted). c.sights) lives) = omega (arith, is, length-sights lives) in
    let sums : v ≡ statistics_of_lives 1 (map (λ (c : Counted). c.sights) (lives ++ c ∷ [])) =
    added ∙ ap (λ k. with_life k its) sum.statistics ∙ ap (with_life (statistics_of_lives 1 (map (λ (c : Counted). c.sights) lives))) (one ∙ ap (λ n. statistics_of n c.sights) at)
    ∙ sym (with_lives-more (statistics_of 1 []) 1 (map (λ (c : Counted). c.sights) lives) c.sights) ∙ ap (statistics_of_lives 1) (sym (map-more lives c)) in
    record {
      tally = subst (λ (ss : List Spot). IsTallyOf ss u) (sym all) (tallied spots c.spots sum.tally count.tally);
      statistics = sums;
      few = subst (λ n. AreAllFew n v) (sym (length-append spots c.spots) ∙ ap length (sym all)) (few (length spots) (length c.spots) sum.few count.few);
    }

pub no-sum : (t : Tally) (s : Statistics) → IsCount 1 [] [] t s → IsSum [] t s
unfolding with_lives
no-sum t s count = record { tally = count.tally; statistics = statistics_are_one 1 [] s count.life count.statistics; few = count.few }

-- ---- their texts

pub profile-more : (k : Known) (number : ℕ) (lives : List Counted) (c : Counted) → lives_profile k number (lives ++ c ∷ []) ≡ lives_profile k number lives ++ (heading (codes "life ") (number + length lives) ++ life_text k (number + length lives) c)
unfolding lives_profile
profile-more k number [] c = let e : number ≡ number + 0 = omega arith in append-nil (heading (codes "life ") number ++ life_text k number c) ∙ ap (λ n. heading (codes "life ") n ++ life_text k n c) e
profile-more k number (d ∷ lives) c =
    let first : List ℕ = heading (codes "life ") number ++ life_text k number d in
    let e : number + 1 + length lives ≡ number + length (d ∷ lives) = omega arith in
    ap (λ xs. first ++ xs) (profile-more k (number + 1) lives c ∙ ap (λ n. lives_profile k (number + 1) lives ++ (heading (codes "life ") n ++ life_text k n c)) e)
    ∙ sym (append_assoc first (lives_profile k (number + 1) lives) (heading (codes "life ") (number + length (d ∷ lives)) ++ life_text k (number + length (d ∷ lives)) c))

pub cover-more : (k : Known) (number : ℕ) (lives : List Counted) (c : Counted) → lives_cover k number (lives ++ c ∷ []) ≡ lives_cover k number lives ++ cover_text (Some (number + length lives)) (statistics_of (number + length lives) c.sights) k.sources
unfolding lives_cover
cover-more k number [] c =
    let e : number ≡ number + 0 = omega arith in
    append-nil (cover_text (Some number) (statistics_of number c.sights) k.sources) ∙ ap (λ n. cover_text (Some n) (statistics_of n c.sights) k.sources) e
cover-more k number (d ∷ lives) c =
    let first : List ℕ = cover_text (Some number) (statistics_of number d.sights) k.sources in
    let e : number + 1 + length lives ≡ number + length (d ∷ lives) = omega arith in
    ap (λ xs. first ++ xs) (cover-more k (number + 1) lives c ∙ ap (λ n. lives_cover k (number + 1) lives ++ cover_text (Some n) (statistics_of n c.sights) k.sources) e)
    ∙ sym (append_assoc first (lives_cover k (number + 1) lives) (cover_text (Some (number + length (d ∷ lives))) (statistics_of (number + length (d ∷ lives)) c.sights) k.sources))

-- ---- the texts that are put behind those of the lives before

pub profile-next : (k : Known) (number : ℕ) (lives : List Counted) (c : Counted) (before now : List ℕ) (own : Tally) (its : Statistics) → number ≡ 1 + length lives → IsCount number c.spots c.sights own its → before ≡ lives_profile k 1 lives →
    now ≡ before ++ (heading (codes "life ") number ++ counted_text scope.Life k.entries own its) → now ≡ lives_profile k 1 (lives ++ c ∷ [])
profile-next k number lives c before now own its is count e put =
    let one : own ≡ tally_of c.spots = tallies_are_one c.spots own count.tally in
    let other : its ≡ statistics_of number c.sights = statistics_are_one number c.sights its count.life count.statistics in
    put ∙ (λ i. e i ++ (heading (codes "life ") number ++ counted_text scope.Life k.entries (one i) (other i)))
    ∙ ap (λ n. lives_profile k 1 lives ++ (heading (codes "life ") n ++ life_text k n c)) is ∙ sym (profile-more k 1 lives c)

pub cover-next : (k : Known) (number : ℕ) (lives : List Counted) (c : Counted) (before now : List ℕ) (own : Tally) (its : Statistics) → number ≡ 1 + length lives → IsCount number c.spots c.sights own its → before ≡ lives_cover k 1 lives →
    now ≡ before ++ cover_text (Some number) its k.sources → now ≡ lives_cover k 1 (lives ++ c ∷ [])
cover-next k number lives c before now own its is count e put =
    let other : its ≡ statistics_of number c.sights = statistics_are_one number c.sights its count.life count.statistics in
    put ∙ (λ i. e i ++ cover_text (Some number) (other i) k.sources)
    ∙ ap (λ n. lives_cover k 1 lives ++ cover_text (Some n) (statistics_of n c.sights) k.sources) is ∙ sym (cover-more k 1 lives c)

pub sums-behind : (k : Known) (number : ℕ) (lives : List Counted) (before now : List ℕ) (t : Tally) (s : Statistics) → number ≡ length lives → IsSum lives t s → before ≡ lives_profile k 1 lives →
    now ≡ before ++ heading (codes "lives ") number ++ counted_text scope.Lives k.entries t s → now ≡ lives_profile k 1 lives ++ sums_text k lives
sums-behind k number lives before now t s is sum e put =
    let one : t ≡ tally_of (flat_map (λ (c : Counted). c.spots) lives) = tallies_are_one (flat_map (λ (c : Counted). c.spots) lives) t sum.tally in
    put ∙ append_assoc before (heading (codes "lives ") number) (counted_text scope.Lives k.entries t s)
    ∙ (λ i. e i ++ (heading (codes "lives ") (is i) ++ counted_text scope.Lives k.entries (one i) (sum.statistics i)))
