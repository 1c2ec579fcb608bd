-- The line entries, sorted, are a line map.
use Rattle.std.proofs.Common.{◌≡◌, ℕ, zero, suc, ◌<◌, ◌≤◌, Bool, true, false, cond, leb, List, [], ◌∷◌, length, get_or, refl, arith}
use Rattle.std.specs.List.{insert}
use Rattle.std.specs.List.Sorted.{IsPermutation, IsNonDecreasingBy}
use Rattle.std.proofs.lemmas.Bool.Decides.{nat_tests}
use Rattle.std.proofs.lemmas.List.Sorted.{IsPermutation-refl, IsPermutation-cons, IsPermutation-insert, IsPermutation-trans, IsNonDecreasingBy-insert, IsNonDecreasingBy-short}
use Rattle.kc_link_place.specs.Placing.{bases_from}
use Rattle.kc_link_place.specs.Apart.{CodeStandsApart}
use Rattle.kc_link.specs.declared.lines.LineAt.{LineAt}
use Rattle.kc_link.specs.LineMap.{lines_by}
use Rattle.kc_link.proofs.LineLemmas.{is_line_map}
use Rattle.kc_link.specs.Linked.{PlacedHaveLines}
use Rattle.kc_link.proofs.Image.{apart_of}

-- ---- an entry at its place among sorted ones

abbrev pub place_of : LineAt → List LineAt → ℕ
place_of e [] = 0
place_of e (x ∷ xs) = cond (leb e.addr x.addr) 0 (suc (place_of e xs))

abbrev pub sorted : List LineAt → List LineAt
sorted [] = []
sorted (e ∷ es) = insert (sorted es) (place_of e (sorted es)) e

same_entries : (es : List LineAt) → IsPermutation es (sorted es)
same_entries [] = IsPermutation-refl []
same_entries (e ∷ es) = IsPermutation-trans (e ∷ es) (e ∷ sorted es) (insert (sorted es) (place_of e (sorted es)) e) (IsPermutation-cons e es (sorted es) (same_entries es)) (IsPermutation-insert (sorted es) (place_of e (sorted es)) e)

abbrev pub addr_of : LineAt → ℕ
addr_of e = e.addr

record IsPlace (e : LineAt) (xs : List LineAt) (i : ℕ) : Type 0 where
  within : i ≤ length xs
  below : (k : ℕ) (d : LineAt) → k < i → (get_or xs k d).addr ≤ e.addr
  next : (d : LineAt) → i < length xs → e.addr ≤ (get_or xs i d).addr

place_is : (e : LineAt) (xs : List LineAt) → IsPlace e xs (place_of e xs)
place_is e [] = record { within = omega arith; below = λ k d h. absurd (omega (arith, h)); next = λ d h. absurd (omega (arith, h)) }
place_is e (x ∷ xs) = by (leb e.addr x.addr) refl (place_is e xs)
  where
    by : (b : Bool) → leb e.addr x.addr ≡ b → IsPlace e xs (place_of e xs) → IsPlace e (x ∷ xs) (cond b 0 (suc (place_of e xs)))
    by true f r = record { within = omega arith; below = λ k d h. absurd (omega (arith, h)); next = λ d h. grind (arith, nat_tests, f) }
    by false f r = record { within = omega (arith, r.within); below = before; next = λ d h. r.next d (omega (arith, h)) }
      where
        lower : x.addr ≤ e.addr
        lower = grind (arith, nat_tests, f)

        before : (k : ℕ) (d : LineAt) → k < suc (place_of e xs) → (get_or (x ∷ xs) k d).addr ≤ e.addr
        before zero d h = lower
        before (suc k) d h = r.below k d (omega (arith, h))

pub sorted_rises : (es : List LineAt) → IsNonDecreasingBy addr_of (sorted es)
sorted_rises [] = IsNonDecreasingBy-short addr_of [] (omega arith)
sorted_rises (e ∷ es) =
    let p = place_is e (sorted es) in
    let s : IsNonDecreasingBy addr_of (sorted es) = sorted_rises es in
    IsNonDecreasingBy-insert addr_of (sorted es) (place_of e (sorted es)) e s p.within p.below
    (λ k d h l. let a = p.next d (omega (arith, h, l)) in let b = s (place_of e (sorted es)) k d h l in omega (arith, a, b))

pub placed_have_lines : CodeStandsApart → PlacedHaveLines
placed_have_lines law ms ranges places are =
    let all = lines_by ms (bases_from ms places 0 ms) in
    (sorted all, is_line_map ms places (bases_from ms places 0 ms) all (sorted all) are.rules (apart_of law ms ranges places are) refl refl (same_entries all) (sorted_rises all))
