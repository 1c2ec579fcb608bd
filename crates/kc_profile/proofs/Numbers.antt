-- A number of a tally that is raised.
use Rattle.std.proofs.Common.{◌≡◌, ℕ, zero, suc, ◌+◌, ◌*◌, ◌<◌, ◌≤◌, Bool, true, false, cond, eqb, List, [], ◌++◌, length, set, refl, sym, ap, subst, ◌∙◌, length-append, arith}
use Rattle.std.specs.Prelude.{replicate, slice_index, slice_set, sum}
use Rattle.std.proofs.lemmas.Grind.{common_steps}
use Rattle.std.proofs.lemmas.List.{length-replicate}
use Rattle.std.proofs.lemmas.List.Sums.{sum_by-append, sum_by-set, get_or-le-sum_by}
use Rattle.std.proofs.lemmas.List.Folds.{sum_by-replicate}
use Rattle.kc_profile.specs.declared.spot.Spot.{Spot}
use Rattle.kc_profile.specs.declared.spot.Spot.TheVariants.{At, Entry, Server, Idle}
use Rattle.kc_profile.specs.Spots.{is_spot, spent_at}
use Rattle.kc_profile.specs.Tally.{Tally, IsWhole, IsTallyOf, number_of, total}

-- one spot has so many states more
pub record Raised (spot : Spot) (states : ℕ) (t u : Tally) : Type 0 where
  pub whole : IsWhole t → IsWhole u
  pub each : (other : Spot) → number_of u other ≡ number_of t other + cond (is_spot other spot) states 0
  pub sum : total u ≡ total t + states

-- a number in a list
raised-at : (xs : List ℕ) (i k j : ℕ) → i < length xs → slice_index (slice_set xs i (slice_index xs i + k)) j ≡ slice_index xs j + cond (eqb j i) k 0
raised-at xs i k j inside = grind (arith, common_steps)

raised-sum : (xs : List ℕ) (i k : ℕ) → i < length xs → sum (slice_set xs i (slice_index xs i + k)) ≡ sum xs + k
raised-sum xs i k inside =
    let e = sum_by-set (λ (x : ℕ). x) xs i (slice_index xs i + k) 0 inside in
    omega (arith, e)

-- a number is no more than all together
pub number-fits : (xs : List ℕ) (i : ℕ) → i < length xs → slice_index xs i ≤ sum xs
number-fits xs i inside = get_or-le-sum_by (λ (x : ℕ). x) xs i 0 inside

-- the tally of some states, and of others that go to one spot
spent-more : (before : List Spot) (spot other : Spot) (states : ℕ) → spent_at other (before ++ replicate states spot) ≡ spent_at other before + cond (is_spot other spot) states 0
spent-more before spot other states =
    sum_by-append (λ x. cond (is_spot other x) 1 0) before (replicate states spot)
    ∙ ap (λ n. spent_at other before + n) (sum_by-replicate (λ x. cond (is_spot other x) 1 0) states spot ∙ times (is_spot other spot))
  where
    times : (b : Bool) → states * cond b 1 0 ≡ cond b states 0
    times true = omega arith
    times false = omega arith

pub tally-raised : (spot : Spot) (states : ℕ) (t u : Tally) → Raised spot states t u → (before : List Spot) → IsTallyOf before t → IsTallyOf (before ++ replicate states spot) u
tally-raised spot states t u raised before is = record {
  whole = raised.whole is.whole;
  each = λ other. raised.each other ∙ ap (λ n. n + cond (is_spot other spot) states 0) (is.each other) ∙ sym (spent-more before spot other states);
  sum = raised.sum ∙ ap (λ n. n + states) is.sum
      ∙ sym (length-append before (replicate states spot) ∙ ap (λ n. length before + n) (length-replicate states spot));
}

-- ---- the four kinds of spot

raised-address : (t : Tally) (addr states : ℕ) → addr < length t.at → Raised (At addr) states t (record t { at = slice_set t.at addr (slice_index t.at addr + states) })
raised-address t addr states inside = record {
  whole = λ w. record { at = grind (arith, common_steps, w.at); entries = w.entries; server = w.server };
  each = by_spot;
  sum = let e = raised-sum t.at addr states inside in omega (arith, e);
}
  where
    none : (n : ℕ) → n ≡ n + 0
    none n = omega arith

    by_spot : (other : Spot) → number_of (record t { at = slice_set t.at addr (slice_index t.at addr + states) }) other ≡ number_of t other + cond (is_spot other (At addr)) states 0
    by_spot (At other) = raised-at t.at addr states other inside
    by_spot (Entry number) = none (slice_index t.entries number)
    by_spot (Server number) = none (slice_index t.server number)
    by_spot Idle = none t.idle

raised-entry : (t : Tally) (number states : ℕ) → number < length t.entries → Raised (Entry number) states t (record t { entries = slice_set t.entries number (slice_index t.entries number + states) })
raised-entry t number states inside = record {
  whole = λ w. record { at = w.at; entries = grind (arith, common_steps, w.entries); server = w.server };
  each = by_spot;
  sum = let e = raised-sum t.entries number states inside in omega (arith, e);
}
  where
    none : (n : ℕ) → n ≡ n + 0
    none n = omega arith

    by_spot : (other : Spot) → number_of (record t { entries = slice_set t.entries number (slice_index t.entries number + states) }) other ≡ number_of t other + cond (is_spot other (Entry number)) states 0
    by_spot (At addr) = none (slice_index t.at addr)
    by_spot (Entry other) = raised-at t.entries number states other inside
    by_spot (Server other) = none (slice_index t.server other)
    by_spot Idle = none t.idle

raised-server : (t : Tally) (number states : ℕ) → number < length t.server → Raised (Server number) states t (record t { server = slice_set t.server number (slice_index t.server number + states) })
raised-server t number states inside = record {
  whole = λ w. record { at = w.at; entries = w.entries; server = grind (arith, common_steps, w.server) };
  each = by_spot;
  sum = let e = raised-sum t.server number states inside in omega (arith, e);
}
  where
    none : (n : ℕ) → n ≡ n + 0
    none n = omega arith

    by_spot : (other : Spot) → number_of (record t { server = slice_set t.server number (slice_index t.server number + states) }) other ≡ number_of t other + cond (is_spot other (Server number)) states 0
    by_spot (At addr) = none (slice_index t.at addr)
    by_spot (Entry other) = none (slice_index t.entries other)
    by_spot (Server other) = raised-at t.server number states other inside
    by_spot Idle = none t.idle

raised-idle : (t : Tally) (states : ℕ) → Raised Idle states t (record t { idle = t.idle + states })
raised-idle t states = record {
  whole = λ w. record { at = w.at; entries = w.entries; server = w.server };
  each = by_spot;
  sum = omega arith;
}
  where
    none : (n : ℕ) → n ≡ n + 0
    none n = omega arith

    by_spot : (other : Spot) → number_of (record t { idle = t.idle + states }) other ≡ number_of t other + cond (is_spot other Idle) states 0
    by_spot (At addr) = none (slice_index t.at addr)
    by_spot (Entry other) = none (slice_index t.entries other)
    by_spot (Server other) = none (slice_index t.server other)
    by_spot Idle = refl

-- the same, as code raises them
pub add-address : (t : Tally) (spot : Spot) (xs : List ℕ) (addr i states : ℕ) → spot ≡ At addr → i ≡ addr → addr < length t.at → xs ≡ slice_set t.at i (slice_index t.at i + states) → Raised spot states t (record t { at = xs })
add-address t spot xs addr i states is e inside set =
    subst (λ s. Raised s states t (record t { at = xs })) (sym is)
    (subst (λ ys. Raised (At addr) states t (record t { at = ys })) (sym (set ∙ ap (λ j. slice_set t.at j (slice_index t.at j + states)) e)) (raised-address t addr states inside))

pub add-entry : (t : Tally) (spot : Spot) (xs : List ℕ) (number i states : ℕ) → spot ≡ Entry number → i ≡ number → number < length t.entries → xs ≡ slice_set t.entries i (slice_index t.entries i + states) → Raised spot states t (record t { entries = xs })
add-entry t spot xs number i states is e inside set =
    subst (λ s. Raised s states t (record t { entries = xs })) (sym is)
    (subst (λ ys. Raised (Entry number) states t (record t { entries = ys })) (sym (set ∙ ap (λ j. slice_set t.entries j (slice_index t.entries j + states)) e)) (raised-entry t number states inside))

pub add-server : (t : Tally) (spot : Spot) (xs : List ℕ) (number i states : ℕ) → spot ≡ Server number → i ≡ number → number < length t.server → xs ≡ slice_set t.server i (slice_index t.server i + states) → Raised spot states t (record t { server = xs })
add-server t spot xs number i states is e inside set =
    subst (λ s. Raised s states t (record t { server = xs })) (sym is)
    (subst (λ ys. Raised (Server number) states t (record t { server = ys })) (sym (set ∙ ap (λ j. slice_set t.server j (slice_index t.server j + states)) e)) (raised-server t number states inside))

pub add-idle : (t : Tally) (spot : Spot) (states : ℕ) → spot ≡ Idle → Raised spot states t (record t { idle = t.idle + states })
add-idle t spot states is = subst (λ s. Raised s states t (record t { idle = t.idle + states })) (sym is) (raised-idle t states)

-- ---- no states

none-at : (xs : List ℕ) (n i : ℕ) → xs ≡ replicate n 0 → slice_index xs i ≡ 0
none-at xs n i e = ap (λ ys. slice_index ys i) e ∙ nothing n i
  where
    nothing : (n i : ℕ) → slice_index (replicate n 0) i ≡ 0
    nothing zero i = refl
    nothing (suc n) zero = refl
    nothing (suc n) (suc i) = nothing n i

none-sum : (xs : List ℕ) (n : ℕ) → xs ≡ replicate n 0 → sum xs ≡ 0
none-sum xs n e = ap sum e ∙ sum_by-replicate (λ (x : ℕ). x) n 0 ∙ (let z : n * 0 ≡ 0 = omega arith in z)

pub tally-none : (t : Tally) (a b c : ℕ) → a ≡ 65536 → b ≡ 256 → c ≡ 256 → t.at ≡ replicate a 0 → t.entries ≡ replicate b 0 → t.server ≡ replicate c 0 → t.idle ≡ 0 → IsTallyOf [] t
tally-none t a b c many entries server at_none entries_none server_none idle_none = record {
  whole = record {
    at = ap length at_none ∙ length-replicate a 0 ∙ many;
    entries = ap length entries_none ∙ length-replicate b 0 ∙ entries;
    server = ap length server_none ∙ length-replicate c 0 ∙ server;
  };
  each = by_spot;
  sum =
      let x = none-sum t.at a at_none in
      let y = none-sum t.entries b entries_none in
      let z = none-sum t.server c server_none in
      omega (arith, x, y, z, idle_none);
}
  where
    by_spot : (spot : Spot) → number_of t spot ≡ spent_at spot []
    by_spot (At addr) = none-at t.at a addr at_none
    by_spot (Entry number) = none-at t.entries b number entries_none
    by_spot (Server number) = none-at t.server c number server_none
    by_spot Idle = idle_none
