-- Runs of free addresses: they stand apart, and have what is free.
use Rattle.std.proofs.Common.{◌≡◌, ℕ, zero, suc, ◌+◌, ◌-◌, ◌<◌, ◌≤◌, Bool, true, false, List, [], ◌∷◌, ◌++◌, refl, sym, ap, ◌∙◌, append_assoc, arith}
use Rattle.std.specs.Prelude.{nat_lt, if◌then◌else◌}
use Rattle.std.proofs.lemmas.Bool.Decides.{nat_tests}
use Rattle.kc_link.specs.Free.{Run, covers, run, free_runs}
use Rattle.std.proofs.lemmas.Grind.{flat_map-append}
use Rattle.kc_link.specs.Map.{free_line, free_lines}
use Rattle.kc_link.specs.MapLaws.{in_runs, AreApart}

-- ---- one run

inside : (first n a : ℕ) → first ≤ a → a < first + n → covers first n a ≡ true
inside first n a lo hi = grind (arith, nat_tests, lo, hi)

behind : (first n a : ℕ) → first + n ≤ a → covers first n a ≡ false
behind first n a lo = grind (arith, nat_tests, lo)

ahead : (first n a : ℕ) → a < first → covers first n a ≡ false
ahead first n a lt = grind (arith, nat_tests, lt)

-- ---- runs apart

sooner : (from other : ℕ) (rs : List Run) → other ≤ from → AreApart from rs → AreApart other rs
sooner from other [] le apart = tt
sooner from other (r ∷ rs) le apart = (omega (arith, le, apart.0), apart.1, apart.2)

-- what lies before all runs is in none
before_all : (from a : ℕ) (rs : List Run) → a < from → AreApart from rs → in_runs rs a ≡ false
before_all from a [] lt apart = refl
before_all from a (r ∷ rs) lt apart =
    let out : covers r.first r.length a ≡ false = ahead r.first r.length a (omega (arith, lt, apart.0)) in
    rw out (before_all (r.first + r.length + 1) a rs (omega (arith, lt, apart.0)) apart.2)

-- ---- the runs from one address on, behind a run of so many before it

apart_from : (free : ℕ → Bool) (count at n : ℕ) → n ≤ at → AreApart (at - n) (free_runs free count at n)
unfolding free_runs
apart_from free zero at zero le = tt
apart_from free zero at (suc n) le = (omega arith, omega arith, tt)
apart_from free (suc more) at n le = by (λ m h. apart_from free more (at + 1) m h) (free at) n le
  where
    by : ((m : ℕ) → m ≤ at + 1 → AreApart (at + 1 - m) (free_runs free more (at + 1) m)) → (b : Bool) (n : ℕ) → n ≤ at →
        AreApart (at - n) (if b then free_runs free more (at + 1) (n + 1) else run at n ++ free_runs free more (at + 1) 0)
    by again true n le = sooner (at + 1 - (n + 1)) (at - n) (free_runs free more (at + 1) (n + 1)) (omega (arith, le)) (again (n + 1) (omega (arith, le)))
    by again false zero le = sooner (at + 1 - 0) (at - 0) (free_runs free more (at + 1) 0) (omega arith) (again 0 (omega arith))
    by again false (suc n) le =
        (omega arith, omega arith, sooner (at + 1 - 0) (at - suc n + suc n + 1) (free_runs free more (at + 1) 0) (omega (arith, le)) (again 0 (omega arith)))

-- the addresses of the run before are in the runs
begun_in : (free : ℕ → Bool) (count at n a : ℕ) → n ≤ at → at - n ≤ a → a < at → in_runs (free_runs free count at n) a ≡ true
unfolding free_runs
begun_in free zero at zero a le lo hi = absurd (omega (arith, lo, hi))
begun_in free zero at (suc n) a le lo hi = let in_it : covers (at - suc n) (suc n) a ≡ true = inside (at - suc n) (suc n) a lo (omega (arith, le, lo, hi)) in rw in_it refl
begun_in free (suc more) at n a le lo hi = by (λ m h l. begun_in free more (at + 1) m a h l (omega (arith, hi))) (free at) n le lo
  where
    by : ((m : ℕ) → m ≤ at + 1 → at + 1 - m ≤ a → in_runs (free_runs free more (at + 1) m) a ≡ true) → (b : Bool) (n : ℕ) → n ≤ at → at - n ≤ a →
        in_runs (if b then free_runs free more (at + 1) (n + 1) else run at n ++ free_runs free more (at + 1) 0) a ≡ true
    by again true n le lo = again (n + 1) (omega (arith, le)) (omega (arith, lo))
    by again false zero le lo = absurd (omega (arith, lo, hi))
    by again false (suc n) le lo = let in_it : covers (at - suc n) (suc n) a ≡ true = inside (at - suc n) (suc n) a lo (omega (arith, le, lo, hi)) in rw in_it refl

-- those from there on are in them where they pass
rest_in : (free : ℕ → Bool) (count at n a : ℕ) → n ≤ at → at ≤ a → a < at + count → in_runs (free_runs free count at n) a ≡ free a
unfolding free_runs
rest_in free zero at n a le lo hi = absurd (omega (arith, lo, hi))
rest_in free (suc more) at n a le lo hi = by (λ m h l. rest_in free more (at + 1) m a h l (omega (arith, hi))) (free at) n refl le (nat_lt at a) refl
  where
    here : nat_lt at a ≡ false → at ≡ a
    here t = let le : a ≤ at = grind (arith, nat_tests, t) in omega (arith, le, lo)

    later : nat_lt at a ≡ true → at + 1 ≤ a
    later t = grind (arith, nat_tests, t)

    none_behind : at ≡ a → in_runs (free_runs free more (at + 1) 0) a ≡ false
    none_behind e = before_all (at + 1 - 0) a (free_runs free more (at + 1) 0) (omega (arith, e)) (apart_from free more (at + 1) 0 (omega arith))

    by : ((m : ℕ) → m ≤ at + 1 → at + 1 ≤ a → in_runs (free_runs free more (at + 1) m) a ≡ free a) → (b : Bool) (n : ℕ) → free at ≡ b → n ≤ at → (t : Bool) → nat_lt at a ≡ t →
        in_runs (if b then free_runs free more (at + 1) (n + 1) else run at n ++ free_runs free more (at + 1) 0) a ≡ free a
    by again true n f le true t = again (n + 1) (omega (arith, le)) (later t)
    by again true n f le false t =
        begun_in free more (at + 1) (n + 1) a (omega (arith, le)) (omega (arith, lo)) (omega (arith, here t)) ∙ (sym f ∙ ap free (here t))
    by again false zero f le true t = again 0 (omega arith) (later t)
    by again false zero f le false t = none_behind (here t) ∙ (sym f ∙ ap free (here t))
    by again false (suc n) f le true t =
        let out : covers (at - suc n) (suc n) a ≡ false = behind (at - suc n) (suc n) a (omega (arith, le, lo)) in
        rw out (again 0 (omega arith) (later t))
    by again false (suc n) f le false t =
        let out : covers (at - suc n) (suc n) a ≡ false = behind (at - suc n) (suc n) a (omega (arith, le, lo)) in
        rw out (none_behind (here t) ∙ (sym f ∙ ap free (here t)))

-- ---- the same from the first address on

pub runs_apart : (free : ℕ → Bool) (count from : ℕ) → AreApart from (free_runs free count from 0)
runs_apart free count from = sooner (from - 0) from (free_runs free count from 0) (omega arith) (apart_from free count from 0 (omega arith))

pub runs_free : (free : ℕ → Bool) (count from address : ℕ) → from ≤ address → address < from + count → in_runs (free_runs free count from 0) address ≡ free address
runs_free free count from address lo hi = rest_in free count from 0 address (omega arith) lo hi

-- ---- the runs, one address after the other

passes : (free : ℕ → Bool) (end at n : ℕ) → at < end → free at ≡ true → free_runs free (end - at) at n ≡ free_runs free (end - (at + 1)) (at + 1) (n + 1)
unfolding free_runs
passes free end at n lt is = let more : end - at ≡ suc (end - (at + 1)) = omega (arith, lt) in rw (more, is) refl

does_not_pass : (free : ℕ → Bool) (end at n : ℕ) → at < end → free at ≡ false → free_runs free (end - at) at n ≡ run at n ++ free_runs free (end - (at + 1)) (at + 1) 0
unfolding free_runs
does_not_pass free end at n lt is = let more : end - at ≡ suc (end - (at + 1)) = omega (arith, lt) in rw (more, is) refl

at_the_end : (free : ℕ → Bool) (end at n : ℕ) → at ≡ end → free_runs free (end - at) at n ≡ run end n
unfolding free_runs
at_the_end free end at n is = let none : end - end ≡ 0 = omega arith in rw (is, none) refl

-- ---- their lines, behind a text

pub text_passes : (word old all : List ℕ) (free : ℕ → Bool) (end at n : ℕ) → at < end → free at ≡ true →
    old ++ free_lines word (free_runs free (end - at) at n) ≡ all → old ++ free_lines word (free_runs free (end - (at + 1)) (at + 1) (n + 1)) ≡ all
text_passes word old all free end at n lt is so_far = ap (λ rs. old ++ free_lines word rs) (sym (passes free end at n lt is)) ∙ so_far

pub text_does_not : (word old all : List ℕ) (free : ℕ → Bool) (end at n : ℕ) → at < end → free at ≡ false →
    old ++ free_lines word (free_runs free (end - at) at n) ≡ all → (old ++ free_lines word (run at n)) ++ free_lines word (free_runs free (end - (at + 1)) (at + 1) 0) ≡ all
text_does_not word old all free end at n lt is so_far =
    let rest = free_runs free (end - (at + 1)) (at + 1) 0 in
    append_assoc old (free_lines word (run at n)) (free_lines word rest)
    ∙ (ap (λ t. old ++ t) (sym (flat_map-append (free_line word) (run at n) rest)) ∙ (ap (λ rs. old ++ free_lines word rs) (sym (does_not_pass free end at n lt is)) ∙ so_far))

pub text_ends : (word old all : List ℕ) (free : ℕ → Bool) (end at n : ℕ) → at ≡ end →
    old ++ free_lines word (free_runs free (end - at) at n) ≡ all → old ++ free_lines word (run end n) ≡ all
text_ends word old all free end at n is so_far = ap (λ rs. old ++ free_lines word rs) (sym (at_the_end free end at n is)) ∙ so_far
