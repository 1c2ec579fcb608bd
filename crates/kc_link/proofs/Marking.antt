-- Addresses that are marked, one after the other.
use Rattle.std.proofs.Common.{◌≡◌, ℕ, zero, suc, ◌+◌, ◌<◌, ◌≤◌, Bool, true, false, ◌&&◌, ◌||◌, eqb, ltb, leb, List, [], ◌∷◌, ◌++◌, ◌-◌, get_or, set, take, length, replicate, refl, sym, ap, ◌∙◌, append_assoc, arith}
use Rattle.std.specs.Prelude.{not, min, if◌then◌else◌}
use Rattle.std.proofs.lemmas.Bool.Decides.{nat_tests}
use Rattle.kc_obj_module.specs.Object.{Object}
use Rattle.kc_link_place.specs.Placing.{Places}
use Rattle.kc_link_place.specs.Ranges.{are_in_bounds}
use Rattle.kc_link_place.specs.declared.ranges.Ranges.{Ranges}
use Rattle.kc_link.specs.Free.{Run, covers, modules_cover, is_free, run, free_runs}
use Rattle.kc_link.specs.Map.{free_lines, range_text}

-- ---- one address

set_here : (xs : List Bool) (i : ℕ) → i < length xs → get_or (set xs i true) i false ≡ true
set_here [] i lt = absurd (omega (arith, lt))
set_here (x ∷ xs) zero lt = refl
set_here (x ∷ xs) (suc i) lt = set_here xs i (omega (arith, lt))

one_less : (i j : ℕ) → eqb (suc i) (suc j) ≡ false → eqb i j ≡ false
one_less i j e = grind (arith, nat_tests, e)

set_elsewhere : (xs : List Bool) (i j : ℕ) → eqb i j ≡ false → get_or (set xs i true) j false ≡ get_or xs j false
set_elsewhere [] i j e = refl
set_elsewhere (x ∷ xs) zero zero e = absurd (cc e)
set_elsewhere (x ∷ xs) zero (suc j) e = refl
set_elsewhere (x ∷ xs) (suc i) zero e = refl
set_elsewhere (x ∷ xs) (suc i) (suc j) e = set_elsewhere xs i j (one_less i j e)

or_true : (b : Bool) → (b || true) ≡ true
or_true true = refl
or_true false = refl

pub one_marked : (xs : List Bool) (before : Bool) (from at a : ℕ) → from ≤ at → at < length xs → get_or xs a false ≡ (before || (leb from a && ltb a at))
    → get_or (set xs at true) a false ≡ (before || (leb from a && ltb a (at + 1)))
one_marked xs before from at a lo lt so = by (eqb at a) refl
  where
    here : at ≡ a → (leb from a && ltb a (at + 1)) ≡ true
    here e = let le : from ≤ a = omega (arith, e, lo) in let less : a < at + 1 = omega (arith, e) in grind (arith, nat_tests, le, less)

    same : eqb at a ≡ false → (leb from a && ltb a at) ≡ (leb from a && ltb a (at + 1))
    same e = grind (arith, nat_tests, e)

    by : (b : Bool) → eqb at a ≡ b → get_or (set xs at true) a false ≡ (before || (leb from a && ltb a (at + 1)))
    by true e =
        let is : at ≡ a = grind (arith, nat_tests, e) in
        ap (λ (j : ℕ). get_or (set xs at true) j false) (sym is) ∙ set_here xs at lt ∙ sym (or_true before) ∙ ap (λ (b : Bool). before || b) (sym (here is))
    by false e = set_elsewhere xs at a e ∙ so ∙ ap (λ (b : Bool). before || b) (same e)

-- none at first, and all from the first on at the end
pub none_marked : (before : Bool) (from a : ℕ) → before ≡ (before || (leb from a && ltb a from))
none_marked before from a = by before (leb from a && ltb a from) apart
  where
    apart : (leb from a && ltb a from) ≡ false
    apart = grind (arith, nat_tests)

    by : (b c : Bool) → c ≡ false → b ≡ (b || c)
    by true c e = refl
    by false c e = sym e

pub all_marked : (before : Bool) (first count at a : ℕ) → a < 65536 → at ≡ min (first + count) 65536 → (before || (leb first a && ltb a at)) ≡ (before || covers first count a)
all_marked before first count at a low end = ap (λ (b : Bool). before || b) same
  where
    same : (leb first a && ltb a at) ≡ covers first count a
    same = grind (arith, nat_tests, low, end)

-- ---- pieces

pub joined : (a b c : Bool) → ((a || b) || c) ≡ (a || (b || c))
joined true b c = refl
joined false b c = refl

pub none_left : (a : Bool) → (a || false) ≡ a
none_left true = refl
none_left false = refl

pub none_yet : (n a : ℕ) → get_or (replicate n false) a false ≡ false
none_yet zero a = refl
none_yet (suc n) zero = refl
none_yet (suc n) (suc a) = none_yet n a

-- ---- runs of what passes

runs_alike : (free other : ℕ → Bool) (count at n : ℕ) → ((a : ℕ) → at ≤ a → a < at + count → free a ≡ other a) → free_runs free count at n ≡ free_runs other count at n
unfolding free_runs
runs_alike free other zero at n same = refl
runs_alike free other (suc more) at n same =
    by (λ m. runs_alike free other more (at + 1) m (λ a lo hi. same a (omega (arith, lo)) (omega (arith, hi)))) (free at) (other at) (same at (omega arith) (omega arith))
  where
    by : ((m : ℕ) → free_runs free more (at + 1) m ≡ free_runs other more (at + 1) m) → (b c : Bool) → b ≡ c
        → (if b then free_runs free more (at + 1) (n + 1) else run at n ++ free_runs free more (at + 1) 0)
        ≡ (if c then free_runs other more (at + 1) (n + 1) else run at n ++ free_runs other more (at + 1) 0)
    by later b c e = λ i. if e i then later (n + 1) i else run at n ++ later 0 i

-- what is free by the marks of a table
abbrev pub left : List Bool → ℕ → ℕ → ℕ → Bool
left taken stack size a = not (covers stack size a) && not (get_or taken a false)

pub range_alike : (ms : List Object) (places : Places) (stack size : ℕ) (taken : List Bool) (word : List ℕ) (range : ℕ × ℕ) → range.1 < 65536
    → ((a : ℕ) → a < 65536 → get_or taken a false ≡ modules_cover places 0 ms a)
    → free_lines word (free_runs (left taken stack size) (range.1 + 1 - range.0) range.0 0) ≡ range_text ms places stack size word range
range_alike ms places stack size taken word range low marks =
    ap (free_lines word) (runs_alike (left taken stack size) (is_free ms places stack size) (range.1 + 1 - range.0) range.0 0
    (λ a from hi. ap (λ (b : Bool). not (covers stack size a) && not b) (marks a (omega (arith, low, from, hi)))))

-- ranges within their bounds end at addresses
pub registers_end : (r : Ranges) → are_in_bounds r ≡ true → r.reg.1 < 65536
registers_end r h = grind (arith, nat_tests, h)

pub code_ends : (r : Ranges) → are_in_bounds r ≡ true → r.code.1 < 65536
code_ends r h = grind (arith, nat_tests, h)

pub data_ends : (r : Ranges) → are_in_bounds r ≡ true → r.ram.1 < 65536
data_ends r h = grind (arith, nat_tests, h)

pub three_texts : (t a b c : List ℕ) → ((t ++ a) ++ b) ++ c ≡ t ++ ((a ++ b) ++ c)
three_texts t a b c = ap (λ (s : List ℕ). s ++ c) (append_assoc t a b) ∙ append_assoc t (a ++ b) c

-- ---- a table that is written whole

pub written_whole : (new rest : List Bool) (n : ℕ) → n ≡ length new → take n (new ++ rest) ≡ new
written_whole new rest n e = ap (λ (m : ℕ). take m (new ++ rest)) e ∙ by new
  where
    by : (xs : List Bool) → take (length xs) (xs ++ rest) ≡ xs
    by [] = refl
    by (x ∷ xs) = ap (λ (ys : List Bool). x ∷ ys) (by xs)
