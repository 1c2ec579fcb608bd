-- Pieces that are gathered one after the other.
use Rattle.std.proofs.Common.{◌≡◌, ℕ, ◌+◌, ◌≤◌, Some, List, [], ◌∷◌, ◌++◌, length, take, drop, suc, zero, refl, ap, length-append, arith}
use Rattle.std.specs.List.{slice_get}
use Rattle.kc_asm_section.specs.Section.{Section}
use Rattle.kc_asm_section.specs.Order.{segment_of}
use Rattle.kc_asm_section.specs.ModuleContents.{ModuleContents, empty, added, added_all, IsAddable, AreAddable}

pub added_more : (number : ℕ → ℕ) (xs ys : List Section) (s : ModuleContents) → added_all number (xs ++ ys) s ≡ added_all number ys (added_all number xs s)
unfolding added_all
added_more number [] ys s = refl
added_more number (x ∷ xs) ys s = added_more number xs ys (added number x s)

pub added_count : (number : ℕ → ℕ) (ts : List Section) (s : ModuleContents) → length (added_all number ts s).segments ≡ length s.segments + length ts
unfolding added_all
added_count number [] s = omega arith
added_count number (t ∷ ts) s = omega (arith, added_count number ts (added number t s), length-append s.segments (segment_of t ∷ []))

pub addable_at : (ts : List Section) (i : ℕ) (t : Section) → AreAddable ts → slice_get ts i ≡ Some t → IsAddable t
unfolding AreAddable
addable_at [] i t a e = absurd (cc)
addable_at (x ∷ xs) zero t a e = let same : x ≡ t = cc in rw (← same) a.0
addable_at (x ∷ xs) (suc i) t a e = addable_at xs i t a.1 e

pub addable_after : (n : ℕ) (ts : List Section) → AreAddable ts → AreAddable (drop n ts)
unfolding AreAddable
addable_after zero ts a = a
addable_after (suc n) [] a = tt
addable_after (suc n) (t ∷ ts) a = addable_after n ts a.1

pub addable_first : (n : ℕ) (ts : List Section) → AreAddable ts → AreAddable (take n ts)
unfolding AreAddable
addable_first zero ts a = tt
addable_first (suc n) [] a = tt
addable_first (suc n) (t ∷ ts) a = (a.0, addable_first n ts a.1)

pub count_after : (number : ℕ → ℕ) (ts : List Section) (s t : ModuleContents) (n : ℕ) → t ≡ added_all number ts s → length s.segments ≡ n → length t.segments ≡ n + length ts
count_after number ts s t n e h = rw (e, added_count number ts s, h) refl

-- five lists, one after the other
module _ (number : ℕ → ℕ) (a b m s x : List Section) (le : length (a ++ (b ++ (m ++ (s ++ x)))) ≤ 65536) (s0 s1 : ModuleContents) (e0 : s0 ≡ empty) (e1 : s1 ≡ added_all number a s0) where
  total : length a + (length b + (length m + (length s + length x))) ≤ 65536
  total = rw (length-append a (b ++ (m ++ (s ++ x))), length-append b (m ++ (s ++ x)), length-append m (s ++ x), length-append s x) at le

  first : length s1.segments ≡ 0 + length a
  first = count_after number a s0 s1 0 e1 (ap (λ (t : ModuleContents). length t.segments) e0)

  pub room_two : length s1.segments + length b ≤ 65536
  room_two = omega (arith, total, first)

  module _ (s2 : ModuleContents) (e2 : s2 ≡ added_all number b s1) where
    second : length s2.segments ≡ 0 + length a + length b
    second = count_after number b s1 s2 (0 + length a) e2 first

    pub room_three : length s2.segments + length m ≤ 65536
    room_three = omega (arith, total, second)

    module _ (s3 : ModuleContents) (e3 : s3 ≡ added_all number m s2) where
      third : length s3.segments ≡ 0 + length a + length b + length m
      third = count_after number m s2 s3 (0 + length a + length b) e3 second

      pub room_four : length s3.segments + length s ≤ 65536
      room_four = omega (arith, total, third)

      pub room_five : (s4 : ModuleContents) → s4 ≡ added_all number s s3 → length s4.segments + length x ≤ 65536
      room_five s4 e4 = omega (arith, total, count_after number s s3 s4 (0 + length a + length b + length m) e4 third)

pub five_added : (number : ℕ → ℕ) (a b m s x : List Section) (s0 s1 s2 s3 s4 s5 : ModuleContents)
    → s1 ≡ added_all number a s0 → s2 ≡ added_all number b s1 → s3 ≡ added_all number m s2 → s4 ≡ added_all number s s3 → s5 ≡ added_all number x s4
    → s5 ≡ added_all number (a ++ (b ++ (m ++ (s ++ x)))) s0
five_added number a b m s x s0 s1 s2 s3 s4 s5 e1 e2 e3 e4 e5 =
    rw (added_more number a (b ++ (m ++ (s ++ x))) s0, ← e1, added_more number b (m ++ (s ++ x)) s1, ← e2, added_more number m (s ++ x) s2, ← e3, added_more number s x s3, ← e4) e5
