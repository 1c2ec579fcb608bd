-- The number of a piece is where it stands.
use Rattle.std.proofs.Common.{◌≡◌, ℕ, ◌+◌, ◌<◌, ◌≤◌, Bool, true, false, ◌||◌, ltb, Some, List, [], ◌∷◌, ◌++◌, length, suc, zero, refl, arith}
use Rattle.std.specs.List.{slice_get}
use Rattle.kc_asm_encode.specs.declared.relocatable_byte.RelocatableByte.TheVariants.{Plain, First, Second}
use Rattle.kc_asm_encode.specs.Relocating.{depends, shown, relocated}
use Rattle.kc_asm_section.specs.declared.unlinked.Public.{Public}
use Rattle.kc_asm_section.specs.Section.{Section}
use Rattle.kc_asm_section.specs.Order.{is_named, stays, kept_of, count_of, number_of, kept_if, stack_pieces, pieces_of}
use Rattle.kc_asm_section.specs.Numbers.{NumbersStand, AbsoluteAlike}

first_stands : (b : Bool) (t : Section) (rest : List Section) → b ≡ true → slice_get (kept_if b (Some t) ++ rest) 0 ≡ Some t
first_stands true t rest h = refl
first_stands false t rest h = absurd (cc)

second_stands : (a b : Bool) (s t : Section) (rest : List Section) → b ≡ true → slice_get (kept_if a (Some s) ++ (kept_if b (Some t) ++ rest)) (count_of a) ≡ Some t
second_stands true b s t rest h = first_stands b t rest h
second_stands false b s t rest h = first_stands b t rest h

third_stands : (a b c : Bool) (r s t : Section) (rest : List Section) → c ≡ true → slice_get (kept_if a (Some r) ++ (kept_if b (Some s) ++ (kept_if c (Some t) ++ rest))) (count_of a + count_of b) ≡ Some t
third_stands true true c r s t rest h = first_stands c t rest h
third_stands true false c r s t rest h = first_stands c t rest h
third_stands false true c r s t rest h = first_stands c t rest h
third_stands false false c r s t rest h = first_stands c t rest h

named_stays : (parts : List Section) (publics : List Public) (t : Section) (n : ℕ) → is_named parts publics n ≡ true → stays parts publics t n ≡ true
named_stays parts publics t n h = by (ltb 0 t.length)
  where
    by : (b : Bool) → (b || is_named parts publics n) ≡ true
    by true = refl
    by false = h

stand_in : (parts : List Section) (publics : List Public) (stack : ℕ) → 3 ≤ length parts → (n : ℕ) → n < 3 → is_named parts publics n ≡ true
    → slice_get (pieces_of (kept_of parts publics) parts stack) (number_of (kept_of parts publics) n) ≡ slice_get parts n
unfolding kept_of
stand_in [] publics stack three n lt h = absurd (omega arith)
stand_in (r ∷ []) publics stack three n lt h = absurd (omega arith)
stand_in (r ∷ c ∷ []) publics stack three n lt h = absurd (omega arith)
stand_in (r ∷ c ∷ m ∷ absolute) publics stack three zero lt h =
    first_stands (stays (r ∷ c ∷ m ∷ absolute) publics r 0) r (kept_if (stays (r ∷ c ∷ m ∷ absolute) publics c 1) (Some c) ++ (kept_if (stays (r ∷ c ∷ m ∷ absolute) publics m 2) (Some m) ++ (stack_pieces stack ++ absolute)))
    (named_stays (r ∷ c ∷ m ∷ absolute) publics r 0 h)
stand_in (r ∷ c ∷ m ∷ absolute) publics stack three (suc zero) lt h =
    second_stands (stays (r ∷ c ∷ m ∷ absolute) publics r 0) (stays (r ∷ c ∷ m ∷ absolute) publics c 1) r c (kept_if (stays (r ∷ c ∷ m ∷ absolute) publics m 2) (Some m) ++ (stack_pieces stack ++ absolute))
    (named_stays (r ∷ c ∷ m ∷ absolute) publics c 1 h)
stand_in (r ∷ c ∷ m ∷ absolute) publics stack three (suc (suc zero)) lt h =
    third_stands (stays (r ∷ c ∷ m ∷ absolute) publics r 0) (stays (r ∷ c ∷ m ∷ absolute) publics c 1) (stays (r ∷ c ∷ m ∷ absolute) publics m 2) r c m (stack_pieces stack ++ absolute)
    (named_stays (r ∷ c ∷ m ∷ absolute) publics m 2 h)
stand_in (r ∷ c ∷ m ∷ absolute) publics stack three (suc (suc (suc n))) lt h = absurd (omega arith)

pub numbers : NumbersStand
numbers d three part lt h = stand_in d.parts.items d.publics.items d.stack three part lt h

pub alike : AbsoluteAlike
unfolding shown relocated depends
alike at own other place (Plain b) = (refl, refl)
alike at own other place (First kind start v) = (refl, refl)
alike at own other place (Second kind v) = (refl, refl)
