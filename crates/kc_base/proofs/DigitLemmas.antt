-- Numbers that are read digit by digit.
use Rattle.std.proofs.Common.{◌≡◌, ℕ, zero, suc, ◌+◌, ◌*◌, ◌<◌, ◌≤◌, Bool, true, false, cond, Option, Some, None, List, [], ◌∷◌, ◌++◌, length, drop, slice_index, refl, ap, ◌∙◌, arith, add-one}
use Rattle.std.proofs.Math.Seq.{drop-cons}
use Rattle.std.proofs.lemmas.Bool.{lt-ltb}
use Rattle.std.proofs.lemmas.Bool.Decides.{nat_tests}
use Rattle.std.specs.Prelude.{nat_lt, nat_le}
use Rattle.kc_base.specs.Digits.{digit_of, digits_from, up_to}

-- the next digit
pub digits-next : (base so_far : ℕ) (text : List ℕ) (i : ℕ) → i < length text → digit_of (slice_index text i) < base → digits_from base so_far (drop i text) ≡ digits_from base (so_far * base + digit_of (slice_index text i)) (drop (i + 1) text)
digits-next base so_far text i within small =
    let test : nat_lt (digit_of (slice_index text i)) base ≡ true = grind (arith, nat_tests) in
    rw (add-one, drop-cons text i 0) (rw test refl)

-- a character that is no digit
pub digits-bad : (base so_far : ℕ) (text : List ℕ) (i : ℕ) → i < length text → base ≤ digit_of (slice_index text i) → digits_from base so_far (drop i text) ≡ None
digits-bad base so_far text i within large =
    let test : nat_lt (digit_of (slice_index text i)) base ≡ false = grind (arith, nat_tests) in
    rw (drop-cons text i 0) (rw test refl)

-- a number that is past the limit stays past it
pub digits-past : (limit base so_far : ℕ) (text : List ℕ) → 0 < base → limit < so_far → up_to limit (digits_from base so_far text) ≡ None
digits-past limit base so_far [] some past = let test : nat_le so_far limit ≡ false = grind (arith, nat_tests) in rw test refl
digits-past limit base so_far (c ∷ cs) some past =
    by_digit (nat_lt (digit_of c) base) refl (digits-past limit base (so_far * base + digit_of c) cs some (grows so_far base (digit_of c) some past))
  where
    grows : (n b d : ℕ) → 0 < b → limit < n → limit < n * b + d
    grows n zero d h p = absurd (omega (arith, h))
    grows n (suc k) d h p = omega (arith, p)

    by_digit : (b : Bool) → nat_lt (digit_of c) base ≡ b → up_to limit (digits_from base (so_far * base + digit_of c) cs) ≡ None → up_to limit (digits_from base so_far (c ∷ cs)) ≡ None
    by_digit false e rest = rw e refl
    by_digit true e rest = rw e rest

-- ---- digits behind others

abbrev pub then_digits : ℕ → List ℕ → Option ℕ → Option ℕ
then_digits base more None = None
then_digits base more (Some n) = digits_from base n more

pub digits-append : (base so_far : ℕ) (text more : List ℕ) → digits_from base so_far (text ++ more) ≡ then_digits base more (digits_from base so_far text)
digits-append base so_far [] more = refl
digits-append base so_far (c ∷ cs) more =
    elim (nat_lt (digit_of c) base) as (λ b. cond b (digits_from base (so_far * base + digit_of c) (cs ++ more)) None ≡ then_digits base more (cond b (digits_from base (so_far * base + digit_of c) cs) None)) [
      | true ↦ digits-append base (so_far * base + digit_of c) cs more
      | false ↦ refl
    ]

-- a last digit
pub digits-last : (base so_far n d c : ℕ) (text : List ℕ) → digits_from base so_far text ≡ Some n → digit_of c ≡ d → d < base → digits_from base so_far (text ++ c ∷ []) ≡ Some (n * base + d)
digits-last base so_far n d c text before is small =
    digits-append base so_far text (c ∷ []) ∙ ap (then_digits base (c ∷ [])) before ∙ rw (is, lt-ltb d base small) refl
