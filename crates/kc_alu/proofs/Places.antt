-- The closed forms of shifts, place by place.
use Rattle.std.proofs.Common.{◌≡◌, ℕ, zero, suc, ◌+◌, ◌-◌, ◌*◌, ◌/◌, ◌%◌, ◌^◌, ◌<◌, ◌≤◌, ◌==◌, ◌⊎◌, Bool, true, false, not, ◌&&◌, ◌||◌, inl, inr, refl, sym, ◌∙◌, ap, arith}
use Rattle.std.proofs.lemmas.Bool.Decides.{nat_tests}
use Rattle.std.proofs.lemmas.Bool.{le-leb, lt-leb, cases_eq, cases_lt, cases_Bool}
use Rattle.std.proofs.lemmas.Nat.{pow_pos, div-add-mod', mod_below, le-div}
use Rattle.std.proofs.Math.Nat.{mul_comm, pow-succ', div-div-eq-div-mul, div-le_of_le-mul, le-mul_of_pos_right}
use Rattle.kc_alu.specs.declared.flags.Shift.TheVariants.{Left, Right, Signed}
use Rattle.kc_alu.specs.Shifts.{extended, right_result, left_result, changes_top}
use Rattle.kc_alu.specs.Width.{IsWidth, half_of}
use Rattle.kc_alu.specs.Laws.{ShiftsGoByPlaces}
use Rattle.kc_alu.specs.Places.{Passage, at_start, a_place_on, one_place, by_places, to_the_right, is_other, top_bit, lowest_bit}
use Rattle.kc_alu.proofs.NumberLemmas.{IsLow, IsHigh, low_or_high, parts}

-- ---- to the left

pub record IsLeft (half from power : ℕ) (p : Passage) : Type 0 where
  pub value : p.value ≡ left_result half from power
  pub last : p.last ≡ (from * power / (2 * half) % 2 == 1)
  pub turned : p.turned ≡ changes_top half from power

left_start : (half from : ℕ) → 0 < half → from < 2 * half → IsLeft half from 1 (at_start from)
left_start half from pos lt =
    let whole : from * 1 ≡ from = omega arith in
    let first : (from / (2 * half) ≡ 0) × (from % (2 * half) ≡ from) = parts from 0 (2 * half) from (omega arith) lt in
    let turns : changes_top half from 1 ≡ false = elim (low_or_high half from pos) [
      | inl l ↦ let q : from / half ≡ 0 = omega (arith, l.quotient) in rw (whole, q) refl
      | inr h ↦ let q : from / half ≡ 1 = omega (arith, h.quotient) in rw (whole, q) refl
    ] in
    record { value = rw whole (sym first.1); last = rw (whole, first.0) refl; turned = sym turns }

-- quotients over half of all places: whether they are all zeros or all ones

turned_on : (q r p : ℕ) → 0 < p → (r ≡ 2 * q) ⊎ (r ≡ 2 * q + 1) → (not (r == 0) && not (r == 2 * (2 * p) - 1)) ≡
    ((not (q == 0) && not (q == 2 * p - 1)) || is_other (q % 2 == 1) (r % 2 == 1))
turned_on q r p pos h = grind (arith, nat_tests)

-- the two halves of the width, as a test of the value and as the quotient's last digit
low_top : (half x : ℕ) → IsLow half x → (top_bit half (x % (2 * half)) ≡ false) × ((x / half % 2 == 1) ≡ false)
low_top half x l = let k : x / half ≡ 2 * (x / (2 * half)) = l.quotient in
    let below : x % (2 * half) < half = l.below in (grind (arith, nat_tests), grind (arith, nat_tests))

high_top : (half x : ℕ) → IsHigh half x → (top_bit half (x % (2 * half)) ≡ true) × ((x / half % 2 == 1) ≡ true)
high_top half x l = let k : x / half ≡ 2 * (x / (2 * half)) + 1 = l.quotient in
    let above : half ≤ x % (2 * half) = l.above in (grind (arith, nat_tests), grind (arith, nat_tests))

tops : (half x : ℕ) → 0 < half → top_bit half (x % (2 * half)) ≡ (x / half % 2 == 1)
tops half x pos = elim (low_or_high half x pos) [
  | inl l ↦ let t : (top_bit half (x % (2 * half)) ≡ false) × ((x / half % 2 == 1) ≡ false) = low_top half x l in t.0 ∙ sym t.1
  | inr h ↦ let t : (top_bit half (x % (2 * half)) ≡ true) × ((x / half % 2 == 1) ≡ true) = high_top half x h in t.0 ∙ sym t.1
]

doubled : (half x : ℕ) → 0 < half → one_place Left half (x % (2 * half)) ≡ 2 * x % (2 * half)
doubled half x pos = elim (low_or_high half x pos) [
  | inl l ↦ rw ((low_top half x l).0) (sym l.next_value)
  | inr h ↦ rw ((high_top half x h).0) (sym h.next_value)
]

out_next : (half x : ℕ) → 0 < half → 2 * x / (2 * half) ≡ x / half
out_next half x pos = elim (low_or_high half x pos) [ inl l ↦ l.next_out | inr h ↦ h.next_out ]

quotient_next : (half x : ℕ) → 0 < half → (2 * x / half ≡ 2 * (x / half)) ⊎ (2 * x / half ≡ 2 * (x / half) + 1)
quotient_next half x pos = let o : 2 * x / (2 * half) ≡ x / half = out_next half x pos in elim (low_or_high half (2 * x) pos) [
  | inl l ↦ inl (l.quotient ∙ ap (λ y. 2 * y) o)
  | inr h ↦ inr (h.quotient ∙ ap (λ y. 2 * y + 1) o)
]

left_on : (half from power : ℕ) (p : Passage) → 0 < half → 0 < power → IsLeft half from power p → IsLeft half from (2 * power) (a_place_on Left half p)
left_on half from power p pos above is =
    let twice : from * (2 * power) ≡ 2 * (from * power) = grind arith in
    let value : one_place Left half p.value ≡ 2 * (from * power) % (2 * half) = rw is.value (doubled half (from * power) pos) in
    let top : top_bit half p.value ≡ (from * power / half % 2 == 1) = rw is.value (tops half (from * power) pos) in
    let next : top_bit half (one_place Left half p.value) ≡ (2 * (from * power) / half % 2 == 1) = rw value (tops half (2 * (from * power)) pos) in
    let step : ((not (2 * (from * power) / half == 0)) && (not (2 * (from * power) / half == 2 * (2 * power) - 1))) ≡
    ((not (from * power / half == 0) && not (from * power / half == 2 * power - 1)) || is_other (from * power / half % 2 == 1) (2 * (from * power) / half % 2 == 1)) =
    turned_on (from * power / half) (2 * (from * power) / half) power above (quotient_next half (from * power) pos) in
    record {
      value = rw twice value;
      last = rw (twice, out_next half (from * power) pos) top;
      turned = rw (twice, step, is.turned, next, top) refl;
    }

pub left_by_places : (half from : ℕ) → 0 < half → from < 2 * half → (n : ℕ) → IsLeft half from (2 ^ n) (by_places Left half from n)
unfolding by_places
left_by_places half from pos lt zero = left_start half from pos lt
left_by_places half from pos lt (suc n) =
    rw (pow-succ' 2 n) (left_on half from (2 ^ n) (by_places Left half from n) pos (pow_pos n) (left_by_places half from pos lt n))

-- ---- to the right

record IsRight (half : ℕ) (with_sign : Bool) (from power : ℕ) (p : Passage) : Type 0 where
  pub value : p.value ≡ right_result half with_sign from power
  pub last : p.last ≡ (2 * extended half with_sign from power / power % 2 == 1)
  pub before : p.before ≡ not (2 * extended half with_sign from power % power == 0)

-- the top bit that comes in
abbrev comes_in : ℕ → Bool → ℕ → Bool
comes_in half with_sign value = with_sign && top_bit half value

abbrev right_place : ℕ → Bool → Passage → Passage
right_place half with_sign p = record {
  value = to_the_right half (comes_in half with_sign p.value) p.value;
  last = lowest_bit p.value;
  before = p.before || p.last;
  turned = p.turned || is_other (top_bit half p.value) (top_bit half (to_the_right half (comes_in half with_sign p.value) p.value));
}

-- the bits that are out: none is 1 where neither the last nor an earlier one is
out_bits : (x p : ℕ) → 0 < p → (not (2 * x % (2 * p) == 0)) ≡ (not (2 * x % p == 0) || (2 * x / p % 2 == 1))
out_bits x p pos =
    let whole : 2 * x ≡ 2 * x / p * p + 2 * x % p = sym (div-add-mod' (2 * x) p) in
    let low : 2 * x % p < p = mod_below (2 * x) p pos in
    elim (cases_eq (2 * x / p % 2) 1) [
      | inl odd ↦
          let k : 2 * x / p ≡ 2 * (2 * x / p / 2) + 1 = omega arith in
          let e : 2 * x % (2 * p) ≡ p + 2 * x % p = (parts (2 * x) (2 * x / p / 2) (2 * p) (p + 2 * x % p) (out_odd (2 * x) (2 * x / p) (2 * x / p / 2) p (2 * x % p) whole k) (omega arith)).1 in
          grind (arith, nat_tests)
      | inr even ↦
          let k : 2 * x / p ≡ 2 * (2 * x / p / 2) = omega (arith, even) in
          let e : 2 * x % (2 * p) ≡ 2 * x % p = (parts (2 * x) (2 * x / p / 2) (2 * p) (2 * x % p) (out_even (2 * x) (2 * x / p) (2 * x / p / 2) p (2 * x % p) whole k) (omega arith)).1 in
          grind (arith, nat_tests)
    ]
  where
    out_odd : (y q h p r : ℕ) → y ≡ q * p + r → q ≡ 2 * h + 1 → y ≡ h * (2 * p) + (p + r)
    out_odd y q h p r e f = rw (e, f) (grind arith)

    out_even : (y q h p r : ℕ) → y ≡ q * p + r → q ≡ 2 * h → y ≡ h * (2 * p) + r
    out_even y q h p r e f = rw (e, f) (grind arith)

-- ones above a number, k of them at each place, change neither what is out of it nor its bits but by those ones
record IsMore (x y k p : ℕ) : Type 0 where
  pub value : y / (2 * p) ≡ x / p / 2 + k
  pub last : 2 * y / (2 * p) % 2 ≡ x / p % 2
  pub before : 2 * y % p ≡ 2 * x % p
  pub out : 2 * y / p % 2 ≡ 2 * x / p % 2

more : (x y k p : ℕ) → 0 < p → y ≡ x + k * (2 * p) → IsMore x y k p
more x y k p pos e =
    let by_place : x ≡ x / p * p + x % p = sym (div-add-mod' x p) in
    let by_two : x ≡ x / (2 * p) * (2 * p) + x % (2 * p) = sym (div-add-mod' x (2 * p)) in
    let twice : 2 * x ≡ 2 * x / p * p + 2 * x % p = sym (div-add-mod' (2 * x) p) in
    let value : y / (2 * p) ≡ x / (2 * p) + k =
    (parts y (x / (2 * p) + k) (2 * p) (x % (2 * p)) (rise x y k (x / (2 * p)) (2 * p) (x % (2 * p)) by_two e) (mod_below x (2 * p) (omega arith))).0 in
    let last : 2 * y / (2 * p) ≡ x / p + 2 * k =
    (parts (2 * y) (x / p + 2 * k) (2 * p) (2 * (x % p)) (rise_double x y k (x / p) p (x % p) by_place e) (omega (arith, mod_below x p pos))).0 in
    let both : (2 * y / p ≡ 2 * x / p + 4 * k) × (2 * y % p ≡ 2 * x % p) =
    parts (2 * y) (2 * x / p + 4 * k) p (2 * x % p) (rise_twice x y k (2 * x / p) p (2 * x % p) twice e) (mod_below (2 * x) p pos) in
    let half : x / p / 2 ≡ x / (2 * p) = div-div-eq-div-mul x p 2 ∙ ap (λ m. x / m) (grind arith) in
    record { value = rw (value, half) refl; last = omega arith; before = both.1; out = omega arith }
  where
    rise : (x y k q w r : ℕ) → x ≡ q * w + r → y ≡ x + k * w → y ≡ (q + k) * w + r
    rise x y k q w r e f = rw (f, e) (grind arith)

    rise_double : (x y k q p r : ℕ) → x ≡ q * p + r → y ≡ x + k * (2 * p) → 2 * y ≡ (q + 2 * k) * (2 * p) + 2 * r
    rise_double x y k q p r e f = rw (f, e) (grind arith)

    rise_twice : (x y k q p r : ℕ) → 2 * x ≡ q * p + r → y ≡ x + k * (2 * p) → 2 * y ≡ (q + 4 * k) * p + r
    rise_twice x y k q p r e f = let g : 2 * y ≡ 2 * x + k * (2 * p) * 2 = omega arith in rw (g, e) (grind arith)

-- what comes in stays the same at each place
stays : (half : ℕ) (with_sign : Bool) (from power : ℕ) → 0 < half → 0 < power →
    comes_in half with_sign (right_result half with_sign from power) ≡ comes_in half with_sign from
stays half false from power pos above = refl
stays half true from power pos above = elim (cases_lt from half) [
  | inl low ↦
      let none : top_bit half from ≡ false = lt-leb half from low in
      let less : from / power ≤ from = div-le_of_le-mul power {m = from} {n = from} (rw (mul_comm power from) (le-mul_of_pos_right from above)) in
      rw none (lt-leb half (from / power) (omega arith))
  | inr high ↦
      let one : top_bit half from ≡ true = le-leb half from high in
      rw one (le-leb half _ (le-div half _ power above (enough half from power above high)))
]
  where
    enough : (h v p : ℕ) → 0 < p → h ≤ v → h * p ≤ v + 2 * h * (p - 1)
    enough h v zero pos le = elim pos [ ]
    enough h v (suc p) pos le = grind arith

-- one more place brings in k ones above
record Grows (half : ℕ) (with_sign : Bool) (from power : ℕ) : Type 0 where
  pub ones : ℕ
  pub more : extended half with_sign from (2 * power) ≡ extended half with_sign from power + ones * (2 * power)
  pub place : (y : ℕ) → to_the_right half (comes_in half with_sign (right_result half with_sign from power)) y ≡ y / 2 + ones

grows : (half : ℕ) (with_sign : Bool) (from power : ℕ) → 0 < half → 0 < power → Grows half with_sign from power
grows half with_sign from power pos above = elim (cases_Bool (comes_in half with_sign from)) [
  | inl some ↦ record {
    ones = half;
    more = rw some (longer half from power above);
    place = λ y. rw (stays half with_sign from power pos above, some) refl;
  }
  | inr none ↦ record {
    ones = 0;
    more = rw none (omega arith);
    place = λ y. rw (stays half with_sign from power pos above, none) (omega arith);
  }
]
  where
    longer : (h v p : ℕ) → 0 < p → v + 2 * h * (2 * p - 1) ≡ v + 2 * h * (p - 1) + h * (2 * p)
    longer h v zero pos = elim pos [ ]
    longer h v (suc p) pos = let e : 2 * suc p - 1 ≡ 2 * p + 1 = omega arith in rw e (grind arith)

right_on : (half : ℕ) (with_sign : Bool) (from power : ℕ) (p : Passage) → 0 < half → 0 < power → IsRight half with_sign from power p →
    IsRight half with_sign from (2 * power) (right_place half with_sign p)
right_on half with_sign from power p pos above is =
    let g : Grows half with_sign from power = grows half with_sign from power pos above in
    let m : IsMore (extended half with_sign from power) (extended half with_sign from (2 * power)) g.ones power =
    more (extended half with_sign from power) (extended half with_sign from (2 * power)) g.ones power above g.more in
    record {
      value = rw is.value (g.place (right_result half with_sign from power) ∙ sym m.value);
      last = rw (is.value, m.last) refl;
      before = rw (is.before, is.last, out_bits (extended half with_sign from (2 * power)) power above, m.before, m.out) refl;
    }

right_start : (half : ℕ) (with_sign : Bool) (from : ℕ) → IsRight half with_sign from 1 (at_start from)
right_start half with_sign from =
    let same : extended half with_sign from 1 ≡ from = elim (cases_Bool (comes_in half with_sign from)) [
      | inl some ↦ rw some (omega arith)
      | inr none ↦ rw none refl
    ] in
    record { value = rw same (omega arith); last = rw same (grind (arith, nat_tests)); before = rw same (grind (arith, nat_tests)) }

right_by_places : (half from : ℕ) → 0 < half → (n : ℕ) → IsRight half false from (2 ^ n) (by_places Right half from n)
unfolding by_places
right_by_places half from pos zero = right_start half false from
right_by_places half from pos (suc n) =
    rw (pow-succ' 2 n) (right_on half false from (2 ^ n) (by_places Right half from n) pos (pow_pos n) (right_by_places half from pos n))

signed_by_places : (half from : ℕ) → 0 < half → (n : ℕ) → IsRight half true from (2 ^ n) (by_places Signed half from n)
unfolding by_places
signed_by_places half from pos zero = right_start half true from
signed_by_places half from pos (suc n) =
    rw (pow-succ' 2 n) (right_on half true from (2 ^ n) (by_places Signed half from n) pos (pow_pos n) (signed_by_places half from pos n))

-- ---- the law

half_above : (width : ℕ) → IsWidth width → 0 < half_of width
unfolding half_of
half_above width (inl e) = rw e (omega arith)
half_above width (inr (inl e)) = rw e (omega arith)
half_above width (inr (inr e)) = rw e (omega arith)

pub shifts_go_by_places : ShiftsGoByPlaces
shifts_go_by_places Left width value count flags is lt =
    let half : 0 < half_of width = half_above width is in
    let p : IsLeft (half_of width) value (2 ^ count) (by_places Left (half_of width) value count) = left_by_places (half_of width) value half lt count in
    (sym p.value, rw (p.value, p.last, p.turned) refl)
shifts_go_by_places Right width value count flags is lt =
    let half : 0 < half_of width = half_above width is in
    let p : IsRight (half_of width) false value (2 ^ count) (by_places Right (half_of width) value count) = right_by_places (half_of width) value half count in
    (sym p.value, rw (p.value, p.last, p.before) refl)
shifts_go_by_places Signed width value count flags is lt =
    let half : 0 < half_of width = half_above width is in
    let p : IsRight (half_of width) true value (2 ^ count) (by_places Signed (half_of width) value count) = signed_by_places (half_of width) value half count in
    (sym p.value, rw (p.value, p.last, p.before) refl)
