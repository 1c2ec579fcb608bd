-- The variables that a dump may have, each with a name and a code of its own.
use Rattle.std.proofs.Common.{◌≡◌, ℕ, ◌+◌, ◌-◌, ◌/◌, ◌%◌, ◌<◌, ◌≤◌, Bool, true, false, cond, not, ◌&&◌, ◌||◌, eqb, leb, ltb, List, [], ◌∷◌, ◌++◌, codes, decimal, inl, inr, refl, sym, ap, ◌∙◌, append-nil, arith}
use Rattle.std.specs.Str.{bytes_eq}
use Rattle.std.proofs.lemmas.Bool.{leb-true, eq-eqb, ne_eqb, eqb-true, eqb-false, cases_lt, cases_Bool, lt-ltb, le-ltb, ltb-true, false≢true}
use Rattle.std.proofs.lemmas.Fmt.{decimal_by_steps}
use Rattle.kc_base.specs.Pins.{pin_count, pin_name, pin_facts, is_input, is_printed}
use Rattle.kc_base.proofs.PinLemmas.{all_below, each_below, no_facts, input_is_pin}
use Rattle.kc_base.proofs.Words.{Word, word-from, is_word, word-append}
use Rattle.kc_base.proofs.Numbers.{word-decimal}
use Rattle.kc_trace.specs.declared.life.Signal.{Signal}
use Rattle.kc_trace.specs.declared.life.Signal.TheVariants.{Output, Input}
use Rattle.kc_trace.specs.Signals.{same_signal, is_signal}
use Rattle.kc_vcd.specs.declared.variable.Variable.{Variable}
use Rattle.kc_vcd.specs.declared.variable.Variable.TheVariants.{Wire, Analog, Entry, Transfer, Undefined, Life}
use Rattle.kc_vcd.specs.Variables.{name_of, signal_number, number_of, code_of}
use Rattle.kc_vcd.specs.Laws.{IsKnown}

-- ---- numbers

pub printed_is_pin : (n : ℕ) → is_printed n ≡ true → n < pin_count
printed_is_pin n is = elim (cases_lt n pin_count) [
  | inl less ↦ less
  | inr past ↦ absurd (false≢true (sym (ap (λ facts. facts.printed) (no_facts n past)) ∙ is))
]

-- the pins that are both
both_are_low : (n : ℕ) → is_printed n ≡ true → is_input n ≡ true → n < 14
unfolding pin_facts
both_are_low n printed input =
    let test = each_below (λ k. not (is_printed k && is_input k) || ltb k 14) pin_count n refl (printed_is_pin n printed) in
    ltb-true n 14 (sym (λ i. not (printed i && input i) || ltb n 14) ∙ test)

both_are_high : (n : ℕ) → is_printed n ≡ true → is_input n ≡ true → 6 ≤ n
unfolding pin_facts
both_are_high n printed input =
    let test = each_below (λ k. not (is_printed k && is_input k) || leb 6 k) pin_count n refl (printed_is_pin n printed) in
    leb-true 6 n (sym (λ i. not (printed i && input i) || leb 6 n) ∙ test)

input_number_low : (n : ℕ) → is_printed n ≡ false → signal_number (Input (record { 0 = n })) ≡ n
input_number_low n off = ap (λ b. cond b (35 + n) n) off

input_number_high : (n : ℕ) → is_printed n ≡ true → signal_number (Input (record { 0 = n })) ≡ 35 + n
input_number_high n on = ap (λ b. cond b (35 + n) n) on

signal_below : (signal : Signal) → is_signal signal ≡ true → signal_number signal < 49
signal_below (Output pin) is = let less = printed_is_pin pin.0 is in omega (arith, less)
signal_below (Input pin) is = elim (cases_Bool (is_printed pin.0)) [
  | inl on ↦ let less = both_are_low pin.0 on is in let same = input_number_high pin.0 on in omega (arith, less, same)
  | inr off ↦ let less = input_is_pin pin.0 is in let same = input_number_low pin.0 off in omega (arith, less, same)
]

pub number_small : (v : Variable) → IsKnown v → number_of v < 92
number_small (Wire signal) is = let less = signal_below signal is in omega (arith, less)
number_small (Analog channel) is = omega (arith, is)
number_small (Entry number) is = omega (arith, is)
number_small (Transfer number) is = omega (arith, is)
number_small Undefined is = omega arith
number_small Life is = omega arith

same_code : (n m : ℕ) → n < 92 → m < 92 → eqb (33 + (32 + n) % 94) (33 + (32 + m) % 94) ≡ eqb n m
same_code n m less small = by_test (eqb n m) refl
  where
    by_test : (b : Bool) → eqb n m ≡ b → eqb (33 + (32 + n) % 94) (33 + (32 + m) % 94) ≡ b
    by_test true e = eq-eqb (33 + (32 + n) % 94) (33 + (32 + m) % 94) (ap (λ k. 33 + (32 + k) % 94) (eqb-true n m e))
    by_test false e = let other = eqb-false n m e in ne_eqb (33 + (32 + n) % 94) (33 + (32 + m) % 94) (λ k. other (omega (arith, k, less, small)))

-- codes are the same where numbers are
pub code_same : (v w : Variable) → IsKnown v → IsKnown w → eqb (code_of v) (code_of w) ≡ eqb (number_of v) (number_of w)
code_same v w is known = same_code (number_of v) (number_of w) (number_small v is) (number_small w known)

pub code_high : (v : Variable) → 32 < code_of v
code_high v = omega arith

eqb_turned : (n m : ℕ) → eqb n m ≡ eqb m n
eqb_turned n m = by_test (eqb m n) refl
  where
    by_test : (b : Bool) → eqb m n ≡ b → eqb n m ≡ b
    by_test true e = eq-eqb n m (sym (eqb-true m n e))
    by_test false e = let other = eqb-false m n e in ne_eqb n m (λ k. other (sym k))

apart : (n m : ℕ) → is_printed n ≡ true → is_input m ≡ true → eqb n (signal_number (Input (record { 0 = m }))) ≡ false
apart n m printed input = ne_eqb n (signal_number (Input (record { 0 = m }))) (λ same. elim (cases_Bool (is_printed m)) [
  | inl on ↦ let less = printed_is_pin n printed in let high = both_are_high m on input in let is = input_number_high m on in absurd (omega (arith, less, high, is, same))
  | inr off ↦ false≢true (sym off ∙ sym (ap is_printed (same ∙ input_number_low m off)) ∙ printed)
])

inputs_same : (n m : ℕ) → is_input n ≡ true → is_input m ≡ true → eqb (signal_number (Input (record { 0 = n }))) (signal_number (Input (record { 0 = m }))) ≡ eqb n m
inputs_same n m input other = by_test (eqb n m) refl
  where
    differs : (eqb n m ≡ false) → signal_number (Input (record { 0 = n })) ≡ signal_number (Input (record { 0 = m })) → ⊥
    differs e same =
        let wrong = eqb-false n m e in
        elim (cases_Bool (is_printed n)) [
          | inl on ↦ elim (cases_Bool (is_printed m)) [
            | inl on' ↦ let a = input_number_high n on in let b = input_number_high m on' in wrong (omega (arith, a, b, same))
            | inr off' ↦ let a = input_number_high n on in let b = input_number_low m off' in let high = both_are_high n on input in let less = input_is_pin m other in absurd (omega (arith, a, b, same, high, less))
          ]
          | inr off ↦ elim (cases_Bool (is_printed m)) [
            | inl on' ↦ let a = input_number_low n off in let b = input_number_high m on' in let high = both_are_high m on' other in let less = input_is_pin n input in absurd (omega (arith, a, b, same, high, less))
            | inr off' ↦ let a = input_number_low n off in let b = input_number_low m off' in wrong (omega (arith, a, b, same))
          ]
        ]

    by_test : (b : Bool) → eqb n m ≡ b → eqb (signal_number (Input (record { 0 = n }))) (signal_number (Input (record { 0 = m }))) ≡ b
    by_test true e = eq-eqb (signal_number (Input (record { 0 = n }))) (signal_number (Input (record { 0 = m }))) (ap (λ k. signal_number (Input (record { 0 = k }))) (eqb-true n m e))
    by_test false e = ne_eqb (signal_number (Input (record { 0 = n }))) (signal_number (Input (record { 0 = m }))) (differs e)

-- a signal is another one where its number is
pub signal_same : (other signal : Signal) → is_signal other ≡ true → is_signal signal ≡ true → eqb (signal_number other) (signal_number signal) ≡ same_signal signal other
signal_same (Output p) (Output q) is known = eqb_turned p.0 q.0
signal_same (Output p) (Input q) is known = apart p.0 q.0 is known
signal_same (Input p) (Output q) is known = eqb_turned (signal_number (Input p)) q.0 ∙ apart q.0 p.0 known is
signal_same (Input p) (Input q) is known = inputs_same p.0 q.0 is known ∙ eqb_turned p.0 q.0

-- what happens, and values, have other numbers than signals
pub signal_apart : (signal : Signal) (n : ℕ) → is_signal signal ≡ true → 49 ≤ n → eqb (signal_number signal) n ≡ false
signal_apart signal n is high = ne_eqb (signal_number signal) n (λ same. let less = signal_below signal is in omega (arith, less, high, same))

-- ---- names

-- a number below 20 in decimal
abbrev short : ℕ → List ℕ
short n = cond (ltb n 10) ((48 + n) ∷ []) (49 ∷ (48 + n % 10) ∷ [])

decimal_short : (n : ℕ) → n < 20 → decimal n ≡ short n
decimal_short n small = decimal_by_steps (λ m ds. m < 20 → ds ≡ short m)
    (λ m less few. rw (lt-ltb m 10 less) refl)
    (λ m ds more h few.
    let one : m / 10 ≡ 1 = omega (arith, few, more) in
    ap (λ (digits : List ℕ). digits ++ (48 + m % 10) ∷ []) (h (omega (arith, one)) ∙ ap short one) ∙ rw (le-ltb m 10 more) refl)
    n (omega (arith, small)) small

-- the name of the variable of a number
abbrev name_at : ℕ → List ℕ
name_at n =
    cond (ltb n 41) (pin_name n)
    (cond (ltb n 49) (pin_name (n - 35) ++ codes "_in")
    (cond (ltb n 57) (codes "A" ++ short (n - 49))
    (cond (ltb n 75) (codes "entry" ++ short (n - 57))
    (cond (ltb n 90) (codes "transfer" ++ short (n - 75)) (cond (ltb n 91) (codes "undefined") (codes "life"))))))

name_numbered : (v : Variable) → IsKnown v → name_of v ≡ name_at (number_of v)
name_numbered (Wire (Output pin)) is = let less = printed_is_pin pin.0 is in rw (lt-ltb pin.0 41 less) refl
name_numbered (Wire (Input pin)) is = elim (cases_Bool (is_printed pin.0)) [
  | inl on ↦
      let low = both_are_low pin.0 on is in
      let high = both_are_high pin.0 on is in
      let back : 35 + pin.0 - 35 ≡ pin.0 = omega arith in
      rw (on, le-ltb (35 + pin.0) 41 (omega (arith, high)), lt-ltb (35 + pin.0) 49 (omega (arith, low)), back) refl
  | inr off ↦ let less = input_is_pin pin.0 is in rw (off, lt-ltb pin.0 41 less, append-nil (pin_name pin.0)) refl
]
name_numbered (Analog c) is =
    let back : 49 + c - 49 ≡ c = omega arith in
    rw (le-ltb (49 + c) 41 (omega arith), le-ltb (49 + c) 49 (omega arith), lt-ltb (49 + c) 57 (omega (arith, is)), back, decimal_short c (omega (arith, is))) refl
name_numbered (Entry n) is =
    let back : 57 + n - 57 ≡ n = omega arith in
    rw (le-ltb (57 + n) 41 (omega arith), le-ltb (57 + n) 49 (omega arith), le-ltb (57 + n) 57 (omega arith), lt-ltb (57 + n) 75 (omega (arith, is)), back, decimal_short n (omega (arith, is))) refl
name_numbered (Transfer n) is =
    let back : 75 + n - 75 ≡ n = omega arith in
    rw (le-ltb (75 + n) 41 (omega arith), le-ltb (75 + n) 49 (omega arith), le-ltb (75 + n) 57 (omega arith), le-ltb (75 + n) 75 (omega arith), lt-ltb (75 + n) 90 (omega (arith, is)), back, decimal_short n (omega (arith, is))) refl
name_numbered Undefined is = refl
name_numbered Life is = refl

abbrev names_apart : ℕ → ℕ → Bool
names_apart n m = not (bytes_eq (name_at n) (name_at m)) || eqb n m

abbrev all_apart : ℕ → Bool
all_apart n = all_below (names_apart n) 92

names_differ : all_below all_apart 92 ≡ true
names_differ = refl

-- variables of one name have one number
pub name_same : (v w : Variable) → IsKnown v → IsKnown w → bytes_eq (name_of v) (name_of w) ≡ true → number_of v ≡ number_of w
name_same v w is known same =
    let n = number_of v in
    let m = number_of w in
    let tests = each_below (names_apart n) 92 m (each_below all_apart 92 n names_differ (number_small v is)) (number_small w known) in
    let named : bytes_eq (name_at n) (name_at m) ≡ true = (λ i. bytes_eq (sym (name_numbered v is) i) (sym (name_numbered w known) i)) ∙ same in
    eqb-true n m (sym (λ i. not (named i) || eqb n m) ∙ tests)

word_name : (n : ℕ) → n < pin_count → Word (pin_name n)
word_name n less = word-from (pin_name n) (each_below (λ k. is_word (pin_name k)) pin_count n refl less)

pub name_word : (v : Variable) → IsKnown v → Word (name_of v)
name_word (Wire (Output pin)) is = word_name pin.0 (printed_is_pin pin.0 is)
name_word (Wire (Input pin)) is = word-append (pin_name pin.0) (cond (is_printed pin.0) (codes "_in") []) (word_name pin.0 (input_is_pin pin.0 is)) (by_test (is_printed pin.0))
  where
    by_test : (b : Bool) → Word (cond b (codes "_in") [])
    by_test true = word-from (codes "_in") refl
    by_test false = tt
name_word (Analog c) is = word-append (codes "A") (decimal c) (word-from (codes "A") refl) (word-decimal c (omega (arith, is)))
name_word (Entry n) is = word-append (codes "entry") (decimal n) (word-from (codes "entry") refl) (word-decimal n (omega (arith, is)))
name_word (Transfer n) is = word-append (codes "transfer") (decimal n) (word-from (codes "transfer") refl) (word-decimal n (omega (arith, is)))
name_word Undefined is = word-from (codes "undefined") refl
name_word Life is = word-from (codes "life") refl
