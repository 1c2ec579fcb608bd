-- Numbers, times and shares (this kit's own). A state has two periods of the oscillator.
use Rattle.std.specs.Prelude.{ℕ, zero, suc, ◌+◌, ◌-◌, ◌*◌, ◌/◌, ◌%◌, ◌^◌, ◌≤◌, ◌==◌, nat_le, nat_lt, if◌then◌else◌, Bool, ◌&&◌, ◌||◌, Option, Some, None, option_and_then, List, length, drop, codes}
use Rattle.std.specs.Option.{option_map}
use Rattle.std.specs.List.{take_while}
use Rattle.std.specs.Char.{is_ascii_digit}
use Rattle.std.specs.Str.{bytes_eq}
use Rattle.kc_base.specs.Fields.{decimal_of}
use Rattle.kc_base.specs.Limits.{max_states}
use Rattle.kc_base.specs.TextLines.{begins_with}
use Rattle.kc_rules.specs.declared.amount.Time.{Time}
use Rattle.kc_rules.specs.declared.amount.Share.{Share}
use Rattle.kc_rules.specs.declared.amount.Factor.{Factor}
use Rattle.kc_rules.specs.declared.amount.Amount.{Amount}
use Rattle.kc_rules.specs.declared.amount.Amount.TheVariants as amounts
use Rattle.kc_rules.specs.Words.{Word}

-- ---- digits

abbrev pub digits_of : List ℕ → List ℕ
digits_of text = take_while is_ascii_digit text

abbrev pub behind_digits : List ℕ → List ℕ
behind_digits text = drop (length (digits_of text)) text

-- the number of at least one digit and at most so many; it is at most the limit, as each such number is
abbrev pub number_of : ℕ → ℕ → List ℕ → Option ℕ
number_of most limit digits = if nat_le (length digits) most then decimal_of limit digits else None

abbrev pub if_nothing : List ℕ → ℕ → Option ℕ
if_nothing text n = if length text == 0 then Some n else None

-- a text that is such digits alone
unfoldable pub whole_number : ℕ → ℕ → List ℕ → Option ℕ
whole_number most limit text = option_and_then (if_nothing (behind_digits text)) (number_of most limit (digits_of text))

-- a count: at most 15 digits
abbrev pub count_of : Word → Option ℕ
count_of w = whole_number 15 max_states w

abbrev pub if_up_to : ℕ → ℕ → Option ℕ
if_up_to most n = if nat_le n most then Some n else None

unfoldable pub up_to : ℕ → Word → Option ℕ
up_to most w = option_and_then (if_up_to most) (count_of w)

-- 1st, 2nd, 3rd, 4th: any of the four endings
abbrev pub is_ordinal_ending : List ℕ → Bool
is_ordinal_ending text = bytes_eq text (codes "st") || (bytes_eq text (codes "nd") || (bytes_eq text (codes "rd") || bytes_eq text (codes "th")))

abbrev pub at_least_one : ℕ → Option ℕ
at_least_one n = if n == 0 then None else Some n

-- at most nine digits
unfoldable pub ordinal_of : Word → Option ℕ
ordinal_of w = if is_ordinal_ending (behind_digits w) then option_and_then at_least_one (number_of 9 (10 ^ 9) (digits_of w)) else None

abbrev pub begins_digit : List ℕ → Bool
begins_digit text = nat_lt 0 (length (digits_of text))

-- ---- decimals, in millionths: at most 15 digits, and behind a point at most six

abbrev pub has_point : Word → Bool
has_point w = begins_with 46 (behind_digits w)

abbrev pub behind_point : Word → List ℕ
behind_point w = drop 1 (behind_digits w)

-- six digits behind the point, with zeros for those that are not there
abbrev pub millionths : List ℕ → Option ℕ
millionths digits = option_map (λ n. n * 10 ^ (6 - length digits)) (number_of 6 (10 ^ 6) digits)

unfoldable pub fraction_of : Word → Option ℕ
fraction_of w = if has_point w then millionths (digits_of (behind_point w)) else Some 0

unfoldable pub value_of : Word → Option ℕ
value_of w = option_and_then (λ n. option_map (λ f. n * 10 ^ 6 + f) (fraction_of w)) (number_of 15 max_states (digits_of w))

-- what stands behind a decimal
abbrev pub unit_of : Word → List ℕ
unit_of w = if has_point w then behind_digits (behind_point w) else behind_digits w

-- ---- times: whole states, and parts of one. A state has 2 * 10^15 parts, so that each time that has a decimal is a whole number.

abbrev pub parts_in_state : ℕ
parts_in_state = 2 * 10 ^ 15

-- the parts of a millionth of a unit, at an oscillator of so many hertz; a number without a unit counts states
unfoldable pub unit_parts : ℕ → List ℕ → Option ℕ
unit_parts clock unit =
    if bytes_eq unit (codes "ns") then Some clock
    else (if bytes_eq unit (codes "us") then Some (clock * 10 ^ 3)
    else (if bytes_eq unit (codes "ms") then Some (clock * 10 ^ 6)
    else (if bytes_eq unit (codes "s") then Some (clock * 10 ^ 9)
    else (if length unit == 0 then Some (2 * 10 ^ 9) else None))))

-- at most as many states as a run may have
unfoldable pub time_in : ℕ → Option Amount
time_in parts =
    if nat_le parts (max_states * parts_in_state)
    then Some (amounts.Time (record { states = parts / parts_in_state; parts = parts % parts_in_state })) else None

-- a time is at most as many states as a run may have
abbrev pub IsShort : Time → Type 0
IsShort time = time.states ≤ max_states

abbrev pub IsSmall : Amount → Type 0
IsSmall (amounts.Time time) = IsShort time
IsSmall (amounts.Share share) = Unit {0}

-- the least state that is no earlier, and the greatest that is no later
abbrev pub ceiling : Time → ℕ
ceiling time = if time.parts == 0 then time.states else time.states + 1

abbrev pub floor : Time → ℕ
floor time = time.states

abbrev pub time_le : Time → Time → Bool
time_le a b = nat_lt a.states b.states || ((a.states == b.states) && nat_le a.parts b.parts)

-- ---- shares: fractions in lowest terms

-- the greatest common divisor, by Euclid's steps
unfoldable pub gcd_within : ℕ → ℕ → ℕ → ℕ
gcd_within zero a b = a
gcd_within (suc n) a zero = a
gcd_within (suc n) a (suc b) = gcd_within n (suc b) (a % suc b)

abbrev pub gcd : ℕ → ℕ → ℕ
gcd a b = gcd_within b a b

-- at most 10^6, with a denominator of at most 10^9
unfoldable pub share_in : ℕ → ℕ → Option Amount
share_in num den =
    if nat_le (den / gcd num den) (10 ^ 9) && nat_le (num / gcd num den) (10 ^ 6 * (den / gcd num den))
    then Some (amounts.Share (record { num = num / gcd num den; den = den / gcd num den })) else None

-- percent, or `/` and at most nine digits
unfoldable pub denominator_of : List ℕ → Option ℕ
denominator_of unit =
    if bytes_eq unit (codes "%") then Some 100
    else (if begins_with 47 unit then option_and_then at_least_one (whole_number 9 (10 ^ 9) (drop 1 unit)) else None)

-- ---- amounts

-- a number without a unit has no point
unfoldable pub time_of : ℕ → Bool → ℕ → List ℕ → Option Amount
time_of clock point value unit =
    if point && (length unit == 0) then None
    else option_and_then (λ parts. time_in (value * parts)) (unit_parts clock unit)

abbrev pub by_denominator : ℕ → Word → ℕ → Option ℕ → Option Amount
by_denominator clock w value None = time_of clock (has_point w) value (unit_of w)
by_denominator clock w value (Some n) = share_in value (10 ^ 6 * n)

-- a time or a share; the oscillator has so many hertz
unfoldable pub amount_of : ℕ → Word → Option Amount
amount_of clock w = option_and_then (λ value. by_denominator clock w value (denominator_of (unit_of w))) (value_of w)

abbrev pub only_time : Amount → Option Time
only_time (amounts.Time time) = Some time
only_time (amounts.Share share) = None

abbrev pub only_share : Amount → Option Factor
only_share (amounts.Time time) = None
only_share (amounts.Share share) = Some share

-- a share of at most one
abbrev pub proper : Factor → Option Share
proper share = if nat_le share.num share.den then Some (record { num = share.num; den = share.den }) else None

abbrev pub share_le : Share → Share → Bool
share_le a b = nat_le (a.num * b.den) (b.num * a.den)
