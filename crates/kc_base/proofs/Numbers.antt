-- Numbers as they are spelled, read again.
use Rattle.std.proofs.Common.{◌≡◌, ℕ, zero, suc, ◌+◌, ◌-◌, ◌*◌, ◌/◌, ◌%◌, ◌^◌, ◌<◌, ◌≤◌, inl, inr, Bool, true, false, cond, Option, Some, None, Ok, List, [], ◌∷◌, ◌++◌, length, flat_map, refl, sym, ap, subst, ◌∙◌, arith}
use Rattle.std.specs.Prelude.{decimal, nat_le}
use Rattle.std.specs.Char.{is_ascii_lowercase}
use Rattle.std.specs.List.{list_any}
use Rattle.std.proofs.lemmas.Bool.{lt-ltb, le-ltb, le-leb, lt-leb, leb-true, cases_lt}
use Rattle.std.proofs.lemmas.Fmt.{decimal_by_steps, decimal_by_steps_wide}
use Rattle.std.proofs.lemmas.List.Folds.{list_any-append}
use Rattle.std.proofs.lemmas.List.Sums.{fold-append}
use Rattle.hex.specs.Hex.{hex_digit_value, digit_or_error, value_at, pair_value, decode_pairs}
use Rattle.hex.proofs.Pairs.{cons_byte, decode_pairs-ok_pair}
use Rattle.kc_base.specs.Bytes.{IsBytes}
use Rattle.kc_base.specs.Digits.{hex_digit, hex, digit_of, digits_from, up_to}
use Rattle.kc_base.specs.Fields.{decimal_value, decimal_of, word_of, byte_of}
use Rattle.kc_base.proofs.DigitLemmas.{digits-last}
use Rattle.kc_base.proofs.Words.{Word, word-append}

-- ---- decimal numbers

pub word-decimal : (n : ℕ) → n < 10 ^ 64 → Word (decimal n)
word-decimal n small = decimal_by_steps_wide (λ m ds. Word ds) (λ m less. (omega arith, tt)) (λ m ds more h. word-append ds ((48 + m % 10) ∷ []) h (omega arith, tt)) n small

pub value-decimal : (n : ℕ) → n < 10 ^ 64 → decimal_value (decimal n) ≡ n
value-decimal n small = decimal_by_steps_wide (λ m ds. decimal_value ds ≡ m)
    (λ m less. omega arith)
    (λ m ds more h. fold-append (λ k c. 10 * k + (c - 48)) 0 ds ((48 + m % 10) ∷ []) ∙ omega (arith, h))
    n small

decimal-digit : (d : ℕ) → d < 10 → digit_of (48 + d) ≡ d
decimal-digit d small = let e : (48 + d) - 48 ≡ d = omega arith in rw (le-leb 48 (48 + d) (omega arith), le-leb (48 + d) 57 (omega arith)) e

digits-decimal : (n : ℕ) → n < 2 ^ 64 → digits_from 10 0 (decimal n) ≡ Some n
digits-decimal n small = decimal_by_steps (λ m ds. digits_from 10 0 ds ≡ Some m)
    (λ m less. let only : 0 * 10 + m ≡ m = omega arith in rw (decimal-digit m less, lt-ltb m 10 less) (ap Some only))
    (λ m ds more h.
    let whole : m / 10 * 10 + m % 10 ≡ m = omega arith in
    digits-last 10 0 (m / 10) (m % 10) (48 + m % 10) ds h (decimal-digit (m % 10) (omega arith)) (omega arith) ∙ ap Some whole)
    n small

longer : (ds : List ℕ) (c : ℕ) → 0 < length (ds ++ c ∷ [])
longer [] c = omega arith
longer (d ∷ ds) c = omega arith

some-digit : (n : ℕ) → n < 2 ^ 64 → 0 < length (decimal n)
some-digit n small = decimal_by_steps (λ m ds. 0 < length ds) (λ m less. omega arith) (λ m ds more h. longer ds (48 + m % 10)) n small

decimal-found : (most n : ℕ) (text : List ℕ) → 0 < length text → digits_from 10 0 text ≡ Some n → n ≤ most → decimal_of most text ≡ Some n
decimal-found most n [] some is few = absurd (omega (arith, some))
decimal-found most n (c ∷ cs) some is few = ap (up_to most) is ∙ rw (le-leb n most few) refl

pub number-read : (most n : ℕ) → n ≤ most → n < 2 ^ 64 → decimal_of most (decimal n) ≡ Some n
number-read most n few small = decimal-found most n (decimal n) (some-digit n small) (digits-decimal n small) few

-- a number that is read is at most what it may be
pub number-small : (most : ℕ) (text : List ℕ) (n : ℕ) → decimal_of most text ≡ Some n → n ≤ most
number-small most [] n is = absurd (cc)
number-small most (c ∷ digits) n is = below (digits_from 10 0 (c ∷ digits)) is
  where
    kept : (m : ℕ) (b : Bool) → nat_le m most ≡ b → cond b (Some m) None ≡ Some n → n ≤ most
    kept m true on found = let same : m ≡ n = cc in let le : m ≤ most = leb-true m most on in omega arith
    kept m false off found = absurd (cc)

    below : (o : Option ℕ) → up_to most o ≡ Some n → n ≤ most
    below None found = absurd (cc)
    below (Some m) found = kept m (nat_le m most) refl found

-- ---- hex digits

-- a digit is one of ten or one of six
by_digit : (P : ℕ → Type 0) (d : ℕ) → d < 16 → (d < 10 → P (d + 48)) → (10 ≤ d → P (d + 55)) → P (hex_digit d)
by_digit P d small low high = elim (cases_lt d 10) [
  | inl less ↦ subst (λ b. P (cond b (d + 48) (d + 55))) (sym (lt-ltb d 10 less)) (low less)
  | inr more ↦ subst (λ b. P (cond b (d + 48) (d + 55))) (sym (le-ltb d 10 more)) (high more)
]

pub digit_value : (d : ℕ) → d < 16 → hex_digit_value (hex_digit d) ≡ Some d
digit_value d small = by_digit (λ c. hex_digit_value c ≡ Some d) d small
    (λ less.
    let e : (d + 48) - 48 ≡ d = omega arith in
    rw (lt-leb 65 (d + 48) (omega arith), lt-leb 97 (d + 48) (omega arith), le-leb 48 (d + 48) (omega arith), le-leb (d + 48) 57 (omega arith)) (ap Some e))
    (λ more.
    let e : (d + 55) - 55 ≡ d = omega arith in
    rw (le-leb 65 (d + 55) (omega arith), le-leb (d + 55) 70 (omega arith)) (ap Some e))

digit-word : (d : ℕ) → d < 16 → 32 < hex_digit d
digit-word d small = by_digit (λ c. 32 < c) d small (λ less. omega arith) (λ more. omega arith)

digit-upper : (d : ℕ) → d < 16 → is_ascii_lowercase (hex_digit d) ≡ false
digit-upper d small = by_digit (λ c. is_ascii_lowercase c ≡ false) d small
    (λ less. rw (lt-leb 97 (d + 48) (omega arith)) refl)
    (λ more. rw (lt-leb 97 (d + 55) (omega arith)) refl)

pub upper-hex : (digits n : ℕ) → list_any is_ascii_lowercase (hex digits n) ≡ false
upper-hex zero n = refl
upper-hex (suc digits) n =
    list_any-append is_ascii_lowercase (hex digits (n / 16)) (hex_digit (n % 16) ∷ [])
    ∙ rw (upper-hex digits (n / 16), digit-upper (n % 16) (omega arith)) refl

pub word-hex : (digits n : ℕ) → Word (hex digits n)
word-hex zero n = tt
word-hex (suc digits) n = word-append (hex digits (n / 16)) (hex_digit (n % 16) ∷ []) (word-hex digits (n / 16)) (digit-word (n % 16) (omega arith), tt)

pub word-bytes : (bytes : List ℕ) → Word (flat_map (hex 2) bytes)
word-bytes [] = tt
word-bytes (b ∷ bytes) = word-append (hex 2 b) (flat_map (hex 2) bytes) (word-hex 2 b) (word-bytes bytes)

-- two digits that are read
pair-read : (x y a b i : ℕ) → hex_digit_value x ≡ Some a → hex_digit_value y ≡ Some b → pair_value x y i ≡ Ok (a * 16 + b)
pair-read x y a b i h k =
    let high : value_at x i ≡ Ok a = ap (digit_or_error x i) h in
    let low : value_at y (i + 1) ≡ Ok b = ap (digit_or_error y (i + 1)) k in
    rw (high, low) refl

no_pairs : (i : ℕ) → decode_pairs i [] ≡ Ok []
unfolding decode_pairs
no_pairs i = refl

digit-of_hex : (d : ℕ) → d < 16 → digit_of (hex_digit d) ≡ d
digit-of_hex d small = by_digit (λ c. digit_of c ≡ d) d small
    (λ less.
    let e : (d + 48) - 48 ≡ d = omega arith in
    rw (le-leb 48 (d + 48) (omega arith), le-leb (d + 48) 57 (omega arith)) e)
    (λ more.
    let e : (d + 55) - 55 ≡ d = omega arith in
    rw (le-leb 48 (d + 55) (omega arith), lt-leb (d + 55) 57 (omega arith), le-leb 65 (d + 55) (omega arith), le-leb (d + 55) 70 (omega arith)) e)

pub digits-hex : (digits n : ℕ) → n < 16 ^ digits → digits_from 16 0 (hex digits n) ≡ Some n
digits-hex zero n small = let none : 0 ≡ n = omega arith in ap Some none
digits-hex (suc digits) n small =
    let whole : n / 16 * 16 + n % 16 ≡ n = omega arith in
    let prefix = digits-hex digits (n / 16) (omega arith) in
    digits-last 16 0 (n / 16) (n % 16) (hex_digit (n % 16)) (hex digits (n / 16)) prefix (digit-of_hex (n % 16) (omega arith)) (omega arith) ∙ ap Some whole

pub word-read : (n : ℕ) → n < 65536 → word_of (hex 4 n) ≡ Some n
word-read n small = ap (up_to 0xFFFF) (digits-hex 4 n small) ∙ rw (le-leb n 0xFFFF (omega arith)) refl

pub byte-read : (n : ℕ) → n < 256 → byte_of (hex 2 n) ≡ Some n
byte-read n small = ap (up_to 0xFF) (digits-hex 2 n small) ∙ rw (le-leb n 0xFF (omega arith)) refl

-- ---- bytes

pub pairs-read : (i : ℕ) (bytes : List ℕ) → IsBytes bytes → decode_pairs i (flat_map (hex 2) bytes) ≡ Ok bytes
pairs-read i [] h = no_pairs i
pairs-read i (b ∷ bytes) h =
    let less : b < 256 = h.0 in
    let whole : (b / 16 % 16) * 16 + b % 16 ≡ b = omega arith in
    let pair = pair-read (hex_digit (b / 16 % 16)) (hex_digit (b % 16)) (b / 16 % 16) (b % 16) i (digit_value (b / 16 % 16) (omega arith)) (digit_value (b % 16) (omega arith)) in
    decode_pairs-ok_pair i (hex_digit (b / 16 % 16)) (hex_digit (b % 16)) b (flat_map (hex 2) bytes) (pair ∙ ap Ok whole)
    ∙ ap (cons_byte b) (pairs-read (i + 2) bytes h.1)

pub two-long : (bytes : List ℕ) → length (flat_map (hex 2) bytes) ≡ 2 * length bytes
two-long [] = refl
two-long (b ∷ bytes) = let rest = two-long bytes in omega (arith, rest)
