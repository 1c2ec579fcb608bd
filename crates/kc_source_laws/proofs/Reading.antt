-- The characters of the lines of a text are bytes.
use Rattle.std.proofs.Common.{◌≡◌, ℕ, suc, ◌+◌, ◌-◌, ◌<◌, ◌≤◌, Bool, true, false, ◌&&◌, ◌||◌, ◌==◌, cond, List, [], ◌∷◌, length, refl, arith}
use Rattle.std.specs.Prelude.{nat_lt, nat_le, unwrap_or}
use Rattle.std.specs.List.{list_all, list_any}
use Rattle.std.specs.Char.{to_ascii_uppercase}
use Rattle.std.proofs.lemmas.Bool.{and_parts, and_from}
use Rattle.std.proofs.lemmas.Bool.Decides.{nat_tests}
use Rattle.kc_base.specs.TextLines.{begins_with, with_first, text_lines}
use Rattle.kc_lex.specs.declared.token.TokenKind.TheVariants as kinds
use Rattle.kc_lex.specs.Chars.{is_text_char, is_word_char, is_sign, signs, upper}
use Rattle.kc_lex.specs.Numbers.{number_value}
use Rattle.kc_lex.specs.Lexemes.{Lexeme, Blank, Word, Quoted, Mark, Comment, all_proper}
use Rattle.kc_lex.specs.Lines.{is_number, word_token, tokens_of, lines_from}
use Rattle.kc_macro_laws.proofs.Reading.{LexemesAreProper, lexeme_rest, lines_pass}
use Rattle.kc_source_laws.specs.Lines.{are_bytes, has_bytes, is_good, is_line_of, LinesAreOfTheText}
use Rattle.kc_source_laws.proofs.Tests.{ok_at, all_map}

-- ---- characters

abbrev is_byte : ℕ → Bool
is_byte c = nat_lt c 256

pub upper_byte : (c : ℕ) → nat_lt c 256 ≡ true → nat_lt (to_ascii_uppercase c) 256 ≡ true
upper_byte c h = elim (nat_lt c 97) as (λ b. nat_lt (cond b c (cond (nat_lt c 123) (c - 32) c)) 256 ≡ true) [
  | true ↦ h
  | false ↦ elim (nat_lt c 123) as (λ b. nat_lt (cond b (c - 32) c) 256 ≡ true) [ true ↦ grind (arith, nat_tests, h) | false ↦ h ]
]

pub upper_bytes : (cs : List ℕ) → are_bytes cs ≡ true → are_bytes (upper cs) ≡ true
upper_bytes cs h = all_map is_byte is_byte to_ascii_uppercase cs upper_byte h

pub word_byte : (c : ℕ) → is_word_char c ≡ true → nat_lt c 256 ≡ true
word_byte c h = grind (arith, nat_tests)

text_byte : (c : ℕ) → is_text_char c ≡ true → nat_lt c 256 ≡ true
text_byte c h = grind (arith, nat_tests)

one_of_bytes : (c : ℕ) (ss : List ℕ) → list_any (λ s. c == s) ss ≡ true → are_bytes ss ≡ true → nat_lt c 256 ≡ true
one_of_bytes c [] h k = absurd (cc h)
one_of_bytes c (s ∷ ss) h k =
    let both : (nat_lt s 256 ≡ true) × (are_bytes ss ≡ true) = and_parts (nat_lt s 256) (are_bytes ss) k in
    by (c == s) refl h both.0 (λ g. one_of_bytes c ss g both.1)
  where
    by : (b : Bool) → (c == s) ≡ b → (b || list_any (λ s. c == s) ss) ≡ true → nat_lt s 256 ≡ true → (list_any (λ s. c == s) ss ≡ true → nat_lt c 256 ≡ true) → nat_lt c 256 ≡ true
    by true e g small later = let same : c ≡ s = grind (arith, nat_tests, e) in rw same small
    by false e g small later = later g

sign_byte : (c : ℕ) → is_sign c ≡ true → nat_lt c 256 ≡ true
sign_byte c h = one_of_bytes c signs h refl

pub every_byte : (p : ℕ → Bool) → ((c : ℕ) → p c ≡ true → nat_lt c 256 ≡ true) → (cs : List ℕ) → list_all p cs ≡ true → are_bytes cs ≡ true
every_byte p each [] h = refl
every_byte p each (c ∷ cs) h =
    let both : (p c ≡ true) × (list_all p cs ≡ true) = and_parts (p c) (list_all p cs) h in
    and_from (nat_lt c 256) (are_bytes cs) (each c both.0) (every_byte p each cs both.1)

-- ---- tokens

word_bytes : (w : List ℕ) → are_bytes w ≡ true → has_bytes (word_token w) ≡ true
word_bytes w h =
    elim (is_number w) as (λ b. has_bytes (cond b (record { kind = kinds.Number; text = upper w; value = unwrap_or (number_value (upper w)) 0 }) (record { kind = kinds.Name; text = upper w; value = 0 })) ≡ true) [
      | true ↦ upper_bytes w h
      | false ↦ upper_bytes w h
    ]

tokens_bytes : (xs : List Lexeme) → all_proper xs ≡ true → list_all has_bytes (tokens_of xs) ≡ true
tokens_bytes [] h = refl
tokens_bytes (Blank c ∷ xs) h = tokens_bytes xs (lexeme_rest (Blank c) xs h).1
tokens_bytes (Word [] ∷ xs) h = absurd (let e : false ≡ true = (lexeme_rest (Word []) xs h).0 in cc e)
tokens_bytes (Word (c ∷ w) ∷ xs) h =
    let parts = lexeme_rest (Word (c ∷ w)) xs h in
    and_from (has_bytes (word_token (c ∷ w))) (list_all has_bytes (tokens_of xs)) (word_bytes (c ∷ w) (every_byte is_word_char word_byte (c ∷ w) parts.0)) (tokens_bytes xs parts.1)
tokens_bytes (Quoted cs ∷ xs) h =
    let parts = lexeme_rest (Quoted cs) xs h in
    and_from (are_bytes cs) (list_all has_bytes (tokens_of xs)) (every_byte is_text_char text_byte cs parts.0) (tokens_bytes xs parts.1)
tokens_bytes (Mark c ∷ xs) h =
    let parts = lexeme_rest (Mark c) xs h in
    and_from (are_bytes (c ∷ [])) (list_all has_bytes (tokens_of xs)) (and_from (nat_lt c 256) true (sign_byte c parts.0) refl) (tokens_bytes xs parts.1)
tokens_bytes (Comment cs ∷ xs) h = tokens_bytes xs (lexeme_rest (Comment cs) xs h).1

-- ---- lines

module _ (law : LexemesAreProper) where
  first_length : (c : ℕ) (ls : List (List ℕ)) → length (with_first c ls) ≤ suc (length ls)
  first_length c [] = omega arith
  first_length c (l ∷ ls) = omega arith

  few_lines : (text : List ℕ) → length (text_lines text) ≤ length text
  unfolding text_lines
  few_lines [] = omega arith
  few_lines (c ∷ cs) =
      let rest : length (text_lines cs) ≤ length cs = few_lines cs in
      let more : length (with_first c (text_lines cs)) ≤ suc (length (text_lines cs)) = first_length c (text_lines cs) in
      elim (c == 10) as (λ b. length (cond b ([] ∷ text_lines cs) (cond ((c == 13) && begins_with 10 cs) (text_lines cs) (with_first c (text_lines cs)))) ≤ suc (length cs)) [
        | true ↦ omega (arith, rest)
        | false ↦ elim ((c == 13) && begins_with 10 cs) as (λ b. length (cond b (text_lines cs) (with_first c (text_lines cs))) ≤ suc (length cs)) [
          | true ↦ omega (arith, rest)
          | false ↦ omega (arith, rest, more)
        ]
      ]

  pub lines_are_of_the_text : LinesAreOfTheText
  lines_are_of_the_text text lines e =
      ok_at (list_all (is_good (is_line_of text))) (lines_from 1 (text_lines text)) lines
      (lines_pass law (is_line_of text) has_bytes (λ xs p short. tokens_bytes xs p) 1 (text_lines text) (λ k h. let few = few_lines text in numbered k (omega (arith, h, few)))) e
    where
      numbered : (k : ℕ) → k < length text → is_line_of text (1 + k) ≡ true
      numbered k h = and_from (nat_lt 0 (1 + k)) (nat_le (1 + k) (length text)) (grind (arith, nat_tests)) (grind (arith, nat_tests, h))
