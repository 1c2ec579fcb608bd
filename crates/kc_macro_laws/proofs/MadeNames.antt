-- Which texts are names.
use Rattle.std.proofs.Common.{◌≡◌, ℕ, zero, suc, ◌+◌, ◌/◌, ◌%◌, ◌^◌, ◌<◌, ◌≤◌, Bool, true, false, ◌&&◌, ◌||◌, ◌==◌, not, cond, List, [], ◌∷◌, ◌++◌, length, refl, arith, length-append}
use Rattle.std.specs.Prelude.{nat_lt, nat_le, decimal, codes, unwrap_or}
use Rattle.std.specs.Fmt.{digits, digits_onto, digit_glyph}
use Rattle.std.specs.List.{list_all, list_any}
use Rattle.std.specs.Char.{to_ascii_uppercase, is_ascii_digit}
use Rattle.std.proofs.lemmas.Bool.{and_parts, and_from}
use Rattle.std.proofs.lemmas.Bool.Decides.{nat_tests}
use Rattle.std.proofs.lemmas.Fmt.{length-decimal-le_wide}
use Rattle.std.proofs.lemmas.List.{length-map}
use Rattle.kc_lex.specs.declared.token.TokenKind.TheVariants as kinds
use Rattle.kc_lex.specs.Chars.{is_word_char, upper}
use Rattle.kc_lex.specs.Words.{begins_name, is_name_text}
use Rattle.kc_lex.specs.Numbers.{number_value}
use Rattle.kc_lex.specs.Lexemes.{Lexeme, Blank, Word, Quoted, Mark, Comment, all_proper}
use Rattle.kc_base.specs.TextLines.{text_lines}
use Rattle.kc_lex.specs.Lines.{word_token, tokens_of, is_long_name, any_word, lines_from}
use Rattle.kc_obj_module.specs.Names.{is_name, is_name_char, is_digit}
use Rattle.kc_obj_module.specs.Names as obj
use Rattle.kc_macro_body.specs.Filling.{local_prefix, local_name}
use Rattle.kc_macro_laws.specs.Kept.{NamesPass}
use Rattle.kc_macro_laws.specs.MadeNames.{is_named, has_names, LinesHaveNames, ExpansionMakesNames}
use Rattle.kc_macro_laws.proofs.Reading.{LexemesAreProper, lexeme_rest, lines_pass}
use Rattle.kc_macro_laws.proofs.Tests.{all_join, all_map, ok_at}
use Rattle.kc_macro_laws.proofs.Expanding.{local_names_are_few, expansion_keeps_tests}

-- ---- names in upper case

upper_char : (c : ℕ) → is_word_char c ≡ true → is_name_char (to_ascii_uppercase c) ≡ true
upper_char c h = grind (arith, nat_tests)

upper_no_digit : (c : ℕ) → is_word_char c ≡ true → not (is_ascii_digit c) ≡ true → not (is_digit (to_ascii_uppercase c)) ≡ true
upper_no_digit c h k = grind (arith, nat_tests)

begins_upper : (cs : List ℕ) → list_all is_word_char cs ≡ true → begins_name cs ≡ true → obj.begins_name (upper cs) ≡ true
begins_upper [] h k = absurd (cc)
begins_upper (c ∷ cs) h k = upper_no_digit c (and_parts (is_word_char c) (list_all is_word_char cs) h).0 k

upper_name : (text : List ℕ) → is_name_text text ≡ true → is_name (upper text) ≡ true
upper_name text h =
    let first : ((begins_name text && list_all is_word_char text) ≡ true) × (nat_le (length text) 31 ≡ true) = and_parts (begins_name text && list_all is_word_char text) (nat_le (length text) 31) h in
    let parts : (begins_name text ≡ true) × (list_all is_word_char text ≡ true) = and_parts (begins_name text) (list_all is_word_char text) first.0 in
    let same : length (upper text) ≡ length text = simp length-map in
    let long : nat_le (length (upper text)) 31 ≡ true = rw same first.1 in
    and_from (obj.begins_name (upper text) && nat_le (length (upper text)) 31) (list_all is_name_char (upper text))
    (and_from (obj.begins_name (upper text)) (nat_le (length (upper text)) 31) (begins_upper text parts.1 parts.0) long)
    (all_map is_name_char is_word_char to_ascii_uppercase text upper_char parts.1)

-- ---- names that are given for LOCAL names

digit_char : (d : ℕ) → d < 10 → is_name_char (digit_glyph false d) ≡ true
digit_char d h = grind (arith, nat_tests, h)

onto_chars : (k n : ℕ) (acc : List ℕ) → list_all is_name_char acc ≡ true → list_all is_name_char (digits_onto k 10 false n acc) ≡ true
onto_chars zero n acc h = h
onto_chars (suc k) n acc h =
    let first : list_all is_name_char (digit_glyph false (n % 10) ∷ acc) ≡ true = and_from (is_name_char (digit_glyph false (n % 10))) (list_all is_name_char acc) (digit_char (n % 10) (omega arith)) h in
    elim (n / 10 == 0) as (λ b. list_all is_name_char (cond b (digit_glyph false (n % 10) ∷ acc) (digits_onto k 10 false (n / 10) (digit_glyph false (n % 10) ∷ acc))) ≡ true) [
      | true ↦ first
      | false ↦ onto_chars k (n / 10) (digit_glyph false (n % 10) ∷ acc) first
    ]

decimal_chars : (n : ℕ) → list_all is_name_char (decimal n) ≡ true
unfolding digits
decimal_chars n = onto_chars 64 n [] refl

prefix_chars : (n : ℕ) → list_all is_name_char (local_prefix n) ≡ true
prefix_chars n = by (nat_lt n 10) (nat_lt n 100) (nat_lt n 1000)
  where
    by : (a b c : Bool) → list_all is_name_char (cond a (codes "??000") (cond b (codes "??00") (cond c (codes "??0") (codes "??")))) ≡ true
    by true b c = refl
    by false true c = refl
    by false false true = refl
    by false false false = refl

pub local_chars : (n : ℕ) → list_all is_name_char (local_name n) ≡ true
local_chars n = all_join is_name_char (local_prefix n) (decimal n) (prefix_chars n) (decimal_chars n)

-- `??`, zeros, and a number of so many digits
prefix_name : (zeros : List ℕ) (n digits_most : ℕ) → list_all is_name_char zeros ≡ true → length (decimal n) ≤ digits_most → length zeros + digits_most ≤ 29 → is_name ((63 ∷ 63 ∷ zeros) ++ decimal n) ≡ true
prefix_name zeros n most h few fits =
    let count : length (zeros ++ decimal n) ≡ length zeros + length (decimal n) = length-append zeros (decimal n) in
    let long : nat_le (suc (suc (length (zeros ++ decimal n)))) 31 ≡ true = short (length (zeros ++ decimal n)) (omega (arith, count, few, fits)) in
    and_from (nat_le (suc (suc (length (zeros ++ decimal n)))) 31) (list_all is_name_char (zeros ++ decimal n)) long (all_join is_name_char zeros (decimal n) h (decimal_chars n))
  where
    short : (k : ℕ) → k ≤ 29 → nat_le (suc (suc k)) 31 ≡ true
    short k h = grind (arith, nat_tests)

local_is_name : (n : ℕ) → n < 10 ^ 29 → is_name (local_name n) ≡ true
local_is_name n few = by (nat_lt n 10) (nat_lt n 100) (nat_lt n 1000) refl refl refl
  where
    by : (a b c : Bool) → nat_lt n 10 ≡ a → nat_lt n 100 ≡ b → nat_lt n 1000 ≡ c → is_name (cond a (codes "??000") (cond b (codes "??00") (cond c (codes "??0") (codes "??"))) ++ decimal n) ≡ true
    by true b c e f g = prefix_name (48 ∷ 48 ∷ 48 ∷ []) n 1 refl (length-decimal-le_wide 1 n (omega arith) (grind (arith, nat_tests)) (grind (arith, nat_tests))) (omega arith)
    by false true c e f g = prefix_name (48 ∷ 48 ∷ []) n 2 refl (length-decimal-le_wide 2 n (omega arith) (grind (arith, nat_tests)) (grind (arith, nat_tests))) (omega arith)
    by false false true e f g = prefix_name (48 ∷ []) n 3 refl (length-decimal-le_wide 3 n (omega arith) (grind (arith, nat_tests)) (grind (arith, nat_tests))) (omega arith)
    by false false false e f g = prefix_name [] n 29 refl (length-decimal-le_wide 29 n (omega arith) few (omega arith)) (omega arith)

pub names_pass : (given : ℕ) → given < 10 ^ 29 → NamesPass is_named given
names_pass given few = record { of_joins = upper_name; of_locals = λ n less. local_is_name n (omega arith) }

pub expansion_makes_names : ExpansionMakesNames
expansion_makes_names lines out s at h = expansion_keeps_tests (λ n. true) is_named lines out s at (names_pass s.given (local_names_are_few lines out s at)) h

-- ---- the words of a text

-- a word that is no number and is not too long
word_named : (c : ℕ) (w : List ℕ) → list_all is_word_char (c ∷ w) ≡ true → is_long_name (c ∷ w) ≡ false → is_named (word_token (c ∷ w)) ≡ true
word_named c w h short = by (is_ascii_digit c) refl short
  where
    most : (n : ℕ) → nat_lt 31 n ≡ false → nat_le n 31 ≡ true
    most n e = grind (arith, nat_tests)

    by : (b : Bool) → is_ascii_digit c ≡ b → cond b false (nat_lt 31 (length (c ∷ w))) ≡ false
        → is_named (cond b (record { kind = kinds.Number; text = upper (c ∷ w); value = unwrap_or (number_value (upper (c ∷ w))) 0 }) (record { kind = kinds.Name; text = upper (c ∷ w); value = 0 })) ≡ true
    by true e k = refl
    by false e k =
        let begins : begins_name (c ∷ w) ≡ true = (λ i. not (e i)) in
        upper_name (c ∷ w) (and_from (begins_name (c ∷ w) && list_all is_word_char (c ∷ w)) (nat_le (length (c ∷ w)) 31) (and_from (begins_name (c ∷ w)) (list_all is_word_char (c ∷ w)) begins h) (most (length (c ∷ w)) k))

none_long : (x : Lexeme) (xs : List Lexeme) → list_any (any_word is_long_name) (x ∷ xs) ≡ false → (any_word is_long_name x ≡ false) × (list_any (any_word is_long_name) xs ≡ false)
none_long x xs h = by (any_word is_long_name x) (list_any (any_word is_long_name) xs) h
  where
    by : (a b : Bool) → (a || b) ≡ false → (a ≡ false) × (b ≡ false)
    by true b e = absurd (cc)
    by false b e = (refl, e)

tokens_named : (xs : List Lexeme) → all_proper xs ≡ true → list_any (any_word is_long_name) xs ≡ false → list_all is_named (tokens_of xs) ≡ true
tokens_named [] h k = refl
tokens_named (Blank c ∷ xs) h k = tokens_named xs (lexeme_rest (Blank c) xs h).1 (none_long (Blank c) xs k).1
tokens_named (Word [] ∷ xs) h k = absurd (let e : false ≡ true = (lexeme_rest (Word []) xs h).0 in cc e)
tokens_named (Word (c ∷ w) ∷ xs) h k =
    let parts = lexeme_rest (Word (c ∷ w)) xs h in
    let short = none_long (Word (c ∷ w)) xs k in
    and_from (is_named (word_token (c ∷ w))) (list_all is_named (tokens_of xs)) (word_named c w parts.0 short.0) (tokens_named xs parts.1 short.1)
tokens_named (Quoted cs ∷ xs) h k = tokens_named xs (lexeme_rest (Quoted cs) xs h).1 (none_long (Quoted cs) xs k).1
tokens_named (Mark c ∷ xs) h k = tokens_named xs (lexeme_rest (Mark c) xs h).1 (none_long (Mark c) xs k).1
tokens_named (Comment cs ∷ xs) h k = tokens_named xs (lexeme_rest (Comment cs) xs h).1 (none_long (Comment cs) xs k).1

pub lines_have_names : LexemesAreProper → LinesHaveNames
lines_have_names law text lines e = ok_at (list_all has_names) (lines_from 1 (text_lines text)) lines (lines_pass law (λ n. true) is_named tokens_named 1 (text_lines text) (λ k h. refl)) e
