-- The tokens of a line pass a test where those of proper lexemes do that are no long names.
use Rattle.std.proofs.Common.{◌≡◌, ℕ, suc, ◌+◌, ◌<◌, Bool, true, false, ◌&&◌, not, cond, List, [], ◌∷◌, length, Option, Some, None, Result, Ok, Err, refl, arith}
use Rattle.std.specs.Prelude.{nat_lt}
use Rattle.std.specs.List.{list_all, list_any}
use Rattle.std.proofs.lemmas.Bool.{and_parts, and_from}
use Rattle.kc_base.specs.TextLines.{begins_with}
use Rattle.kc_lex.specs.declared.token.Token.{Token}
use Rattle.kc_lex.specs.Lexemes.{Lexeme, lexemes, is_proper, may_precede, all_proper}
use Rattle.kc_lex.specs.Lines.{tokens_of, is_long_name, is_bad_number, any_word, bounded, plain_line, is_text_to_comment, control_line, includes, line_tokens, Answer, and_lines, lines_from}
use Rattle.kc_macro_laws.specs.Kept.{line_passes}
use Rattle.kc_macro_laws.proofs.Tests.{HoldsOk, one_ok}

pub lexeme_rest : (x : Lexeme) (xs : List Lexeme) → all_proper (x ∷ xs) ≡ true → (is_proper x ≡ true) × (all_proper xs ≡ true)
unfolding all_proper
lexeme_rest x xs h =
    let first : (is_proper x ≡ true) × ((may_precede x xs && all_proper xs) ≡ true) = and_parts (is_proper x) (may_precede x xs && all_proper xs) h in
    (first.0, (and_parts (may_precede x xs) (all_proper xs) first.1).1)

-- the lexemes of a line are proper ones
abbrev pub LexemesAreProper : Type 0
LexemesAreProper = (line : List ℕ) (xs : List Lexeme) → lexemes line ≡ Some xs → all_proper xs ≡ true

abbrev pub TokensPass : (Token → Bool) → Type 0
TokensPass test = (xs : List Lexeme) → all_proper xs ≡ true → list_any (any_word is_long_name) xs ≡ false → list_all test (tokens_of xs) ≡ true

module _ (law : LexemesAreProper) (numbers : ℕ → Bool) (test : Token → Bool) (tokens : TokensPass test) where
  abbrev LineIs : Result (List Token) ℕ → Type 0
  LineIs r = HoldsOk (list_all test) r

  bounded_line : (line : List ℕ) (r : Result (List Token) ℕ) → LineIs r → LineIs (bounded line r)
  bounded_line line r h = one_ok (list_all test) (nat_lt 255 (length line)) (Err 3) r tt h

  plain_passes : (line : List ℕ) (o : Option (List Lexeme)) → ((xs : List Lexeme) → o ≡ Some xs → all_proper xs ≡ true) → LineIs (plain_line line o)
  plain_passes line None proper = tt
  plain_passes line (Some xs) proper = by (list_any (any_word is_long_name) xs) refl
    where
      by : (b : Bool) → list_any (any_word is_long_name) xs ≡ b → LineIs (cond b (Err 1) (bounded line (cond (list_any (any_word is_bad_number) xs) (Err 9) (Ok (tokens_of xs)))))
      by true e = tt
      by false e =
          bounded_line line (cond (list_any (any_word is_bad_number) xs) (Err 9) (Ok (tokens_of xs)))
          (one_ok (list_all test) (list_any (any_word is_bad_number) xs) (Err 9) (Ok (tokens_of xs)) tt (tokens xs (proper xs refl) e))

  control_passes : (line : List ℕ) → LineIs (control_line line)
  control_passes line = one_ok (list_all test) (not (is_text_to_comment false line)) (Err 1) (bounded line (Ok [])) tt (bounded_line line (Ok []) refl)

  tokens_pass : (line : List ℕ) → LineIs (line_tokens line)
  unfolding line_tokens
  tokens_pass line =
      one_ok (list_all test) (begins_with 36 line) (cond (includes line) (Err 1) (control_line line)) (plain_line line (lexemes line))
      (one_ok (list_all test) (includes line) (Err 1) (control_line line) tt (control_passes line))
      (plain_passes line (lexemes line) (law line))

  and_pass : (number : ℕ) (r : Result (List Token) ℕ) (rest : Answer) → numbers number ≡ true → LineIs r → HoldsOk (list_all (line_passes numbers test)) rest → HoldsOk (list_all (line_passes numbers test)) (and_lines number r rest)
  and_pass number (Ok ts) (Ok ls) n h k = and_from (numbers number && list_all test ts) (list_all (line_passes numbers test) ls) (and_from (numbers number) (list_all test ts) n h) k
  and_pass number (Ok ts) (Err f) n h k = tt
  and_pass number (Err code) rest n h k = tt

  -- where the numbers of all lines pass
  pub lines_pass : (number : ℕ) (ls : List (List ℕ)) → ((k : ℕ) → k < length ls → numbers (number + k) ≡ true) → HoldsOk (list_all (line_passes numbers test)) (lines_from number ls)
  unfolding lines_from
  lines_pass number [] each = refl
  lines_pass number (l ∷ ls) each =
      let here : numbers number ≡ true = (let q : number + 0 ≡ number = omega arith in rw q at (each 0 (omega arith))) in
      and_pass number (line_tokens l) (lines_from (number + 1) ls) here (tokens_pass l)
      (lines_pass (number + 1) ls (λ k h. let q : (number + 1) + k ≡ number + suc k = omega arith in rw q (each (suc k) (omega (arith, h)))))
