-- The lines of a source with their tokens, or the first fault: of the first line that has one, the least code.
use Rattle.std.specs.Prelude.{◌≡◌, ℕ, ◌+◌, Bool, true, false, not, ◌&&◌, ◌==◌, nat_lt, if◌then◌else◌, List, [], ◌∷◌, length, Option, Some, None, Result, Ok, Err, is_some, unwrap_or, map, codes}
use Rattle.std.specs.List.{list_any}
use Rattle.std.specs.Char.{is_ascii_digit, to_ascii_lowercase}
use Rattle.std.specs.Str.{bytes_eq}
use Rattle.std.specs.Global.{Vec}
use Rattle.kc_base.specs.TextLines.{begins_with, text_lines}
use Rattle.kc_lex.specs.declared.fault.SourceFault.{SourceFault}
use Rattle.kc_lex.specs.declared.fault.SourceFault.TheVariants as faults
use Rattle.kc_lex.specs.declared.token.TokenKind.TheVariants as kinds
use Rattle.kc_lex.specs.declared.token.Token.{Token}
use Rattle.kc_lex.specs.declared.token.Line.{Line}
use Rattle.kc_lex.specs.Chars.{is_text_char, word_of, upper}
use Rattle.kc_lex.specs.Numbers.{number_value}
use Rattle.kc_lex.specs.Lexemes.{Lexeme, Blank, Word, Quoted, Mark, Comment, lexemes}
use Rattle.kc_lex.specs.Codes.{no_statement, long_line, bad_number}

-- ---- the tokens of a line

abbrev pub is_number : List ℕ → Bool
is_number [] = false
is_number (c ∷ cs) = is_ascii_digit c

abbrev pub word_token : List ℕ → Token
word_token w =
    if is_number w then record { kind = kinds.Number; text = upper w; value = unwrap_or (number_value (upper w)) 0 }
    else record { kind = kinds.Name; text = upper w; value = 0 }

abbrev pub tokens_of : List Lexeme → List Token
tokens_of [] = []
tokens_of (Blank c ∷ xs) = tokens_of xs
tokens_of (Word w ∷ xs) = word_token w ∷ tokens_of xs
tokens_of (Quoted cs ∷ xs) = record { kind = kinds.Chars; text = cs; value = 0 } ∷ tokens_of xs
tokens_of (Mark c ∷ xs) = record { kind = kinds.Sign; text = c ∷ []; value = 0 } ∷ tokens_of xs
tokens_of (Comment cs ∷ xs) = tokens_of xs

-- a name of more than 31 characters
abbrev pub is_long_name : List ℕ → Bool
is_long_name w = if is_number w then false else nat_lt 31 (length w)

-- a number that is badly written or too large
abbrev pub is_bad_number : List ℕ → Bool
is_bad_number w = if is_number w then not (is_some (number_value (upper w))) else false

abbrev pub any_word : (List ℕ → Bool) → Lexeme → Bool
any_word p (Word w) = p w
any_word p (Blank c) = false
any_word p (Quoted cs) = false
any_word p (Mark c) = false
any_word p (Comment cs) = false

-- ---- a line, or the least code of its faults

abbrev pub bounded : List ℕ → Result (List Token) ℕ → Result (List Token) ℕ
bounded line read = if nat_lt 255 (length line) then Err long_line else read

abbrev pub plain_line : List ℕ → Option (List Lexeme) → Result (List Token) ℕ
plain_line line None = Err no_statement
plain_line line (Some xs) =
    if list_any (any_word is_long_name) xs then Err no_statement
    else bounded line (if list_any (any_word is_bad_number) xs then Err bad_number else Ok (tokens_of xs))

-- a `;` in quotes begins no comment
abbrev pub comment_begins : Bool → ℕ → Bool
comment_begins quoted c = (c == 59) && not quoted

abbrev pub quoted_after : Bool → ℕ → Bool
quoted_after quoted c = if c == 39 then not quoted else quoted

-- whether there is only text before the comment
unfoldable pub is_text_to_comment : Bool → List ℕ → Bool
is_text_to_comment quoted [] = true
is_text_to_comment quoted (c ∷ cs) = if comment_begins quoted c then true else is_text_char c && is_text_to_comment (quoted_after quoted c) cs

-- a line with `$` first has no effect, but `$INCLUDE` is a fault
abbrev pub control_line : List ℕ → Result (List Token) ℕ
control_line line = if not (is_text_to_comment false line) then Err no_statement else bounded line (Ok [])

abbrev pub includes : List ℕ → Bool
includes [] = false
includes (c ∷ cs) = bytes_eq (map to_ascii_lowercase (word_of cs)) (codes "include")

unfoldable pub line_tokens : List ℕ → Result (List Token) ℕ
line_tokens line =
    if begins_with 36 line then (if includes line then Err no_statement else control_line line)
    else plain_line line (lexemes line)

-- ---- all lines

abbrev pub Answer : Type 0
Answer = Result (List Line) (ℕ × ℕ)

abbrev pub and_lines : ℕ → Result (List Token) ℕ → Answer → Answer
and_lines number (Ok tokens) (Ok rest) = Ok (record { number = number; tokens = tokens } ∷ rest)
and_lines number (Ok tokens) (Err f) = Err f
and_lines number (Err code) rest = Err (number, code)

unfoldable pub lines_from : ℕ → List (List ℕ) → Answer
lines_from number [] = Ok []
lines_from number (l ∷ ls) = and_lines number (line_tokens l) (lines_from (number + 1) ls)

abbrev pub lines_of : List ℕ → Answer
lines_of text = lines_from 1 (text_lines text)

-- what a call answers
abbrev pub IsLines : Result (Vec Line) SourceFault → Answer → Type 0
IsLines (Ok lines) answer = answer ≡ Ok lines.items
IsLines (Err (faults.At line code)) answer = answer ≡ Err (line, code)
IsLines (Err faults.NoMemory) answer = Unit {0}

-- what a call answers for one line
abbrev pub IsLineAt : ℕ → Result Line SourceFault → Result (List Token) ℕ → Type 0
IsLineAt number (Ok line) read = (line.number ≡ number) × (read ≡ Ok line.tokens)
IsLineAt number (Err (faults.At line code)) read = (line ≡ number) × (read ≡ Err code)
IsLineAt number (Err faults.NoMemory) read = Unit {0}
