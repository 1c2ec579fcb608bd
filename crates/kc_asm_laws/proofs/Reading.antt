-- The lines of a text have its numbers, and so has the first of their faults.
use Rattle.std.proofs.Common.{◌≡◌, ℕ, suc, ◌+◌, ◌<◌, Bool, true, List, [], ◌∷◌, length, Result, Ok, Err, refl, ap, arith}
use Rattle.std.specs.List.{list_all}
use Rattle.std.proofs.lemmas.Bool.{and_from}
use Rattle.kc_lex.specs.declared.token.Token.{Token}
use Rattle.kc_lex.specs.declared.token.Line.{Line}
use Rattle.kc_lex.specs.Lines.{Answer, and_lines, line_tokens, lines_from}

-- a line whose number passes a test
abbrev pub is_at : (ℕ → Bool) → Line → Bool
is_at numbers l = numbers l.number

abbrev pub ReadAt : (ℕ → Bool) → ℕ → Answer → Type 0
ReadAt numbers count (Ok ls) = (list_all (is_at numbers) ls ≡ true) × (length ls ≡ count)
ReadAt numbers count (Err f) = numbers f.0 ≡ true

and_at : (numbers : ℕ → Bool) (number count : ℕ) (r : Result (List Token) ℕ) (rest : Answer) → numbers number ≡ true → ReadAt numbers count rest
    → ReadAt numbers (suc count) (and_lines number r rest)
and_at numbers number count (Ok ts) (Ok ls) n h = (and_from (numbers number) (list_all (is_at numbers) ls) n h.0, ap suc h.1)
and_at numbers number count (Ok ts) (Err f) n h = h
and_at numbers number count (Err code) rest n h = n

pub read_at : (numbers : ℕ → Bool) (number : ℕ) (ls : List (List ℕ)) → ((k : ℕ) → k < length ls → numbers (number + k) ≡ true)
    → ReadAt numbers (length ls) (lines_from number ls)
unfolding lines_from
read_at numbers number [] each = (refl, refl)
read_at numbers number (l ∷ ls) each =
    let here : numbers number ≡ true = (let q : number + 0 ≡ number = omega arith in rw q at (each 0 (omega arith))) in
    and_at numbers number (length ls) (line_tokens l) (lines_from (number + 1) ls) here
    (read_at numbers (number + 1) ls (λ k h. let q : (number + 1) + k ≡ number + suc k = omega arith in rw q (each (suc k) (omega (arith, h)))))
