-- How many lines and statements there are.
use Rattle.std.proofs.Common.{◌≡◌, ℕ, suc, ◌+◌, ◌<◌, ◌≤◌, Bool, true, false, eqb, ◌&&◌, if◌then◌else◌, List, [], ◌∷◌, length, map, Result, Ok, Err, refl, subst, arith}
use Rattle.kc_base.specs.TextLines.{text_lines, with_first, begins_with}
use Rattle.kc_lex.specs.declared.token.Token.{Token}
use Rattle.kc_lex.specs.declared.token.Line.{Line}
use Rattle.kc_lex.specs.Lines.{Answer, and_lines, line_tokens, lines_from, lines_of}
use Rattle.kc_macro.specs.Expansion.{AreNumbered}
use Rattle.kc_source_statement.specs.declared.statement.Stmt.{Stmt}
use Rattle.kc_source_statement.specs.Operands.{is_nil}
use Rattle.kc_source.specs.Faults.{said, all_said, stmt_said, AreStatements}

first_count : (c : ℕ) (ls : List (List ℕ)) → length (with_first c ls) ≤ length ls + 1
first_count c [] = omega arith
first_count c (l ∷ ls) = omega arith

text_count : (t : List ℕ) → length (text_lines t) ≤ length t
unfolding text_lines
text_count [] = omega arith
text_count (c ∷ cs) = by (eqb c 10) (eqb c 13 && begins_with 10 cs) (text_count cs)
  where
    by : (a b : Bool) → length (text_lines cs) ≤ length cs
        → length (if a then [] ∷ text_lines cs else (if b then text_lines cs else with_first c (text_lines cs))) ≤ suc (length cs)
    by true b h = omega (arith, h)
    by false true h = omega (arith, h)
    by false false h = omega (arith, h, first_count c (text_lines cs))

abbrev IsCounted : ℕ → Answer → Type 0
IsCounted n (Ok out) = length out ≤ n
IsCounted n (Err f) = Unit {0}

counted : (number : ℕ) (ls : List (List ℕ)) → IsCounted (length ls) (lines_from number ls)
unfolding lines_from
counted number [] = omega arith
counted number (l ∷ ls) = step (line_tokens l) (lines_from (number + 1) ls) (counted (number + 1) ls)
  where
    step : (t : Result (List Token) ℕ) (a : Answer) → IsCounted (length ls) a → IsCounted (suc (length ls)) (and_lines number t a)
    step (Ok tokens) (Ok rest) h = omega (arith, h)
    step (Ok tokens) (Err f) h = tt
    step (Err code) rest h = tt

pub line_count : (t : List ℕ) (ls : List Line) → lines_of t ≡ Ok ls → length ls ≤ length t
line_count t ls e =
    let of_lines : length ls ≤ length (text_lines t) = subst (λ (a : Answer). IsCounted (length (text_lines t)) a) e (counted 1 (text_lines t)) in
    omega (arith, of_lines, text_count t)

-- 32 bits number the lines of a source that can be read
pub lines_numbered : (t : List ℕ) (ls : List Line) → length t ≤ 1048576 → lines_of t ≡ Ok ls → AreNumbered ls
lines_numbered t ls few e =
    let short : length ls < 4294967295 = omega (arith, few, line_count t ls e) in
    short

said_count : (ls : List Line) → length (all_said ls) ≤ length ls
unfolding all_said
said_count [] = omega arith
said_count (l ∷ ls) = by (is_nil l.tokens) (said_count ls)
  where
    by : (a : Bool) → length (all_said ls) ≤ length ls → length (if a then all_said ls else said l ∷ all_said ls) ≤ suc (length ls)
    by true h = omega (arith, h)
    by false h = omega (arith, h)

map_count : (ss : List Stmt) → length (map stmt_said ss) ≡ length ss
map_count [] = refl
map_count (s ∷ ss) = omega (arith, map_count ss)

pub stmt_count : (ss : List Stmt) (ls : List Line) → AreStatements ss ls → length ss ≤ length ls
stmt_count ss ls a =
    let same : length (map stmt_said ss) ≡ length (all_said ls) = (λ i. length (a.said_by i)) in
    omega (arith, same, map_count ss, said_count ls)
