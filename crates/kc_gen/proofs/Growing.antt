-- Texts that grow by a line.
use Rattle.std.proofs.Common.{◌≡◌, ℕ, ◌+◌, ◌*◌, ◌%◌, ◌<◌, ◌≤◌, true, false, cond, eqb, [], ◌++◌, length, decimal, codes, refl, length-append, add-one, arith}
use Rattle.std.proofs.lemmas.Fmt.{length-decimal-le}
use Rattle.kc_base.proofs.Pieces.{pieces-more}
use Rattle.kc_gen.specs.Randoms.{random}
use Rattle.kc_gen.specs.Sources.{word_line, word_lines}
use Rattle.kc_gen.specs.Stimuli.{time, level_text, edge_line, edge_lines}

pub word_lines-none : (number : ℕ) → word_lines number 0 ≡ []
unfolding word_lines
word_lines-none number = refl

pub word_lines-more : (number n : ℕ) → word_lines number (n + 1) ≡ word_lines number n ++ word_line (random number n)
unfolding word_lines
word_lines-more number n = pieces-more (λ k. word_line (random number k)) n

pub random-first : (number : ℕ) → random number 0 ≡ number
unfolding random
random-first number = refl

pub random-more : (number n : ℕ) → random number (n + 1) ≡ (25173 * random number n + 13849) % 65536
unfolding random
random-more number n = rw add-one refl

pub edge_lines-none : (number : ℕ) → edge_lines number 0 ≡ []
unfolding edge_lines
edge_lines-none number = refl

pub edge_lines-more : (number n : ℕ) → edge_lines number (n + 1) ≡ edge_lines number n ++ edge_line (time number n) n
unfolding edge_lines
edge_lines-more number n = pieces-more (λ k. edge_line (time number k) k) n

pub time-first : (number : ℕ) → time number 0 ≡ 100
unfolding time
time-first number = refl

pub time-more : (number n : ℕ) → time number (n + 1) ≡ time number n + 200 + random number n % 64
unfolding time
time-more number n = rw add-one refl

level_text-one : (k : ℕ) → length (level_text k) ≡ 1
level_text-one k = elim (eqb (k % 2) 0) as (λ b. length (cond b (codes "1") (codes "0")) ≡ 1) [ true ↦ refl | false ↦ refl ]

-- an edge within the first million states takes at most 15 characters
pub edge_line-short : (at k : ℕ) → at < 1000000 → length (edge_line at k) ≤ 15
edge_line-short at k early =
    let digits : length (decimal at) ≤ 6 = length-decimal-le 6 at (omega arith) early (omega arith) in
    simp length-append (omega (arith, level_text-one k))
