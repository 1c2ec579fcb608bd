-- Words between spaces, and lines.
use Rattle.std.proofs.Common.{◌≡◌, ℕ, ◌+◌, ◌<◌, Bool, true, false, ◌&&◌, eqb, ltb, List, [], ◌∷◌, ◌++◌, length, take, drop, refl, ap, ◌∙◌, arith}
use Rattle.std.specs.List.{position_or_len, before_first, after_first}
use Rattle.std.proofs.lemmas.Bool.{ne_eqb, and_parts, ltb-true}
use Rattle.std.proofs.Math.Seq.{take-append_seam, drop-append-add}
use Rattle.kc_base.specs.TextLines.{text_lines}
use Rattle.kc_base.specs.Fields.{is_space}

-- ---- words: characters above the space

abbrev pub Word : List ℕ → Type 0
Word [] = Unit {0}
Word (c ∷ cs) = (32 < c) × Word cs

pub word-append : (xs ys : List ℕ) → Word xs → Word ys → Word (xs ++ ys)
word-append [] ys h k = k
word-append (c ∷ xs) ys h k = (h.0, word-append xs ys h.1 k)

-- where it is a word, by trying
abbrev pub is_word : List ℕ → Bool
is_word [] = true
is_word (c ∷ cs) = ltb 32 c && is_word cs

pub word-from : (w : List ℕ) → is_word w ≡ true → Word w
word-from [] h = tt
word-from (c ∷ w) h =
    let both = and_parts (ltb 32 c) (is_word w) h in
    (ltb-true 32 c both.0, word-from w both.1)

-- a word ends at the space behind it
word-end : (w rest : List ℕ) → Word w → position_or_len is_space (w ++ 32 ∷ rest) ≡ length w
word-end [] rest h = refl
word-end (c ∷ w) rest h =
    let other : eqb c 32 ≡ false = ne_eqb c 32 (λ e. let more : 32 < c = h.0 in omega arith) in
    rw (other, word-end w rest h.1) (omega arith)

pub word-before : (w rest : List ℕ) → Word w → before_first is_space (w ++ 32 ∷ rest) ≡ w
word-before w rest h = ap (λ n. take n (w ++ 32 ∷ rest)) (word-end w rest h) ∙ take-append_seam w (32 ∷ rest)

pub word-after : (w rest : List ℕ) → Word w → after_first is_space (w ++ 32 ∷ rest) ≡ rest
word-after w rest h = ap (λ n. drop (n + 1) (w ++ 32 ∷ rest)) (word-end w rest h) ∙ drop-append-add w (32 ∷ rest) 1

-- ---- lines: characters above the ends of lines

abbrev pub Plain : List ℕ → Type 0
Plain [] = Unit {0}
Plain (c ∷ cs) = (13 < c) × Plain cs

pub plain-word : (w : List ℕ) → Word w → Plain w
plain-word [] h = tt
plain-word (c ∷ w) h = (let more : 32 < c = h.0 in omega arith, plain-word w h.1)

pub plain-append : (xs ys : List ℕ) → Plain xs → Plain ys → Plain (xs ++ ys)
plain-append [] ys h k = k
plain-append (c ∷ xs) ys h k = (h.0, plain-append xs ys h.1 k)

-- a word, a space, and more
pub plain-more : (w rest : List ℕ) → Word w → Plain rest → Plain (w ++ 32 ∷ rest)
plain-more w rest h k = plain-append w (32 ∷ rest) (plain-word w h) (omega arith, k)

pub plain_line : (l rest : List ℕ) → Plain l → text_lines (l ++ 10 ∷ rest) ≡ l ∷ text_lines rest
unfolding text_lines
plain_line [] rest h = refl
plain_line (c ∷ l) rest h =
    let more : 13 < c = h.0 in
    rw (ne_eqb c 10 (λ e. omega arith), ne_eqb c 13 (λ e. omega arith), plain_line l rest h.1) refl

pub no_lines : text_lines [] ≡ []
unfolding text_lines
no_lines = refl
