-- The words of a text, by the first of them.
use Rattle.std.proofs.Common.{◌≡◌, ℕ, suc, ◌<◌, ◌≤◌, Bool, true, false, cond, not, eqb, List, [], ◌∷◌, length, take, drop, get_or, refl, ap, ◌∙◌, inl, inr, arith}
use Rattle.std.specs.List.{take_while}
use Rattle.std.proofs.lemmas.Bool.{cases_Bool, or_parts, or_from}
use Rattle.std.proofs.lemmas.List.Sums.{take_while-cons}
use Rattle.kc_base.specs.TextLines.{with_first}
use Rattle.kc_rules.specs.Words.{is_blank, is_edge, joined_to, words_in}

-- how many characters at the beginning pass
abbrev pub prefix_len : (ℕ → Bool) → List ℕ → ℕ
prefix_len p [] = 0
prefix_len p (c ∷ cs) = cond (p c) (suc (prefix_len p cs)) 0

pub length-take_while : (p : ℕ → Bool) (s : List ℕ) → length (take_while p s) ≡ prefix_len p s
length-take_while p [] = refl
length-take_while p (c ∷ cs) = ap length (take_while-cons p c cs) ∙ elim (p c) as (λ b. length (cond b (c ∷ take_while p cs) []) ≡ cond b (suc (prefix_len p cs)) 0) [
  | true ↦ ap (λ n. suc n) (length-take_while p cs)
  | false ↦ refl
]

pub prefix_len-within : (p : ℕ → Bool) (s : List ℕ) → prefix_len p s ≤ length s
prefix_len-within p [] = omega arith
prefix_len-within p (c ∷ cs) = elim (p c) as (λ b. cond b (suc (prefix_len p cs)) 0 ≤ suc (length cs)) [
  | true ↦ let within : prefix_len p cs ≤ length cs = prefix_len-within p cs in omega arith
  | false ↦ omega arith
]

-- ---- blanks

pub words_behind_blanks : (s : List ℕ) → words_in (drop (prefix_len is_blank s) s) ≡ words_in s
unfolding words_in
words_behind_blanks [] = refl
words_behind_blanks (c ∷ cs) = elim (cases_Bool (is_blank c)) [
  | inl blank ↦ rw blank (words_behind_blanks cs)
  | inr other ↦ ap (λ n. words_in (drop n (c ∷ cs))) (none c cs other)
]
  where
    none : (c : ℕ) (cs : List ℕ) → is_blank c ≡ false → prefix_len is_blank (c ∷ cs) ≡ 0
    none c cs other = rw other refl

pub blank_ahead : (s : List ℕ) → 0 < length (drop (prefix_len is_blank s) s) → is_blank (get_or (drop (prefix_len is_blank s) s) 0 0) ≡ false
blank_ahead [] some = absurd (omega arith)
blank_ahead (c ∷ cs) some = elim (cases_Bool (is_blank c)) [
  | inl blank ↦ rw blank (blank_ahead cs (rw blank at some))
  | inr other ↦ ap (λ n. is_blank (get_or (drop n (c ∷ cs)) 0 0)) (none c cs other) ∙ other
]
  where
    none : (c : ℕ) (cs : List ℕ) → is_blank c ≡ false → prefix_len is_blank (c ∷ cs) ≡ 0
    none c cs other = rw other refl

-- ---- a word

abbrev pub in_word : ℕ → Bool
in_word c = not (is_edge c)

step_word : (d : ℕ) (ds : List ℕ) → is_edge d ≡ false → words_in (d ∷ ds) ≡ joined_to d ds (words_in ds)
unfolding words_in
step_word d ds word = let parts = or_parts (is_blank d) (eqb d 44) word in rw (parts.0, parts.1) refl

plain_word : (c : ℕ) (cs : List ℕ) → joined_to c cs (words_in cs) ≡ (c ∷ take (prefix_len in_word cs) cs) ∷ words_in (drop (prefix_len in_word cs) cs)
unfolding words_in
plain_word c [] = refl
plain_word c (d ∷ ds) = elim (cases_Bool (is_edge d)) [
  | inl edge ↦ rw edge refl
  | inr word ↦ rw word (ap (λ ws. with_first c ws) (step_word d ds word ∙ plain_word d ds))
]

-- a comma
pub words-comma : (s : List ℕ) → 0 < length s → is_blank (get_or s 0 0) ≡ false → eqb (get_or s 0 0) 44 ≡ true → words_in s ≡ take 1 s ∷ words_in (drop 1 s)
unfolding words_in
words-comma [] some ahead comma = absurd (omega arith)
words-comma (c ∷ cs) some ahead comma = rw (ahead, comma) refl

-- any other word
pub words-first : (s : List ℕ) → 0 < length s → is_blank (get_or s 0 0) ≡ false → eqb (get_or s 0 0) 44 ≡ false →
    words_in s ≡ take (prefix_len in_word s) s ∷ words_in (drop (prefix_len in_word s) s)
unfolding words_in
words-first [] some ahead other = absurd (omega arith)
words-first (c ∷ cs) some ahead other =
    let plain : is_edge c ≡ false = or_from (is_blank c) (eqb c 44) ahead other in
    let len : prefix_len in_word (c ∷ cs) ≡ suc (prefix_len in_word cs) = rw plain refl in
    rw len (rw (ahead, other) (plain_word c cs))

pub prefix_len-some : (s : List ℕ) → 0 < length s → is_blank (get_or s 0 0) ≡ false → eqb (get_or s 0 0) 44 ≡ false → 0 < prefix_len in_word s
prefix_len-some [] some ahead other = absurd (omega arith)
prefix_len-some (c ∷ cs) some ahead other =
    let plain : is_edge c ≡ false = or_from (is_blank c) (eqb c 44) ahead other in
    let len : prefix_len in_word (c ∷ cs) ≡ suc (prefix_len in_word cs) = rw plain refl in
    omega arith

pub words-none : (s : List ℕ) → length s ≡ 0 → words_in s ≡ []
unfolding words_in
words-none [] none = refl
words-none (c ∷ cs) none = absurd (omega arith)
