-- The words of a text, by the first of them.
use Rattle.std.proofs.Common.{◌≡◌, ℕ, ◌<◌, Bool, true, false, cond, not, eqb, List, [], ◌∷◌, length, take, drop, get_or, refl, sym, ap, subst, ◌∙◌, inl, inr, arith}
use Rattle.std.specs.Prelude.{◌↔◌, IsTrue}
use Rattle.std.specs.List.{take_while}
use Rattle.std.proofs.lemmas.Bool.{cases_Bool, eqb-true}
use Rattle.std.proofs.lemmas.List.Sums.{take_while-cons}
use Rattle.kc_base.specs.TextLines.{with_first}
use Rattle.kc_addresses.specs.Words.{is_blank, without_blanks, first_word, behind_word, joined_to, words_in, words_with}

abbrev pub in_word : ℕ → Bool
in_word c = not (is_blank c)

-- the characters from the front on that pass
one-true : (p : ℕ → Bool) (c : ℕ) (cs : List ℕ) → p c ≡ true → take_while p (c ∷ cs) ≡ c ∷ take_while p cs
one-true p c cs is = take_while-cons p c cs ∙ ap (λ b. cond b (c ∷ take_while p cs) []) is

one-false : (p : ℕ → Bool) (c : ℕ) (cs : List ℕ) → p c ≡ false → take_while p (c ∷ cs) ≡ []
one-false p c cs is = take_while-cons p c cs ∙ ap (λ b. cond b (c ∷ take_while p cs) []) is

pub take-take_while : (p : ℕ → Bool) (s : List ℕ) → take (length (take_while p s)) s ≡ take_while p s
take-take_while p [] = refl
take-take_while p (c ∷ cs) = elim (cases_Bool (p c)) [
  | inl is ↦
      let e = one-true p c cs is in
      ap (λ w. take (length w) (c ∷ cs)) e ∙ ap (λ w. c ∷ w) (take-take_while p cs) ∙ sym e
  | inr not ↦
      let e = one-false p c cs not in
      ap (λ w. take (length w) (c ∷ cs)) e ∙ sym e
]

-- ---- blanks

blank_first : (c : ℕ) (cs : List ℕ) → is_blank c ≡ true → words_in (c ∷ cs) ≡ words_in cs
unfolding words_in
blank_first c cs is = ap (λ b. cond b (words_in cs) (joined_to c cs (words_in cs))) is

word_first : (c : ℕ) (cs : List ℕ) → is_blank c ≡ false → words_in (c ∷ cs) ≡ joined_to c cs (words_in cs)
unfolding words_in
word_first c cs is = ap (λ b. cond b (words_in cs) (joined_to c cs (words_in cs))) is

words_behind_blanks : (s : List ℕ) → words_in (without_blanks s) ≡ words_in s
words_behind_blanks [] = refl
words_behind_blanks (c ∷ cs) = elim (cases_Bool (is_blank c)) [
  | inl is ↦ ap (λ w. words_in (drop (length w) (c ∷ cs))) (one-true is_blank c cs is) ∙ words_behind_blanks cs ∙ sym (blank_first c cs is)
  | inr not ↦ ap (λ w. words_in (drop (length w) (c ∷ cs))) (one-false is_blank c cs not)
]

blank_ahead : (s : List ℕ) → 0 < length (without_blanks s) → is_blank (get_or (without_blanks s) 0 0) ≡ false
blank_ahead [] some = absurd (omega arith)
blank_ahead (c ∷ cs) some = elim (cases_Bool (is_blank c)) [
  | inl is ↦
      let e = ap (λ w. drop (length w) (c ∷ cs)) (one-true is_blank c cs is) in
      ap (λ t. is_blank (get_or t 0 0)) e ∙ blank_ahead cs (subst (λ t. 0 < length t) e some)
  | inr not ↦ ap (λ w. is_blank (get_or (drop (length w) (c ∷ cs)) 0 0)) (one-false is_blank c cs not) ∙ not
]

-- ---- a word

plain_word : (c : ℕ) (cs : List ℕ) → joined_to c cs (words_in cs) ≡ (c ∷ take_while in_word cs) ∷ words_in (drop (length (take_while in_word cs)) cs)
unfolding words_in
plain_word c [] = refl
plain_word c (d ∷ ds) = elim (cases_Bool (is_blank d)) [
  | inl is ↦
      let e : take_while in_word (d ∷ ds) ≡ [] = one-false in_word d ds (ap not is) in
      ap (λ b. cond b ((c ∷ []) ∷ words_in (d ∷ ds)) (with_first c (words_in (d ∷ ds)))) is ∙ ap (λ w. (c ∷ w) ∷ words_in (drop (length w) (d ∷ ds))) (sym e)
  | inr other ↦
      let e : take_while in_word (d ∷ ds) ≡ d ∷ take_while in_word ds = one-true in_word d ds (ap not other) in
      ap (λ b. cond b ((c ∷ []) ∷ words_in (d ∷ ds)) (with_first c (words_in (d ∷ ds)))) other
      ∙ ap (with_first c) (word_first d ds other ∙ plain_word d ds)
      ∙ ap (λ w. (c ∷ w) ∷ words_in (drop (length w) (d ∷ ds))) (sym e)
]

word_ahead : (t : List ℕ) → (0 < length t → is_blank (get_or t 0 0) ≡ false) →
    words_in t ≡ words_with (take_while in_word t) (drop (length (take_while in_word t)) t)
unfolding words_in
word_ahead [] ahead = refl
word_ahead (c ∷ cs) ahead =
    let other : is_blank c ≡ false = ahead (omega arith) in
    let e : take_while in_word (c ∷ cs) ≡ c ∷ take_while in_word cs = one-true in_word c cs (ap not other) in
    word_first c cs other ∙ plain_word c cs ∙ ap (λ w. words_with w (drop (length w) (c ∷ cs))) (sym e)

words-cut : (s : List ℕ) → words_in s ≡ words_with (first_word s) (behind_word s)
words-cut s = sym (words_behind_blanks s) ∙ word_ahead (without_blanks s) (blank_ahead s)

-- ---- what cutting gives

pub cut_word : (s t w : List ℕ) (n : ℕ) → t ≡ without_blanks s → n ≡ length (take_while in_word t) → w ≡ take n t → w ≡ first_word s
cut_word s t w n at len is = is ∙ ap (λ k. take k t) len ∙ take-take_while in_word t ∙ ap (take_while in_word) at

pub cut_rest : (s t r : List ℕ) (n : ℕ) → t ≡ without_blanks s → n ≡ length (take_while in_word t) → r ≡ drop n t → r ≡ behind_word s
cut_rest s t r n at len is = is ∙ ap (λ k. drop k t) len ∙ ap (λ u. drop (length (take_while in_word u)) u) at

pub cut_words : (s w r : List ℕ) → w ≡ first_word s → r ≡ behind_word s → words_in s ≡ words_with w r
cut_words s w r word rest = words-cut s ∙ ap (λ v. words_with v (behind_word s)) (sym word) ∙ ap (words_with w) (sym rest)

-- ---- a word or none

pub words_with_some : (w r : List ℕ) → 0 < length w → words_with w r ≡ w ∷ words_in r
words_with_some [] r some = absurd (omega arith)
words_with_some (c ∷ cs) r some = refl

pub words_with_none : (w r : List ℕ) → length w ≡ 0 → words_with w r ≡ []
words_with_none [] r none = refl
words_with_none (c ∷ cs) r none = absurd (omega arith)

pub words_with_empty : (w r : List ℕ) → words_with w r ≡ [] → length w ≡ 0
words_with_empty [] r none = refl
words_with_empty (c ∷ cs) r none = absurd cc

pub over : (w r : List ℕ) (all : List (List ℕ)) (b : Bool) → all ≡ words_with w r → b ≡ eqb (length w) 0 → IsTrue b ↔ (all ≡ [])
over w r all b words test = (
  λ t. words ∙ words_with_none w r (eqb-true (length w) 0 (sym test ∙ t)),
  λ none. test ∙ ap (λ n. eqb n 0) (words_with_empty w r (sym words ∙ none)),
)
