-- Lines that are read one after the other.
use Rattle.std.proofs.Common.{◌≡◌, ℕ, suc, ◌+◌, ◌-◌, ◌<◌, ◌≤◌, ◌⊎◌, inl, inr, Option, Some, None, List, [], ◌∷◌, ◌++◌, length, take, Ok, Err, Result, refl, sym, ap, ◌∙◌, arith, length-append}
use Rattle.kc_base.specs.TextLines.{text_lines}
use Rattle.kc_debug_script.specs.Reading.{or_at, said}

-- ---- answers

pub same_ok : {A E : Type 0} (a b : A) (r : Result A E) → r ≡ Ok a → r ≡ Ok b → a ≡ b
same_ok a b r p q = cc

pub same_err : {A E : Type 0} (e f : E) (r : Result A E) → r ≡ Err e → r ≡ Err f → e ≡ f
same_err e f r p q = cc

pub not_both : {A E : Type 0} (a : A) (e : E) (r : Result A E) → r ≡ Ok a → r ≡ Err e → ⊥
not_both a e r p q = cc

pub cases : {A : Type 0} (o : Option A) → (o ≡ None) ⊎ ((a : A) × (o ≡ Some a))
cases None = inl refl
cases (Some a) = inr (a, refl)

-- ---- a line

pub said-nil : {A : Type 0} (says : List A → List ℕ → Option A) (before : List A) → said says before [] ≡ Ok before
unfolding said
said-nil says before = refl

pub said-some : {A : Type 0} (says : List A → List ℕ → Option A) (before : List A) (line : List ℕ) (lines : List (List ℕ)) (a : A) →
    says before line ≡ Some a → said says before (line ∷ lines) ≡ said says (before ++ a ∷ []) lines
unfolding said
said-some says before line lines a reported = ap (or_at (length before + 1) (λ b. said says (before ++ b ∷ []) lines)) reported

pub said-none : {A : Type 0} (says : List A → List ℕ → Option A) (before : List A) (line : List ℕ) (lines : List (List ℕ)) →
    says before line ≡ None → said says before (line ∷ lines) ≡ Err (length before + 1)
unfolding said
said-none says before line lines reported = ap (or_at (length before + 1) (λ b. said says (before ++ b ∷ []) lines)) reported

-- ---- the first line of a text

pub text-some : {A : Type 0} (says : List A → List ℕ → Option A) (before : List A) (text line rest : List ℕ) (a : A) →
    text_lines text ≡ line ∷ text_lines rest → says before line ≡ Some a → said says (before ++ a ∷ []) (text_lines rest) ≡ said says before (text_lines text)
text-some says before text line rest a split reported = sym (ap (said says before) split ∙ said-some says before line (text_lines rest) a reported)

pub text-none : {A : Type 0} (says : List A → List ℕ → Option A) (before : List A) (text line rest : List ℕ) →
    text_lines text ≡ line ∷ text_lines rest → says before line ≡ None → said says before (text_lines text) ≡ Err (length before + 1)
text-none says before text line rest split reported = ap (said says before) split ∙ said-none says before line (text_lines rest) reported

pub text-nil : {A : Type 0} (says : List A → List ℕ → Option A) (before : List A) (text : List ℕ) → length text ≡ 0 → said says before (text_lines text) ≡ Ok before
unfolding text_lines
text-nil says before [] none = said-nil says before
text-nil says before (c ∷ cs) none = absurd (omega arith)

-- ---- up to the first line that says nothing

length-push : {A : Type 0} (before : List A) (a : A) → length (before ++ a ∷ []) ≡ length before + 1
length-push before a = length-append before (a ∷ [])

-- reading stops there, and what comes before is read
pub said-cut : {A : Type 0} (says : List A → List ℕ → Option A) (before : List A) (lines : List (List ℕ)) (n : ℕ) → said says before lines ≡ Err n →
    (length before < n) × (n ≤ length before + length lines) × (said says before (take (n - length before) lines) ≡ Err n)
    × ((xs : List A) × (said says before (take (n - length before - 1) lines) ≡ Ok xs))
said-cut says before [] n h = absurd (not_both before n (said says before []) (said-nil says before) h)
said-cut says before (line ∷ lines) n h = elim (cases (says before line)) [
  | inl none ↦
      let here : length before + 1 ≡ n = same_err (length before + 1) n (said says before (line ∷ lines)) (said-none says before line lines none) h in
      let one : n - length before ≡ suc 0 = omega arith in
      let zero : n - length before - 1 ≡ 0 = omega arith in (
        omega arith,
        omega arith,
        ap (λ k. said says before (take k (line ∷ lines))) one ∙ said-none says before line [] none ∙ ap (λ e. Err e) here,
        (before, ap (λ k. said says before (take k (line ∷ lines))) zero ∙ said-nil says before),
      )
  | inr some ↦
      let longer : length (before ++ some.0 ∷ []) ≡ length before + 1 = length-push before some.0 in
      let next = said-cut says (before ++ some.0 ∷ []) lines n (sym (said-some says before line lines some.0 some.1) ∙ h) in
      let more : n - length before ≡ suc (n - length (before ++ some.0 ∷ [])) = omega (arith, next.0) in
      let less : n - length before - 1 ≡ suc (n - length (before ++ some.0 ∷ []) - 1) = omega (arith, next.0) in (
        omega (arith, next.0),
        omega (arith, next.1),
        ap (λ k. said says before (take k (line ∷ lines))) more ∙ said-some says before line (take (n - length (before ++ some.0 ∷ [])) lines) some.0 some.1 ∙ next.2,
        (next.3.0, ap (λ k. said says before (take k (line ∷ lines))) less ∙ said-some says before line (take (n - length (before ++ some.0 ∷ []) - 1) lines) some.0 some.1 ∙ next.3.1),
      )
]
