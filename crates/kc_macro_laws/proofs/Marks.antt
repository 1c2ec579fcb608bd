-- Marks that are alike but for some of one kind.
use Rattle.std.proofs.Common.{◌≡◌, ℕ, ◌+◌, ◌≤◌, ◌==◌, Bool, true, false, ◌||◌, cond, List, ◌∷◌, Some, ◌⊎◌, inl, inr, refl, sym, ap, ◌∙◌, arith}
use Rattle.std.specs.Prelude.{count_by}
use Rattle.std.specs.List.{list_any}
use Rattle.std.proofs.lemmas.Bool.{ne_eqb}
use Rattle.std.proofs.lemmas.List.Sums.{sum_by-cons}
use Rattle.kc_macro_input.specs.declared.piece.Mark.{Mark}
use Rattle.kc_macro_input.specs.declared.piece.Mark.TheVariants.{Call, Turns, If}
use Rattle.kc_macro_input.specs.Pieces.{is_call, is_if, same_mark, innermost}

-- as many of a kind, or fewer where that is the kind of x
abbrev pub FewerOf : (Mark → Bool) → Mark → List Mark → List Mark → Type 0
FewerOf kind x xs ys = (count_by kind ys ≡ count_by kind xs) ⊎ ((kind x ≡ true) × (count_by kind ys ≤ count_by kind xs))

-- ys are the marks xs, some x left away
pub record Alike (x : Mark) (xs ys : List Mark) : Type 0 where
  pub inner : (innermost xs ≡ Some x → ⊥) → innermost ys ≡ innermost xs
  pub any : (m : Mark) → same_mark m x ≡ false → list_any (same_mark m) ys ≡ list_any (same_mark m) xs
  pub calls : FewerOf is_call x xs ys
  pub ifs : FewerOf is_if x xs ys

pub alike_same : (x : Mark) (xs : List Mark) → Alike x xs xs
alike_same x xs = record { inner = λ _. refl; any = λ m e. refl; calls = inl refl; ifs = inl refl }

inner_on : (x m : Mark) (xs ys : List Mark) → ((innermost xs ≡ Some x → ⊥) → innermost ys ≡ innermost xs) → (innermost (m ∷ xs) ≡ Some x → ⊥) → innermost (m ∷ ys) ≡ innermost (m ∷ xs)
inner_on x (Call n) xs ys same not_x = refl
inner_on x (Turns n) xs ys same not_x = refl
inner_on x If xs ys same not_x = same not_x

count_on : (kind : Mark → Bool) (m : Mark) (xs : List Mark) → count_by kind (m ∷ xs) ≡ cond (kind m) 1 0 + count_by kind xs
count_on kind m xs = sum_by-cons (λ x. cond (kind x) 1 0) m xs

fewer_on : (kind : Mark → Bool) (x m : Mark) (xs ys : List Mark) → FewerOf kind x xs ys → FewerOf kind x (m ∷ xs) (m ∷ ys)
fewer_on kind x m xs ys (inl e) = inl (count_on kind m ys ∙ (ap (λ n. cond (kind m) 1 0 + n) e ∙ sym (count_on kind m xs)))
fewer_on kind x m xs ys (inr h) = inr (h.0, omega (arith, h.1, count_on kind m ys, count_on kind m xs))

pub alike_on : (x m : Mark) (xs ys : List Mark) → Alike x xs ys → Alike x (m ∷ xs) (m ∷ ys)
alike_on x m xs ys h = record {
  inner = inner_on x m xs ys h.inner;
  any = λ k e. ap (λ b. same_mark k m || b) (h.any k e);
  calls = fewer_on is_call x m xs ys h.calls;
  ifs = fewer_on is_if x m xs ys h.ifs;
}

inner_less : (x : Mark) (xs : List Mark) → (innermost (x ∷ xs) ≡ Some x → ⊥) → innermost xs ≡ innermost (x ∷ xs)
inner_less (Call n) xs not_x = absurd (not_x refl)
inner_less (Turns n) xs not_x = absurd (not_x refl)
inner_less If xs not_x = refl

fewer_less : (kind : Mark → Bool) (x : Mark) (b : Bool) (xs : List Mark) → kind x ≡ b → FewerOf kind x (x ∷ xs) xs
fewer_less kind x true xs e = inr (e, omega (arith, count_on kind x xs))
fewer_less kind x false xs e = inl (sym (count_on kind x xs ∙ rw e (omega arith)))

pub alike_less : (x : Mark) (xs : List Mark) → Alike x (x ∷ xs) xs
alike_less x xs = record {
  inner = inner_less x xs;
  any = λ m e. rw e refl;
  calls = fewer_less is_call x (is_call x) xs refl;
  ifs = fewer_less is_if x (is_if x) xs refl;
}

-- ---- marks that are not the same

number_apart : (a b : ℕ) → (a ≡ b → ⊥) → (a == b) ≡ false
number_apart a b h = ne_eqb a b h

pub apart : (m x : Mark) → (m ≡ x → ⊥) → same_mark m x ≡ false
apart (Call a) (Call b) h = number_apart a b (λ e. h (ap (λ n. Call n) e))
apart (Call a) (Turns b) h = refl
apart (Call a) If h = refl
apart (Turns a) (Call b) h = refl
apart (Turns a) (Turns b) h = number_apart a b (λ e. h (ap (λ n. Turns n) e))
apart (Turns a) If h = refl
apart If (Call b) h = refl
apart If (Turns b) h = refl
apart If If h = absurd (h refl)
