-- A fork of a layout by its two sides.
use Rattle.std.proofs.Common.{◌≡◌, ℕ, Bool, true, false, ◌+◌, ◌-◌, ◌≤◌, ◌&&◌, ◌||◌, List, ◌++◌, length, refl, ap, sym, subst, ◌∙◌, arith}
use Rattle.std.proofs.lemmas.List.{length-append}
use Rattle.std.specs.Prelude.{not}
use Rattle.kc_branch.specs.declared.piece.Piece.{Piece}
use Rattle.kc_branch.specs.declared.piece.Form.{Form}
use Rattle.kc_branch.specs.declared.stretch.Stretch.{Stretch}
use Rattle.kc_branch.specs.declared.layout.Layout.{Layout}
use Rattle.kc_branch.specs.declared.layout.Layout.TheVariants.{Leaf, Fork'}
use Rattle.kc_branch.specs.declared.relaxation.Raises.{Raises}
use Rattle.kc_branch.specs.declared.relaxation.Raises.TheVariants.{Keep, Raise, Both'}
use Rattle.kc_branch.specs.Layouts.{any_in, joined, Covers, IsShort, IsKnown, IsLaid, IsSpanned, items, items_by, is_keep, is_quiet, only_moves, changed, known}
use Rattle.kc_branch.proofs.Standing.{known-joined, of_laid, changed_length}
use Rattle.kc_branch.proofs.Spanning.{any_in-append, covers-append, covers-wider, none_in, none_past, none_to_zero}

pub not_changed : (left right : Layout) (s : Stretch) (i j : ℕ) → IsKnown s (items left ++ items right) (changed left ++ changed right) → s.changed ≡ false →
    any_in (changed left ++ changed right) i j ≡ false
not_changed left right s i j k h = none_in (changed left ++ changed right) i j (sym k.changed ∙ h)

pub past_end : (left right : Layout) (s : Stretch) (i j : ℕ) → IsKnown s (items left ++ items right) (changed left ++ changed right) → s.count ≤ i →
    any_in (changed left ++ changed right) i j ≡ false
past_end left right s i j k le =
    none_past (changed left ++ changed right) i j
    (omega (arith, k.count, length-append (items left) (items right), length-append (changed left) (changed right), changed_length left, changed_length right))

pub to_start : (left right : Layout) (i j : ℕ) → j ≡ 0 → any_in (changed left ++ changed right) i j ≡ false
to_start left right i j e = none_to_zero (changed left ++ changed right) i j e

or_true : (a b : Bool) → a ≡ true → (a || b) ≡ true
or_true true b h = refl
or_true false b h = absurd (cc h)

or_false : (a b : Bool) → a ≡ false → (a || b) ≡ b
or_false true b h = absurd (cc h)
or_false false b h = refl

pub changed_left : (left right : Layout) (i j : ℕ) → any_in (changed left) i j ≡ true → any_in (changed left ++ changed right) i j ≡ true
changed_left left right i j h =
    any_in-append (changed left) (changed right) i j ∙ or_true (any_in (changed left) i j) (any_in (changed right) (i - length (changed left)) (j - length (changed left))) h

pub changed_right : (left right : Layout) (s : Stretch) (i j a b : ℕ) → s ≡ known left → IsLaid left → a ≡ i - s.count → b ≡ j - s.count → any_in (changed left) i j ≡ false →
    any_in (changed right) a b ≡ any_in (changed left ++ changed right) i j
changed_right left right s i j a b is laid e d h =
    let count : s.count ≡ length (changed left) = ap (λ (k : Stretch). k.count) is ∙ ((of_laid left laid).count ∙ sym (changed_length left)) in
    let from : a ≡ i - length (changed left) = e ∙ ap (λ n. i - n) count in
    let to : b ≡ j - length (changed left) = d ∙ ap (λ n. j - n) count in
    ap (λ n. any_in (changed right) n b) from ∙ (ap (λ n. any_in (changed right) (i - length (changed left)) n) to
    ∙ sym (any_in-append (changed left) (changed right) i j ∙ or_false (any_in (changed left) i j) (any_in (changed right) (i - length (changed left)) (j - length (changed left))) h))

-- ---- what is known of a fork

pub of_spanned : (n : ℕ) (t : Layout) (k : ℕ) → IsSpanned n t k → Covers n (known t).from (known t).to (items t) k
of_spanned n (Leaf x f s) k h = h
of_spanned n (Fork' p left s q right) k h = h.0

joined_known : (left right : Layout) (s a b : Stretch) → s ≡ joined a b → a ≡ known left → b ≡ known right → s ≡ joined (known left) (known right)
joined_known left right s a b e f g = cc

pub fork_known : (left right : Layout) (s a b : Stretch) → s ≡ joined a b → a ≡ known left → b ≡ known right → IsShort s → IsLaid left → IsLaid right →
    IsKnown s (items left ++ items right) (changed left ++ changed right)
fork_known left right s a b e f g short h i =
    let is = joined_known left right s a b e f g in
    let P : Stretch → Type 0 = λ t. IsKnown t (items left ++ items right) (changed left ++ changed right) in
    subst P (sym is) (known-joined (known left) (known right) (items left) (items right) (changed left) (changed right) (of_laid left h) (of_laid right i) (subst IsShort is short))

pub fork_covers : (n : ℕ) (left right : Layout) (k m : ℕ) (s a b : Stretch) → s ≡ joined a b → a ≡ known left → b ≡ known right → m ≡ k + length (items left) →
    IsSpanned n left k → IsSpanned n right m → Covers n s.from s.to (items left ++ items right) k
fork_covers n left right k m s a b e f g at h i =
    let is = joined_known left right s a b e f g in
    let u = known left in
    let v = known right in
    let P : Stretch → Type 0 = λ t. Covers n t.from t.to (items left ++ items right) k in
    subst P (sym is) (covers-append n (joined u v).from (joined u v).to (items left) (items right) k m at
    (covers-wider n u.from u.to (joined u v).from (joined u v).to (items left) k (omega arith) (omega arith) (of_spanned n left k h))
    (covers-wider n v.from v.to (joined u v).from (joined u v).to (items right) m (omega arith) (omega arith) (of_spanned n right m i)))

-- ---- raises

pub kept : (t : Layout) (r : Raises) → is_keep r ≡ true → items_by t r ≡ items t
kept (Leaf x f s) Keep h = refl
kept (Leaf x f s) Raise h = absurd (cc h)
kept (Leaf x f s) (Both' p a q b) h = absurd (cc h)
kept (Fork' p left s q right) Keep h = ap (λ xs. xs ++ items_by right Keep) (kept left Keep refl) ∙ ap (λ xs. items left ++ xs) (kept right Keep refl)
kept (Fork' p left s q right) Raise h = absurd (cc h)
kept (Fork' p left s q right) (Both' p' a q' b) h = absurd (cc h)

first_part : (a b c : Bool) → (a && b && c) ≡ true → a ≡ true
first_part true b c h = refl
first_part false b c h = absurd (cc h)

last_part : (a b c : Bool) → (a && b && c) ≡ true → c ≡ true
last_part true true c h = h
last_part true false c h = absurd (cc h)
last_part false b c h = absurd (cc h)

pub quiet_keeps : (s : Stretch) (r : Raises) (a b : ℕ) → is_quiet s r a b ≡ true → is_keep r ≡ true
quiet_keeps s r a b h = first_part (is_keep r) (not s.changed) (only_moves s a b) h

pub quiet_moves : (s : Stretch) (r : Raises) (a b : ℕ) → is_quiet s r a b ≡ true → only_moves s a b ≡ true
quiet_moves s r a b h = last_part (is_keep r) (not s.changed) (only_moves s a b) h

pub both_sides : (a b c d : List (Piece × Form)) → a ≡ c → b ≡ d → a ++ b ≡ c ++ d
both_sides a b c d e f = cc
