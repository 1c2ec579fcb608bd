-- Values of the analogue inputs up to a state, and behind it.
use Rattle.std.proofs.Common.{◌≡◌, ℕ, zero, suc, ◌+◌, ◌-◌, ◌<◌, ◌≤◌, Bool, true, false, cond, ltb, leb, Some, None, List, [], ◌∷◌, length, drop, Bor, slice_index_or, refl, sym, ap, subst, ◌∙◌, arith}
use Rattle.std.specs.Prelude.{slice_get}
use Rattle.std.specs.Slice.{IsItemAt}
use Rattle.std.specs.List.Sorted.{IsNonDecreasingBy}
use Rattle.std.proofs.lemmas.Bool.{lt-leb, le-leb, lt-ltb, le-ltb, leb-false, ltb-true, ltb-false}
use Rattle.kc_base.specs.Series.{up_to}
use Rattle.kc_convert.specs.declared.sample.Sample.{Sample}
use Rattle.kc_vcd.specs.Changes.{before, after}

abbrev pub InOrder : List Sample → Type 0
InOrder samples = IsNonDecreasingBy (λ s. s.at) samples

pub order_rest : (s : Sample) (samples : List Sample) → InOrder (s ∷ samples) → InOrder samples
order_rest s samples order = λ i j d le lt. order (suc i) (suc j) d (omega (arith, le)) (omega (arith, lt))

-- none is up to a state before the first one
pub none_sooner : (at : ℕ) (s : Sample) (samples : List Sample) → InOrder (s ∷ samples) → at < s.at → up_to (λ x. x.at) at (s ∷ samples) ≡ []
none_sooner at s [] order less = rw (lt-leb s.at at less) refl
none_sooner at s (x ∷ samples) order less =
    let later : s.at ≤ x.at = order 0 1 s (omega arith) (omega arith) in
    rw (lt-leb s.at at less) (none_sooner at x samples (order_rest s (x ∷ samples) order) (omega (arith, less, later)))

pub next_there : (samples : List Sample) (n : ℕ) (s : Sample) → slice_get samples n ≡ Some s → drop n samples ≡ s ∷ drop (n + 1) samples
next_there [] n s is = absurd cc
next_there (x ∷ samples) zero s is = let same : x ≡ s = cc in ap (λ y. y ∷ samples) same
next_there (x ∷ samples) (suc n) s is = let more : suc n + 1 ≡ suc (n + 1) = omega arith in rw more (next_there samples n s is)

pub next_within : (samples : List Sample) (n : ℕ) (s : Sample) → slice_get samples n ≡ Some s → n < length samples
next_within [] n s is = absurd cc
next_within (x ∷ samples) zero s is = omega arith
next_within (x ∷ samples) (suc n) s is = let less = next_within samples n s is in omega (arith, less)

pub none_there : (samples : List Sample) (n at : ℕ) → slice_get samples n ≡ None → up_to (λ s. s.at) at (drop n samples) ≡ []
none_there [] zero at is = refl
none_there [] (suc n) at is = refl
none_there (x ∷ samples) zero at is = absurd cc
none_there (x ∷ samples) (suc n) at is = none_there samples n at is

order_drop : (samples : List Sample) (n : ℕ) → InOrder samples → InOrder (drop n samples)
order_drop samples zero order = order
order_drop [] (suc n) order = order
order_drop (x ∷ samples) (suc n) order = order_drop samples n (order_rest x samples order)

pub next_later : (samples : List Sample) (n at : ℕ) (s : Sample) → InOrder samples → slice_get samples n ≡ Some s → at < s.at → up_to (λ x. x.at) at (drop n samples) ≡ []
next_later samples n at s order is less =
    let there = next_there samples n s is in
    ap (up_to (λ x. x.at) at) there ∙ none_sooner at s (drop (n + 1) samples) (subst InOrder there (order_drop samples n order)) less

there_held : (samples : List Sample) (n : ℕ) (s : Sample) → n < length samples → s ≡ slice_index_or samples n s → slice_get samples n ≡ Some s
there_held [] n s less same = absurd (omega (arith, less))
there_held (x ∷ samples) zero s less same = ap (λ y. Some y) (sym same)
there_held (x ∷ samples) (suc n) s less same = there_held samples n s (omega (arith, less)) same

pub next_held : (samples : List Sample) (n at : ℕ) (s : Bor Sample) → InOrder samples → IsItemAt samples n (Some s) → at < s.now.at → up_to (λ x. x.at) at (drop n samples) ≡ []
next_held samples n at s order held less = next_later samples n at s.now order (there_held samples n s.now held.3.0 held.1) less

-- where none is up to a state, all are behind it
pub all_behind : (at : ℕ) (samples : List Sample) → up_to (λ s. s.at) at samples ≡ [] → after at samples ≡ samples
all_behind at [] none = refl
all_behind at (s ∷ samples) none = by_test (all_behind at samples) (leb s.at at) refl
  where
    by_test : (up_to (λ x. x.at) at samples ≡ [] → after at samples ≡ samples) → (b : Bool) → leb s.at at ≡ b → after at (s ∷ samples) ≡ s ∷ samples
    by_test others true on = absurd (let some : s ∷ up_to (λ x. x.at) at samples ≡ [] = subst (λ b. cond b (s ∷ up_to (λ x. x.at) at samples) (up_to (λ x. x.at) at samples) ≡ []) on none in cc)
    by_test others false off =
        let rest : up_to (λ x. x.at) at samples ≡ [] = subst (λ b. cond b (s ∷ up_to (λ x. x.at) at samples) (up_to (λ x. x.at) at samples) ≡ []) off none in
        rw (lt-ltb at s.at (leb-false s.at at off)) (ap (λ (more : List Sample). s ∷ more) (others rest))

pub taken_sooner : (at : ℕ) (s : Sample) (samples : List Sample) → s.at ≤ at → up_to (λ x. x.at) at (s ∷ samples) ≡ s ∷ up_to (λ x. x.at) at samples
taken_sooner at s samples le = rw (le-leb s.at at le) refl

pub left_sooner : (at : ℕ) (s : Sample) (samples : List Sample) → s.at ≤ at → after at (s ∷ samples) ≡ after at samples
left_sooner at s samples le = rw (le-ltb at s.at le) refl

-- those before a state, and up to the state before it
pub before_zero : (samples : List Sample) → before 0 samples ≡ []
before_zero [] = refl
before_zero (s ∷ samples) = rw (le-ltb s.at 0 (omega arith)) (before_zero samples)

pub before_next : (t : ℕ) (samples : List Sample) → 0 < t → up_to (λ s. s.at) (t - 1) samples ≡ before t samples
before_next t [] some = refl
before_next t (s ∷ samples) some = by_test (before_next t samples some) (ltb s.at t) refl
  where
    by_test : up_to (λ x. x.at) (t - 1) samples ≡ before t samples → (b : Bool) → ltb s.at t ≡ b → up_to (λ x. x.at) (t - 1) (s ∷ samples) ≡ before t (s ∷ samples)
    by_test others true on =
        let less = ltb-true s.at t on in
        rw (le-leb s.at (t - 1) (omega (arith, less, some)), on) (ap (λ (more : List Sample). s ∷ more) others)
    by_test others false off =
        let more = ltb-false s.at t off in
        rw (lt-leb s.at (t - 1) (omega (arith, more, some)), off) others
