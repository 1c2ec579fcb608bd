-- Digits without the zeros in front.
use Rattle.std.proofs.Common.{◌≡◌, ◌≢◌, ℕ, ◌-◌, ◌<◌, List, [], ◌∷◌, length, take, drop, take_all, get_or, refl, ap, ◌∙◌, arith}
use Rattle.std.proofs.lemmas.Bool.{ne_eqb}
use Rattle.kc_vcd.specs.Dump.{significant}

pub none_left : (ds : List ℕ) → length ds ≡ 0 → significant ds ≡ ds
unfolding significant
none_left [] none = refl
none_left (d ∷ ds) none = absurd (omega (arith, none))

pub stops : (d : ℕ) (ds : List ℕ) → d ≢ 48 → significant (d ∷ ds) ≡ d ∷ ds
unfolding significant
stops d [] other = refl
stops d (e ∷ ds) other = rw (ne_eqb d 48 other) refl

pub last_stays : (d : ℕ) (ds : List ℕ) → length ds ≡ 0 → significant (d ∷ ds) ≡ d ∷ ds
unfolding significant
last_stays d [] none = refl
last_stays d (e ∷ ds) none = absurd (omega (arith, none))

pub skips : (d : ℕ) (ds : List ℕ) → d ≡ 48 → 0 < length ds → significant ds ≡ significant (d ∷ ds)
unfolding significant
skips d [] zero some = absurd (omega (arith, some))
skips d (e ∷ ds) zero some = rw zero refl

pub skip_step : (ds all : List ℕ) → get_or ds 0 0 ≡ 48 → 1 < length ds → significant ds ≡ significant all → significant (take (length ds - 1) (drop 1 ds)) ≡ significant all
skip_step [] all zero some same = absurd (omega (arith, some))
skip_step (d ∷ ds) all zero some same = ap significant (take_all (length (d ∷ ds) - 1) ds (omega arith)) ∙ skips d ds zero (omega (arith, some)) ∙ same
