-- Tallies of lists of obligations.
use Rattle.std.proofs.Common.{◌≡◌, ℕ, List, [], ◌∷◌, ◌++◌, refl}
use Rattle.kc_monitor_forms.specs.declared.obligation.Obligation.{Obligation}
use Rattle.kc_monitor_forms.specs.declared.tally.Tally.{Tally}
use Rattle.kc_monitor_forms.specs.Tallies.{with_one, with_all}

pub with_all_none : (life : ℕ) (tally : Tally) → with_all life tally [] ≡ tally
unfolding with_all
with_all_none life tally = refl

pub with_all_cons : (life : ℕ) (tally : Tally) (o : Obligation) (os : List Obligation) → with_all life tally (o ∷ os) ≡ with_all life (with_one life tally o) os
unfolding with_all
with_all_cons life tally o os = refl

pub with_all_append : (life : ℕ) (tally : Tally) (os more : List Obligation) → with_all life tally (os ++ more) ≡ with_all life (with_all life tally os) more
unfolding with_all
with_all_append life tally [] more = refl
with_all_append life tally (o ∷ os) more = with_all_append life (with_one life tally o) os more
