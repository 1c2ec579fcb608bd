-- What the machines of `never`, `every` and `for` have still to report, point by point.
use Rattle.std.proofs.Common.{◌≡◌, ℕ, true, false, ◌∷◌, [], List, refl}
use Rattle.kc_rules.specs.declared.rule.Span.{Span}
use Rattle.kc_rules.specs.declared.rule.Shares.{Shares}
use Rattle.kc_monitor_forms.specs.declared.obligation.Answer.TheVariants.{Good, Bad}
use Rattle.kc_monitor_forms.specs.declared.obligation.Point.{Point}
use Rattle.kc_monitor_forms.specs.declared.tally.Tally.{Tally}
use Rattle.kc_monitor_forms.specs.Obligations.{unseen}
use Rattle.kc_monitor_forms.specs.Tallies.{with_all}
use Rattle.kc_monitor_forms.specs.Never.{never}
use Rattle.kc_monitor_forms.specs.Gaps.{between, closed}
use Rattle.kc_monitor_forms.specs.Shares.{among, period}
use Rattle.kc_monitor_forms.proofs.TallyLemmas.{with_all_append}

pub never_event : (first : ℕ) (p : Point) (points : List Point) → p.event ≡ true → never first (p ∷ points) ≡ unseen p.at Bad ∷ []
unfolding never
never_event first p points is = rw is refl

pub never_other : (first : ℕ) (p : Point) (points : List Point) → p.event ≡ false → never first (p ∷ points) ≡ never first points
unfolding never
never_other first p points other = rw other refl

pub never_none : (first : ℕ) → never first [] ≡ unseen first Good ∷ []
unfolding never
never_none first = refl

pub between_none : (span : Span) (end : ℕ) → between span end [] ≡ []
unfolding between
between_none span end = refl

pub between_next : (life : ℕ) (tally : Tally) (span : Span) (end : ℕ) (i j : Point) (events : List Point) →
    with_all life tally (between span end (i ∷ j ∷ events)) ≡ with_all life (with_all life tally (closed span i j)) (between span end (j ∷ events))
unfolding between
between_next life tally span end i j events = with_all_append life tally (closed span i j) (between span end (j ∷ events))

pub among_next : (life : ℕ) (tally : Tally) (shares : Shares) (i e j : Point) (edges : List Point) →
    with_all life tally (among shares (i ∷ e ∷ j ∷ edges)) ≡ with_all life (with_all life tally (period shares i e j)) (among shares (e ∷ j ∷ edges))
unfolding among
among_next life tally shares i e j edges = with_all_append life tally (period shares i e j) (among shares (e ∷ j ∷ edges))
