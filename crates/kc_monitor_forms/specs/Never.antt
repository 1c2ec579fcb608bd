-- `never E` and `COUNT E in each life`: one obligation a life, of the points in the scope of the rule, whose first state is `first`
-- (this kit's own).
use Rattle.std.specs.Prelude.{ℕ, ◌-◌, ◌^◌, min, if◌then◌else◌, List, [], ◌∷◌, length, filter}
use Rattle.kc_monitor_forms.specs.declared.obligation.Answer.TheVariants.{Good, Bad}
use Rattle.kc_monitor_forms.specs.declared.obligation.Obligation.{Obligation}
use Rattle.kc_monitor_forms.specs.declared.obligation.Point.{Point}
use Rattle.kc_rules.specs.declared.rule.Span.{Span}
use Rattle.kc_monitor_forms.specs.Obligations.{unseen, measured}
use Rattle.kc_monitor_forms.specs.Spans.{is_within}

-- bad at the first event, else good
unfoldable pub never : ℕ → List Point → List Obligation
never first [] = unseen first Good ∷ []
never first (p ∷ points) = if p.event then unseen p.at Bad ∷ [] else never first points

-- how many of the points are events; a count stands at 2^64 - 1
abbrev pub count_of : List Point → ℕ
count_of points = min (length (filter (λ p. p.event) points)) (2 ^ 64 - 1)

abbrev pub in_life : Span → ℕ → List Point → List Obligation
in_life span first points = measured first (count_of points) (is_within span (count_of points)) ∷ []
