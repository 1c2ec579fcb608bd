-- `E every SPAN`, and `PIN LEVEL for SPAN` in states (this kit's own): from an event that begins something, an E or an edge to the
-- level, to the next event, an E or an edge of the pin.
use Rattle.std.specs.Prelude.{ℕ, ◌-◌, if◌then◌else◌, ◌&&◌, List, [], ◌∷◌, ◌++◌, filter}
use Rattle.kc_rules.specs.declared.rule.Span.{Span}
use Rattle.kc_monitor_forms.specs.declared.obligation.Answer.TheVariants.{Bad}
use Rattle.kc_monitor_forms.specs.declared.obligation.Obligation.{Obligation}
use Rattle.kc_monitor_forms.specs.declared.obligation.Point.{Point}
use Rattle.kc_monitor_forms.specs.Obligations.{measured, unseen}
use Rattle.kc_monitor_forms.specs.Spans.{is_within, is_past}

abbrev pub closed : Span → Point → Point → List Obligation
closed span i j = if i.from then measured i.at (j.at - i.at) (is_within span (j.at - i.at)) ∷ [] else []

-- without a next event it is bad where it is too long as the scope ends; `end` is the first state behind that
abbrev pub unfinished : Span → ℕ → Point → List Obligation
unfinished span end i = if i.from && is_past span.most (end - i.at) then unseen i.at Bad ∷ [] else []

-- of all events, each with the next one
unfoldable pub between : Span → ℕ → List Point → List Obligation
between span end [] = []
between span end (i ∷ []) = unfinished span end i
between span end (i ∷ j ∷ events) = closed span i j ++ between span end (j ∷ events)

abbrev pub gaps : Span → ℕ → List Point → List Obligation
gaps span end points = between span end (filter (λ p. p.event) points)
