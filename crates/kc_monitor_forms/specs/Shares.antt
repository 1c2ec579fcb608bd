-- `PIN LEVEL for SPAN` in shares (this kit's own): from an edge to the level to the next edge, as a share of the time to the edge
-- behind that, which comes to the level again.
use Rattle.std.specs.Prelude.{ℕ, ◌+◌, ◌-◌, ◌*◌, ◌/◌, ◌==◌, nat_le, nat_lt, if◌then◌else◌, Bool, true, ◌&&◌, ◌||◌, Option, Some, None, List, [], ◌∷◌, ◌++◌, filter}
use Rattle.kc_rules.specs.declared.amount.Share.{Share}
use Rattle.kc_rules.specs.declared.rule.Shares.{Shares}
use Rattle.kc_monitor_forms.specs.declared.obligation.Offset.TheVariants.{Plus}
use Rattle.kc_monitor_forms.specs.declared.obligation.Spread.{Spread}
use Rattle.kc_monitor_forms.specs.declared.obligation.Obligation.{Obligation}
use Rattle.kc_monitor_forms.specs.declared.obligation.Point.{Point}
use Rattle.kc_monitor_forms.specs.Obligations.{good_if}

abbrev pub is_least : Option Share → ℕ → ℕ → Bool
is_least None n whole = true
is_least (Some a) n whole = nat_le (a.num * whole) (a.den * n)

abbrev pub is_most : Option Share → ℕ → ℕ → Bool
is_most None n whole = true
is_most (Some b) n whole = nat_le (b.den * n) (b.num * whole)

-- hundredths of a percent, rounded down and up; a period without a state has none
abbrev pub hundredths : ℕ → ℕ → Option Spread
hundredths n whole =
    if (whole == 0) || nat_lt whole n then None
    else Some (record { least = Plus (10000 * n / whole); most = Plus ((10000 * n + (whole - 1)) / whole) })

abbrev pub share_seen : Shares → ℕ → ℕ → ℕ → Obligation
share_seen shares begin n whole = record {
  at = begin;
  answer = good_if (is_least shares.least n whole && is_most shares.most n whole);
  seen = Some (Plus n);
  spread = hundredths n whole;
}

abbrev pub period : Shares → Point → Point → Point → List Obligation
period shares i e j = if i.from then share_seen shares i.at (e.at - i.at) (j.at - i.at) ∷ [] else []

-- of all edges, each with the next two
unfoldable pub among : Shares → List Point → List Obligation
among shares [] = []
among shares (i ∷ []) = []
among shares (i ∷ e ∷ []) = []
among shares (i ∷ e ∷ j ∷ edges) = period shares i e j ++ among shares (e ∷ j ∷ edges)

abbrev pub for_shares : Shares → List Point → List Obligation
for_shares shares points = among shares (filter (λ p. p.event) points)
