-- What is kept of the positions of a mark, and how it goes on with each (this kit's own). `IsKept` says of which positions it is.
use Rattle.std.specs.Prelude.{◌≡◌, ℕ, ◌<◌, ◌-◌, ◌*◌, ◌%◌, ◌^◌, min, ◌==◌, nat_le, if◌then◌else◌, Bool, false, Option, Some, None, List, [], ◌∷◌, length, filter}
use Rattle.std.specs.Option.{option_map}
use Rattle.kc_rules.specs.declared.amount.Factor.{Factor}
use Rattle.kc_rules.specs.declared.mark.MarkForm.{MarkForm}
use Rattle.kc_rules.specs.declared.mark.MarkForm.TheVariants as forms
use Rattle.kc_monitor.specs.declared.marks.Marking.{Marking}
use Rattle.kc_monitor_forms.specs.Tallies.{one_more}
use Rattle.kc_monitor.specs.Marked.{Hit, event_states, since}

-- ---- how it goes on

abbrev pub fresh : Marking
fresh = record { count = None; last = None; gap = None }

abbrev pub far_by : ℕ → ℕ → Option ℕ → Bool
far_by least at None = false
far_by least at (Some last) = nat_le least (at - last)

abbrev pub gap_from : ℕ → Option ℕ → Option ℕ
gap_from at None = None
gap_from at (Some last) = Some (at - last)

abbrev pub farther_by : Factor → Option ℕ → Option ℕ → Bool
farther_by share None before = false
farther_by share (Some n) None = false
farther_by share (Some n) (Some before) = nat_le (share.num * before) (share.den * n)

abbrev pub or_zero : Option ℕ → ℕ
or_zero None = 0
or_zero (Some n) = n

abbrev pub up_to_number : ℕ → ℕ → ℕ
up_to_number k n = if n == k then 0 else n

abbrev pub begun_by : Bool → Option ℕ → Option ℕ
begun_by from count = if from then Some 0 else count

abbrev pub counted_by : Bool → Option ℕ → Option ℕ
counted_by event count = if event then option_map one_more count else count

abbrev pub with_gap : ℕ → Marking → Marking
with_gap at m = record m { last = Some at; gap = gap_from at m.last }

abbrev pub with_count : ℕ → Marking → Marking
with_count k m = record m { count = Some (up_to_number k (one_more (or_zero m.count))) }

-- ---- of which positions it is, of which the latest is the first

abbrev pub latest : List ℕ → Option ℕ
latest [] = None
latest (t ∷ ts) = Some t

abbrev pub latest_gap : List ℕ → Option ℕ
latest_gap [] = None
latest_gap (t ∷ []) = None
latest_gap (t ∷ u ∷ ts) = Some (t - u)

abbrev pub stands : ℕ → ℕ
stands n = min n (2 ^ 64 - 1)

abbrev pub IsKept : MarkForm → List Hit → Marking → Type 0
IsKept (forms.Same es) earlier m = Unit {0}
IsKept (forms.QuietFor es least) earlier m = m.last ≡ latest (event_states earlier)
IsKept (forms.QuietShare es share) earlier m = (m.last ≡ latest (event_states earlier)) × (m.gap ≡ latest_gap (event_states earlier))
IsKept (forms.Every k es) earlier m = 0 < k → or_zero m.count ≡ length (filter (λ h. h.event) earlier) % k
IsKept (forms.From k es first) earlier m = m.count ≡ option_map stands (since earlier)
