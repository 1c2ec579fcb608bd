-- What a rule asks of a life: obligations, each of a state, with an answer and what was seen (this kit's own).
use Rattle.std.specs.Prelude.{ℕ, nat_lt, if◌then◌else◌, Bool, true, false, Option, Some, None}
use Rattle.kc_monitor_forms.specs.declared.obligation.Offset.{Offset}
use Rattle.kc_monitor_forms.specs.declared.obligation.Offset.TheVariants.{Minus, Plus}
use Rattle.kc_monitor_forms.specs.declared.obligation.Answer.{Answer}
use Rattle.kc_monitor_forms.specs.declared.obligation.Answer.TheVariants.{Good, Bad}
use Rattle.kc_monitor_forms.specs.declared.obligation.Spread.{Spread}
use Rattle.kc_monitor_forms.specs.declared.obligation.Obligation.{Obligation}

abbrev pub good_if : Bool → Answer
good_if fine = if fine then Good else Bad

abbrev pub same : Offset → Option Spread
same n = Some (record { least = n; most = n })

-- a length in states, or a count, is seen as it is
abbrev pub measured : ℕ → ℕ → Bool → Obligation
measured at n fine = record { at = at; answer = good_if fine; seen = Some (Plus n); spread = same (Plus n) }

abbrev pub unseen : ℕ → Answer → Obligation
unseen at answer = record { at = at; answer = answer; seen = None; spread = None }

-- ---- the order of what is seen

abbrev pub offset_lt : Offset → Offset → Bool
offset_lt (Minus a) (Minus b) = nat_lt b a
offset_lt (Minus a) (Plus b) = true
offset_lt (Plus a) (Minus b) = false
offset_lt (Plus a) (Plus b) = nat_lt a b

abbrev pub least_of : Offset → Offset → Offset
least_of a b = if offset_lt b a then b else a

abbrev pub most_of : Offset → Offset → Offset
most_of a b = if offset_lt a b then b else a
