-- `PIN LEVEL and PIN LEVEL D apart` (this kit's own): each state of the scope in which one of two signals comes to its level, or has
-- it as the scope begins, by the last state so far in which the other one had its level.
use Rattle.std.specs.Prelude.{ℕ, zero, suc, ◌+◌, ◌-◌, ◌==◌, nat_le, if◌then◌else◌, Bool, not, ◌&&◌, ◌||◌, Option, Some, None, List, [], ◌∷◌, ◌++◌, flat_map}
use Rattle.std.specs.List.{range_with_len}
use Rattle.kc_monitor_forms.specs.declared.obligation.Offset.TheVariants.{Minus}
use Rattle.kc_monitor_forms.specs.declared.obligation.Answer.TheVariants.{Bad}
use Rattle.kc_monitor_forms.specs.declared.obligation.Obligation.{Obligation}
use Rattle.kc_monitor_forms.specs.Obligations.{same, measured}

-- for each state whether a signal has its level
abbrev pub Times : Type 0
Times = ℕ → Bool

abbrev pub comes : Times → ℕ → ℕ → Bool
comes has first t = has t && ((t == first) || not (has (t - 1)))

-- the last of so many states in which it has it
unfoldable pub last_had : Times → ℕ → ℕ → Option ℕ
last_had has first zero = None
last_had has first (suc n) = if has (first + n) then Some (first + n) else last_had has first n

abbrev pub both : ℕ → Obligation
both t = record { at = t; answer = Bad; seen = Some (Minus 1); spread = same (Minus 1) }

-- so many states lie between that one and this
abbrev pub asked_by : ℕ → ℕ → Option ℕ → List Obligation
asked_by distance t None = []
asked_by distance t (Some y) = (if y == t then both t else measured t (t - y - 1) (nat_le distance (t - y - 1))) ∷ []

abbrev pub asked_at : ℕ → Times → Times → ℕ → ℕ → List Obligation
asked_at distance one other first t = if comes one first t then asked_by distance t (last_had other first (t + 1 - first)) else []

-- the states from `first` on, up to the one before `end`
unfoldable pub apart : ℕ → Times → Times → ℕ → ℕ → List Obligation
apart distance one other first end =
    flat_map (λ t. asked_at distance one other first t ++ asked_at distance other one first t) (range_with_len first (end - first))
