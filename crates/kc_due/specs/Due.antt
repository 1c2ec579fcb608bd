-- A map of sixteen slots to state times, as the list of what each slot has (this kit's own).
use Rattle.std.specs.Prelude.{◌≡◌, ℕ, ◌<◌, ◌≤◌, List, Option, Some, None, slice_index_or, ◌⊎◌}

abbrev pub Times : Type 0
Times = List (Option ℕ)

-- what a slot has
abbrev pub at_slot : Times → ℕ → Option ℕ
at_slot times slot = slice_index_or times slot None

-- of the slots below a limit, the one with the least time, of equals the least slot; None where none of them has a time
abbrev pub IsFirstBelow : Times → ℕ → Option (ℕ × ℕ) → Type 0
IsFirstBelow times n None = (k : ℕ) → k < n → at_slot times k ≡ None
IsFirstBelow times n (Some found) =
    (found.0 < n) × (at_slot times found.0 ≡ Some found.1)
    × ((k time : ℕ) → k < n → at_slot times k ≡ Some time → (found.1 < time) ⊎ ((found.1 ≡ time) × (found.0 ≤ k)))

-- of all slots
abbrev pub IsFirst : Times → Option (ℕ × ℕ) → Type 0
IsFirst times first = IsFirstBelow times 16 first
