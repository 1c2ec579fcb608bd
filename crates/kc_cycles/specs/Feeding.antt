-- The deadline in each state, by the writes so far (80C196KC User's Manual, "Watchdog Timer": 1EH and then E1H; what stands
-- between two values that do not feed it is this kit's own).
use Rattle.std.specs.Prelude.{◌≡◌, ℕ, ◌+◌, ◌≤◌, ◌&&◌, if◌then◌else◌, Option, Some, None, List, [], ◌∷◌, ◌++◌, length, fold}
use Rattle.std.proofs.Common.{zero, suc}
use Rattle.kc_extra.specs.Histories.{Access, Driven, data_at}
use Rattle.kc_cycles.specs.declared.watchdog.Watchdog.{Watchdog}
use Rattle.kc_cycles.specs.Watching.{patience, is_watchdog, new_watchdog, watchdog_further}

-- a value written to WATCHDOG in a state
pub record Written : Type 0 where
  pub at : ℕ
  pub value : ℕ

abbrev pub written_by : ℕ → List Written → Access → List Written
written_by t writes a = if a.is_write && is_watchdog a.window a.sfr then record { at = t; value = a.value } ∷ writes else writes

-- all that is written before state t, the last write first
unfoldable pub writes_before : Driven → ℕ → List Written
writes_before h zero = []
writes_before h (suc t) = fold (written_by t) (writes_before h t) (h.accesses t)

-- Among these writes, the last first, one of E1H in this state comes directly after one of 1EH; `since` are those after it.
pub record IsFeeding (writes since : List Written) (at : ℕ) : Type 0 where
  pub first : ℕ
  pub earlier : List Written
  pub place : writes ≡ since ++ (record { at = at; value = 0xE1 } ∷ (record { at = first; value = 0x1E } ∷ earlier))

-- no feeding comes after it
pub record IsLastFeeding (writes : List Written) (at : ℕ) : Type 0 where
  pub since : List Written
  pub feeds : IsFeeding writes since at
  pub last : (others : List Written) (other : ℕ) → IsFeeding writes others other → length since ≤ length others

-- there is none before the first feeding; else it comes so long after the last one
abbrev pub IsDeadline : List Written → Option ℕ → Type 0
IsDeadline writes None = (since : List Written) (at : ℕ) → IsFeeding writes since at → ⊥
IsDeadline writes (Some deadline) = (at : ℕ) × IsLastFeeding writes at × (deadline ≡ at + patience)

abbrev pub watchdog_at : Driven → ℕ → Watchdog
watchdog_at h t = data_at watchdog_further new_watchdog h t

abbrev pub DeadlinesAreOfLastFeedings : Type 0
DeadlinesAreOfLastFeedings = (h : Driven) (t : ℕ) → IsDeadline (writes_before h t) (watchdog_at h t).deadline
