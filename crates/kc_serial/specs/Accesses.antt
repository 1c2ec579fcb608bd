-- What was accessed before a state, and what stands in SP_CON and in the baud rate register by it (80C196KC User's Manual,
-- "Serial Port"). The history of a port is that of kc_serial: the levels of RXD and the accesses of each state.
use Rattle.std.specs.Prelude.{◌≡◌, ℕ, ◌+◌, ◌*◌, ◌/◌, ◌==◌, nat_le, Bool, true, not, ◌&&◌, if◌then◌else◌, List, [], ◌∷◌, fold}
use Rattle.std.specs.List.{list_any}
use Rattle.std.proofs.Common.{zero, suc}
use Rattle.kc_extra.specs.Histories.{Access}
use Rattle.kc_serial.specs.Registers.{baud_rate, sp_con}
use Rattle.kc_serial.specs.History.{Driven}

-- an access in a state
pub record Done : Type 0 where
  pub at : ℕ
  pub access : Access

abbrev pub done_by : ℕ → List Done → Access → List Done
done_by t log a = record { at = t; access = a } ∷ log

-- all accesses before state t, the last one first
unfoldable pub log : Driven → ℕ → List Done
log h zero = []
log h (suc t) = fold (done_by t) (log h t) (h.accesses t)

-- of a register, all of which stand in window 0
abbrev pub is_write_of : ℕ → Access → Bool
is_write_of sfr a = a.is_write && ((a.window == 0) && (a.sfr == sfr))

abbrev pub is_read_of : ℕ → Access → Bool
is_read_of sfr a = not a.is_write && ((a.window == 0) && (a.sfr == sfr))

-- SP_CON after these accesses, of which the last is the first
abbrev pub control_after : List Done → ℕ
control_after [] = 0
control_after (d ∷ earlier) = if is_write_of sp_con d.access then d.access.value else control_after earlier

-- the rate, which takes its low byte first
abbrev pub rate_after : List Done → ℕ
rate_after [] = 0
rate_after (d ∷ earlier) = if is_write_of baud_rate d.access then rate_after earlier / 256 + 256 * d.access.value else rate_after earlier

abbrev pub control_before : Driven → ℕ → ℕ
control_before h t = control_after (log h t)

abbrev pub rate_before : Driven → ℕ → ℕ
rate_before h t = rate_after (log h t)

-- whether such an access comes in state s or later
abbrev pub comes_since : (Access → Bool) → ℕ → List Done → Bool
comes_since such s accesses = list_any (λ d. nat_le s d.at && such d.access) accesses

-- a truth that is known exactly where it holds
abbrev pub Decides : Bool → Type 0 → Type 0
Decides known holds = (known ≡ true → holds) × (holds → known ≡ true)
