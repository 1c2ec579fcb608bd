-- The requests of each state and the bits of SP_STAT, by the frames, the receptions and the reads so far (80C196KC User's Manual,
-- "Serial Port").
use Rattle.std.specs.Prelude.{◌≡◌, ℕ, ◌+◌, ◌<◌, Bool, false}
use Rattle.kc_base.specs.Bits.{weight}
use Rattle.kc_serial.specs.Port.{requests, out}
use Rattle.kc_serial.specs.Registers.{sp_con, status}
use Rattle.kc_serial.specs.History.{Driven, port_at}
use Rattle.kc_serial.specs.Accesses.{log, is_read_of, comes_since, Decides}
use Rattle.kc_serial.specs.Schedules.{Frames, Ends, Waits, frames_of}
use Rattle.kc_serial.specs.Receptions.{Catches, IsCompletion, catches_of}

-- Requests 8 and 6 come in exactly the states in which a frame ends, 9 and 6 in those in which a reception completes.
pub record AreRequests (h : Driven) (frames : Frames) (catches : Catches) (t given : ℕ) : Type 0 where
  pub sent : Bool
  pub received : Bool
  pub raised : given ≡ requests sent received
  pub ends : Decides sent (Ends h frames t)
  pub completes : Decides received (IsCompletion h catches t)

abbrev pub EndsAreRequested : Type 0
EndsAreRequested = (h : Driven) (t : ℕ) → AreRequests h (frames_of h) (catches_of h) t (out (port_at h t)).raised.0

-- A flag as state t begins, which such states set: one has come, and SP_STAT was not read in it or since.
pub record IsSet (h : Driven) (Sets : ℕ → Type 0) (t : ℕ) : Type 0 where
  pub at : ℕ
  pub sets : Sets at
  pub past : at < t
  pub unread : comes_since (λ a. is_read_of sp_con a) at (log h t) ≡ false

abbrev pub IsReceived : Driven → Catches → ℕ → Type 0
IsReceived h catches t = IsSet h (λ c. IsCompletion h catches c) t

-- SP_STAT as state t begins: RI where a reception has completed, TI where a frame has ended, FE where the stop bit was 0, OE
-- where RI still was, and whether no byte waits
pub record IsStatus (h : Driven) (frames : Frames) (catches : Catches) (t byte : ℕ) : Type 0 where
  pub ri : Bool
  pub ti : Bool
  pub fe : Bool
  pub empty : Bool
  pub oe : Bool
  pub value : byte ≡ weight ri 64 + weight ti 32 + weight fe 16 + weight empty 8 + weight oe 4
  pub received : Decides ri (IsReceived h catches t)
  pub sent : Decides ti (IsSet h (λ e. Ends h frames e) t)
  pub framing : Decides fe (IsSet h (λ c. IsCompletion h catches c × (h.levels c ≡ false)) t)
  pub overrun : Decides oe (IsSet h (λ c. IsCompletion h catches c × IsReceived h catches c) t)
  pub waits : Decides empty ((other : ℕ) → Waits h frames (log h t) t other → ⊥)

abbrev pub StatusIsByHistory : Type 0
StatusIsByHistory = (h : Driven) (t : ℕ) → IsStatus h (frames_of h) (catches_of h) t (status (port_at h t))
