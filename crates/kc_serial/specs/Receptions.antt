-- When a port begins to receive, and which bytes it has received, by the levels of RXD and the writes of SP_CON so far (80C196KC
-- User's Manual, "Serial Port"; the states of the samples are this kit's own).
use Rattle.std.specs.Prelude.{◌≡◌, ℕ, ◌<◌, ◌≤◌, Bool, true, false, not, ◌&&◌, ◌⊎◌, is_none}
use Rattle.kc_extra.specs.Histories.{Access}
use Rattle.kc_serial.specs.Port.{receives}
use Rattle.kc_serial.specs.Registers.{sp_con}
use Rattle.kc_serial.specs.History.{Driven, falls, port_at, sample_state, number_of, byte_levels}
use Rattle.kc_serial.specs.Accesses.{log, is_write_of, control_before, rate_before, comes_since, Decides}

-- for each state whether a reception begins in it
abbrev pub Catches : Type 0
Catches = ℕ → Bool

-- the state of sample k of a reception that begins in state e, at the rate with which it begins
abbrev pub sample_of : Driven → ℕ → ℕ → ℕ
sample_of h e k = sample_state e (rate_before h e) k

-- a write that has the port no more receive
abbrev pub forbids : Access → Bool
forbids a = is_write_of sp_con a && not (receives a.value)

-- A reception that began in state e is under way as state t begins: sample 9 has not come, the start bit was 0 if it has come,
-- and nothing has forbidden it since.
pub record IsReceiving (h : Driven) (catches : Catches) (e t : ℕ) : Type 0 where
  pub caught : catches e ≡ true
  pub past : e < t
  pub within : t ≤ sample_of h e 9
  pub start_bit : sample_of h e 0 < t → h.levels (sample_of h e 0) ≡ false
  pub allowed : comes_since forbids e (log h t) ≡ false

-- A reception begins exactly where RXD falls, the port may receive, and none is under way.
abbrev pub AreReceptions : Driven → Catches → Type 0
AreReceptions h catches = (t : ℕ) →
    Decides (catches t) ((falls h t ≡ true) × (receives (control_before h t) ≡ true) × ((e : ℕ) → IsReceiving h catches e t → ⊥))

-- RXD and what is written determine all receptions
abbrev pub ReceptionsAreOne : Type 0
ReceptionsAreOne = (h : Driven) (catches others : Catches) → AreReceptions h catches → AreReceptions h others → (t : ℕ) → catches t ≡ others t

-- the receptions of the port
abbrev pub catches_of : Driven → Catches
catches_of h t = (falls h t && receives (port_at h t).control) && is_none (port_at h t).reception

abbrev pub FallsAreCaught : Type 0
FallsAreCaught = (h : Driven) → AreReceptions h (catches_of h)

-- a reception that began in state e completes in state t, that of its sample 9
pub record Completes (h : Driven) (catches : Catches) (e t : ℕ) : Type 0 where
  pub under : IsReceiving h catches e t
  pub last : sample_of h e 9 ≡ t

abbrev pub IsCompletion : Driven → Catches → ℕ → Type 0
IsCompletion h catches t = (e : ℕ) × Completes h catches e t

-- the byte of a reception that began in state e: the levels at samples 1 to 8, the lowest bit first
abbrev pub byte_of : Driven → ℕ → ℕ
byte_of h e = number_of (byte_levels h.levels e (rate_before h e))

-- the last reception that has completed before state t
pub record IsLastCompletion (h : Driven) (catches : Catches) (e c t : ℕ) : Type 0 where
  pub completes : Completes h catches e c
  pub past : c < t
  pub last : (other : ℕ) → c < other → other < t → IsCompletion h catches other → ⊥

-- the byte received last as state t begins; 0 where there is none
abbrev pub IsLastByte : Driven → Catches → ℕ → ℕ → Type 0
IsLastByte h catches t byte =
    ((e : ℕ) × (c : ℕ) × IsLastCompletion h catches e c t × (byte ≡ byte_of h e))
    ⊎ (((c : ℕ) → c < t → IsCompletion h catches c → ⊥) × (byte ≡ 0))

-- what a read of SBUF gives
abbrev pub BytesAreLast : Type 0
BytesAreLast = (h : Driven) (t : ℕ) → IsLastByte h (catches_of h) t (port_at h t).received
