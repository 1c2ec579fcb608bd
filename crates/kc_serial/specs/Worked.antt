-- A frame that is driven on RXD, as another port sends it (this kit's own).
use Rattle.std.specs.Prelude.{◌≡◌, ℕ, ◌/◌, ◌%◌, ◌<◌, ◌^◌, Bool, true, false, List, [], ◌∷◌}
use Rattle.std.proofs.Common.{zero, suc}
use Rattle.kc_base.specs.declared.types.Level.TheVariants.{High}
use Rattle.kc_extra.specs.Histories.{Access}
use Rattle.kc_serial.specs.Frames.{bit_length, frame_level}
use Rattle.kc_serial.specs.Registers.{baud_rate, sp_con}
use Rattle.kc_serial.specs.History.{Driven, port_at, sample_state}
use Rattle.kc_serial.specs.Receptions.{Completes, catches_of}

abbrev pub write : ℕ → ℕ → Access
write sfr value = record { is_write = true; window = 0; sfr = sfr; value = value }

-- in state 0 the rate is set, and the port may receive
abbrev pub settings : ℕ → ℕ → List Access
settings rate zero = write baud_rate (rate % 256) ∷ write baud_rate (rate / 256) ∷ write sp_con 9 ∷ []
settings rate (suc t) = []

abbrev pub levels_of : ℕ → ℕ → ℕ → Bool
levels_of rate byte zero = true
levels_of rate byte (suc n) = frame_level byte (n / bit_length rate)

-- from state 1 on RXD has the levels of a frame of this byte
abbrev pub driven : ℕ → ℕ → Driven
driven rate byte = record { before = High; levels = levels_of rate byte; accesses = settings rate }

-- It is received half a bit after its stop bit has begun: RI is set, and FE is not.
pub record IsCarried (rate byte : ℕ) : Type 0 where
  pub completes : Completes (driven rate byte) (catches_of (driven rate byte)) 1 (sample_state 1 rate 9)
  pub received : (port_at (driven rate byte) (suc (sample_state 1 rate 9))).received ≡ byte
  pub ri : (port_at (driven rate byte) (suc (sample_state 1 rate 9))).flags.received ≡ true
  pub fe : (port_at (driven rate byte) (suc (sample_state 1 rate 9))).flags.framing ≡ false

abbrev pub DrivenFramesAreReceived : Type 0
DrivenFramesAreReceived = (rate byte : ℕ) → rate < 2 ^ 16 → byte < 2 ^ 8 → IsCarried rate byte
