-- Which states of the serial port are quiet, and how many are before one that is not (this kit's own).
use Rattle.std.specs.Prelude.{◌≡◌, ℕ, ◌+◌, ◌-◌, ◌/◌, ◌<◌, Bool, true, false, not, ◌&&◌, Option, Some, None}
use Rattle.kc_extra.specs.Further.{is_empty}
use Rattle.kc_serial.specs.Frames.{bit_length, frame_level, is_over}
use Rattle.kc_serial.specs.Samples.{completes}
use Rattle.kc_serial.specs.Port.{txd_edges}
use Rattle.kc_serial.specs.Spans.{older_sending, older_reception}
use Rattle.kc_serial.specs.declared.receiving.Reception.{Reception}
use Rattle.kc_serial.specs.declared.sending.Sending.{Sending}
use Rattle.kc_serial.specs.declared.sending.Sending.TheVariants.{Idle, Next, Busy}

-- TXD keeps its level into level k of a frame
abbrev pub keeps_level : ℕ → ℕ → Bool
keeps_level byte k = is_empty (txd_edges (frame_level byte (k - 1)) (frame_level byte k))

-- no frame begins or ends, and TXD has no edge
abbrev pub is_quiet_sending : Sending → Bool
is_quiet_sending Idle = true
is_quiet_sending (Next byte) = false
is_quiet_sending (Busy frame) =
    not (is_over frame)
    && is_empty (txd_edges (frame_level frame.byte (frame.age / bit_length frame.rate)) (frame_level frame.byte ((frame.age + 1) / bit_length frame.rate)))

-- exactly so many quiet states come first; without a number all that come
abbrev pub Before : (ℕ → Bool) → Option ℕ → Type 0
Before quiet None = (k : ℕ) → quiet k ≡ true
Before quiet (Some n) = ((k : ℕ) → k < n → quiet k ≡ true) × (quiet n ≡ false)

abbrev pub SendingBefore : Sending → Option ℕ → Type 0
SendingBefore sending left = Before (λ k. is_quiet_sending (older_sending k sending)) left

abbrev pub ReceptionBefore : Bool → Option Reception → Option ℕ → Type 0
ReceptionBefore high reception left = Before (λ k. not (completes (older_reception high k reception))) left
