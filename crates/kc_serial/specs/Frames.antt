-- Bits and frames on the line (80C196KC User's Manual, "Serial Port", asynchronous mode with eight bits; that the low
-- fifteen bits of the rate give the length, and that a frame keeps the length of its start, are this kit's own).
use Rattle.std.specs.Prelude.{ℕ, ◌+◌, ◌-◌, ◌*◌, ◌/◌, ◌%◌, ◌==◌, Bool, true, false, nat_le, nat_lt, if◌then◌else◌, Option, Some, None}
use Rattle.kc_base.specs.Bits.{bit}
use Rattle.kc_serial.specs.declared.sending.Frame.{Frame}
use Rattle.kc_serial.specs.declared.sending.Sending.{Sending}
use Rattle.kc_serial.specs.declared.sending.Sending.TheVariants.{Idle, Next, Busy}

-- how many states a bit lasts
abbrev pub bit_length : ℕ → ℕ
bit_length rate = 8 * (rate % 32768 + 1)

-- level k of the ten levels of a frame: 0, the bits of the byte from the lowest on, 1
abbrev pub frame_level : ℕ → ℕ → Bool
frame_level byte k = if k == 0 then false else if nat_lt k 9 then bit byte (k - 1) else true

-- the level of TXD: a frame shows each of its levels for the length of a bit, else it is 1
abbrev pub shown : Sending → Bool
shown Idle = true
shown (Next byte) = true
shown (Busy frame) = frame_level frame.byte (frame.age / bit_length frame.rate)

-- a frame ends in the state in which it is ten bits old
abbrev pub is_over : Frame → Bool
is_over frame = nat_le (10 * bit_length frame.rate) (frame.age + 1)

abbrev pub ends : Sending → Bool
ends Idle = false
ends (Next byte) = false
ends (Busy frame) = is_over frame

-- a frame in the state in which it begins
abbrev pub begun : ℕ → ℕ → Sending
begun rate byte = Busy (record { byte = byte; rate = rate; age = 0 })

-- a byte that waits begins its frame
abbrev pub begun_of : ℕ → Option ℕ → Sending
begun_of rate None = Idle
begun_of rate (Some byte) = begun rate byte

-- one state on, at this rate and with this byte that waits
abbrev pub sending_after : ℕ → Option ℕ → Sending → Sending
sending_after rate waiting Idle = Idle
sending_after rate waiting (Next byte) = begun rate byte
sending_after rate waiting (Busy frame) = if is_over frame then begun_of rate waiting else Busy (record frame { age = frame.age + 1 })

abbrev pub waiting_after : Option ℕ → Sending → Option ℕ
waiting_after waiting sending = if ends sending then None else waiting
