-- The registers of the serial port, all in window 0 (80C196KC User's Manual, "Serial Port"; that the rate takes its low byte
-- first is the manual's, what a port that is off does with a byte is this kit's own).
use Rattle.std.specs.Prelude.{ℕ, ◌+◌, ◌*◌, ◌/◌, ◌==◌, Bool, false, ◌&&◌, ◌||◌, is_none, if◌then◌else◌, Option, Some, None}
use Rattle.kc_base.specs.Bits.{weight}
use Rattle.kc_serial.specs.Port.{is_on, receives}
use Rattle.kc_serial.specs.declared.sending.Sending.{Sending}
use Rattle.kc_serial.specs.declared.sending.Sending.TheVariants.{Idle, Next, Busy}
use Rattle.kc_serial.specs.declared.serial.Serial.{Serial}

-- SBUF, the baud rate register, SP_CON and SP_STAT
abbrev pub sbuf : ℕ
sbuf = 0x07

abbrev pub baud_rate : ℕ
baud_rate = 0x0E

abbrev pub sp_con : ℕ
sp_con = 0x11

abbrev pub is_readable : ℕ → ℕ → Bool
is_readable window sfr = (window == 0) && ((sfr == sbuf) || (sfr == sp_con))

abbrev pub is_writable : ℕ → ℕ → Bool
is_writable window sfr = (window == 0) && ((sfr == sbuf) || ((sfr == baud_rate) || (sfr == sp_con)))

-- SP_STAT: RI, TI, FE, no byte waits, OE
abbrev pub status : Serial → ℕ
status d =
    weight d.flags.received 64 + weight d.flags.sent 32 + weight d.flags.framing 16
    + weight (is_none d.waiting) 8 + weight d.flags.overrun 4

abbrev pub answer_value : ℕ → Serial → ℕ
answer_value sfr d = if sfr == sbuf then d.received else status d

abbrev pub answer : ℕ → ℕ → Serial → Option ℕ
answer window sfr d = if is_readable window sfr then Some (answer_value sfr d) else None

-- a read of SP_STAT clears its flags
abbrev pub after_read : ℕ → ℕ → Serial → Serial
after_read window sfr d =
    if is_readable window sfr && (sfr == sp_con)
    then record d { flags = record { received = false; sent = false; framing = false; overrun = false } }
    else d

-- a byte to be sent begins in the next state, or waits in place of any that waited; a port that is off loses it
abbrev pub queued : ℕ → Sending → Serial → Serial
queued byte Idle d = record d { sending = Next byte }
queued byte (Next other) d = record d { waiting = Some byte }
queued byte (Busy frame) d = record d { waiting = Some byte }

abbrev pub with_byte : ℕ → Serial → Serial
with_byte byte d = if is_on d.control then queued byte d.sending d else d

-- a port that is turned off loses the byte that waits; one that may not receive ends its reception
abbrev pub with_control : ℕ → Serial → Serial
with_control value d = record d {
  control = value;
  waiting = if is_on value then d.waiting else None;
  reception = if receives value then d.reception else None;
}

-- the low byte of the rate comes first
abbrev pub with_rate : ℕ → Serial → Serial
with_rate value d = record d { rate = d.rate / 256 + 256 * value }

abbrev pub after_write : ℕ → ℕ → ℕ → Serial → Serial
after_write window sfr value d =
    if is_writable window sfr
    then (if sfr == sbuf then with_byte value d else (if sfr == baud_rate then with_rate value d else with_control value d))
    else d
