-- The serial port after a span in which RXD has no edge, and the state in which it is due, by arithmetic (this kit's own).
use Rattle.std.specs.Prelude.{◌≡◌, ℕ, ◌+◌, ◌-◌, ◌/◌, ◌*◌, ◌^◌, ◌≤◌, max, Bool, false, ◌&&◌, nat_le, nat_lt, if◌then◌else◌, Option, Some, None}
use Rattle.kc_serial.specs.Frames.{bit_length}
use Rattle.kc_serial.specs.Samples.{half_bit}
use Rattle.kc_serial.specs.declared.receiving.Reception.{Reception}
use Rattle.kc_serial.specs.declared.sending.Sending.{Sending}
use Rattle.kc_serial.specs.declared.sending.Sending.TheVariants.{Idle, Next, Busy}
use Rattle.kc_serial.specs.declared.serial.Serial.{Serial}

abbrev pub older_sending : ℕ → Sending → Sending
older_sending n Idle = Idle
older_sending n (Next byte) = Next byte
older_sending n (Busy frame) = Busy (record frame { age = frame.age + n })

-- how many bits a reception has taken up to an age, its start bit not among them
abbrev pub bits_by : ℕ → ℕ → ℕ
bits_by rate age = (age + half_bit rate) / bit_length rate - 1

-- as many equal samples, one after the other
abbrev pub shifted_by : Bool → ℕ → ℕ → ℕ
shifted_by high count register = register / 2 ^ count + (if high then 256 - 256 / 2 ^ count else 0)

-- the start bit is sampled within the next states
abbrev pub starts_within : ℕ → Reception → Bool
starts_within n r = nat_lt r.age (half_bit r.rate) && nat_le (half_bit r.rate) (r.age + n)

abbrev pub older_reception : Bool → ℕ → Option Reception → Option Reception
older_reception high n None = None
older_reception high n (Some r) =
    if high && starts_within n r then None
    else Some (record {
      rate = r.rate;
      age = r.age + n;
      register = shifted_by high (bits_by r.rate (r.age + n) - bits_by r.rate r.age) r.register;
    })

-- after so many quiet states
abbrev pub older : ℕ → Serial → Serial
older n d = record d { sending = older_sending n d.sending; reception = older_reception d.rxd n d.reception }

-- no frame gets older than ten bits by it
abbrev pub SendingFits : ℕ → Sending → Type 0
SendingFits n Idle = Unit {0}
SendingFits n (Next byte) = Unit {0}
SendingFits n (Busy frame) = frame.age + n ≤ max frame.age (10 * bit_length frame.rate)

-- no reception that goes on gets older than ten bits by it, or takes more bits than a byte has
abbrev pub ReceptionFits : Bool → ℕ → Option Reception → Type 0
ReceptionFits high n None = Unit {0}
ReceptionFits high n (Some r) = (high && starts_within n r) ≡ false →
    (r.age + n ≤ max r.age (10 * bit_length r.rate)) × (bits_by r.rate (r.age + n) - bits_by r.rate r.age ≤ 8)
