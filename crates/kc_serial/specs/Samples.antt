-- The samples of a reception (80C196KC User's Manual, "Serial Port"; that each bit has one sample, half a bit after its
-- start, is this kit's own).
use Rattle.std.specs.Prelude.{ℕ, ◌+◌, ◌*◌, ◌/◌, ◌%◌, ◌==◌, Bool, false, nat_le, nat_lt, if◌then◌else◌, Option, Some, None}
use Rattle.kc_serial.specs.Frames.{bit_length}
use Rattle.kc_serial.specs.declared.receiving.Reception.{Reception}

abbrev pub half_bit : ℕ → ℕ
half_bit rate = bit_length rate / 2

-- sample k of ten comes half a bit and k bits after the edge: the first is the start bit, the last the stop bit
abbrev pub is_sample : ℕ → ℕ → Bool
is_sample rate age = age % bit_length rate == half_bit rate

-- a sample enters the shift register from above
abbrev pub shifted : Bool → ℕ → ℕ
shifted high register = register / 2 + (if high then 128 else 0)

-- a high start bit drops the reception
abbrev pub with_sample : Bool → Reception → Option Reception
with_sample high r =
    if nat_lt r.age (bit_length r.rate) then (if high then None else Some r)
    else Some (record r { register = shifted high r.register })

-- the last sample ends it
abbrev pub is_complete : Reception → Bool
is_complete r = nat_le (9 * bit_length r.rate + half_bit r.rate) (r.age + 1)

abbrev pub completes : Option Reception → Bool
completes None = false
completes (Some r) = is_complete r

abbrev pub sampled : Bool → Reception → Option Reception
sampled high r = if is_sample r.rate r.age then with_sample high r else Some r

-- one state on, at this level of RXD; where none is under way an edge begins one
abbrev pub reception_after : ℕ → Bool → Bool → Option Reception → Option Reception
reception_after rate high begins None = if begins then Some (record { rate = rate; age = 0; register = 0 }) else None
reception_after rate high begins (Some r) = if is_complete r then None else sampled high (record r { age = r.age + 1 })

-- the byte of a completed reception is the last one received
abbrev pub received_after : ℕ → Option Reception → ℕ
received_after received None = received
received_after received (Some r) = if is_complete r then r.register else received
