-- A shift is as many shifts by one place, and so is normalizing, up to the first with its top bit at 1
-- (80C196KC User's Manual, "Program Status Word" and "Instruction Set").
use Rattle.std.specs.Prelude.{◌≡◌, ℕ, true, false, ◌*◌, ◌^◌, ◌<◌, ◌≤◌, ◌==◌, ◌⊎◌}
use Rattle.kc_alu.specs.declared.flags.Flags.{Flags}
use Rattle.kc_alu.specs.declared.flags.Shift.{Shift}
use Rattle.kc_alu.specs.declared.flags.Shift.TheVariants.{Left}
use Rattle.kc_alu.specs.Width.{IsWidth, half_of}
use Rattle.kc_alu.specs.Shifts.{shifted, shifted_flags, normal_shifts, normal_result, normal_flags}
use Rattle.kc_alu.specs.Places.{by_places, flags_by_places, top_bit}

-- each kind, width, value and number of places, whatever the flags
abbrev pub ShiftsGoByPlaces : Type 0
ShiftsGoByPlaces = (kind : Shift) (width value count : ℕ) (flags : Flags) → IsWidth width → value < 2 * half_of width →
    (shifted kind (half_of width) value (2 ^ count) ≡ (by_places kind (half_of width) value count).value)
    × (shifted_flags kind (half_of width) value (2 ^ count) flags
    ≡ flags_by_places kind (half_of width) (by_places kind (half_of width) value count) flags)

-- a value of 32 bits after so many places to the left
abbrev pub to_the_left_by : ℕ → ℕ → ℕ
to_the_left_by value count = (by_places Left (half_of 32) value count).value

-- so many places are those of normalizing: the top bit is 0 before each of them, and 1 after all, or there are 31
pub record AreNormal (value count : ℕ) : Type 0 where
  pub few : count ≤ 31
  pub before : (k : ℕ) → k < count → top_bit (half_of 32) (to_the_left_by value k) ≡ false
  pub after : (top_bit (half_of 32) (to_the_left_by value count) ≡ true) ⊎ (count ≡ 31)

-- Z and N are by the result, C is 0, and the others are kept
abbrev pub flags_of_normal : ℕ → Flags → Flags
flags_of_normal result flags =
    record { z = result == 0; n = top_bit (half_of 32) result; v = flags.v; vt = flags.vt; c = false; st = flags.st }

abbrev pub NormalizingGoesByPlaces : Type 0
NormalizingGoesByPlaces = (value : ℕ) (flags : Flags) → value < 2 * half_of 32 →
    AreNormal value (normal_shifts value)
    × (normal_result value ≡ to_the_left_by value (normal_shifts value))
    × (normal_flags value flags ≡ flags_of_normal (to_the_left_by value (normal_shifts value)) flags)

-- no other number of places is that of normalizing
abbrev pub NormalizingIsOne : Type 0
NormalizingIsOne = (value count : ℕ) → value < 2 * half_of 32 → AreNormal value count → count ≡ normal_shifts value
