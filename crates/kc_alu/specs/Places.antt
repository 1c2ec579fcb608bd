-- Shifting by one place, and by single places one after the other
-- (80C196KC User's Manual, "Program Status Word" and "Instruction Set").
use Rattle.std.specs.Prelude.{ℕ, zero, suc, Bool, true, false, not, ◌+◌, ◌-◌, ◌*◌, ◌/◌, ◌%◌, ◌==◌, nat_le, ◌||◌, if◌then◌else◌}
use Rattle.kc_alu.specs.declared.flags.Flags.{Flags}
use Rattle.kc_alu.specs.declared.flags.Shift.{Shift}
use Rattle.kc_alu.specs.declared.flags.Shift.TheVariants.{Left, Right, Signed}

abbrev pub top_bit : ℕ → ℕ → Bool
top_bit half value = nat_le half value

abbrev pub lowest_bit : ℕ → Bool
lowest_bit value = value % 2 == 1

-- the top bit goes out
abbrev pub to_the_left : ℕ → ℕ → ℕ
to_the_left half value = if top_bit half value then 2 * (value - half) else 2 * value

-- the lowest bit goes out; with sign the top bit stays as it is, too
abbrev pub to_the_right : ℕ → Bool → ℕ → ℕ
to_the_right half top value = if top then value / 2 + half else value / 2

abbrev pub one_place : Shift → ℕ → ℕ → ℕ
one_place Left half value = to_the_left half value
one_place Right half value = to_the_right half false value
one_place Signed half value = to_the_right half (top_bit half value) value

abbrev pub bit_out : Shift → ℕ → ℕ → Bool
bit_out Left half value = top_bit half value
bit_out Right half value = lowest_bit value
bit_out Signed half value = lowest_bit value

abbrev pub is_other : Bool → Bool → Bool
is_other true b = not b
is_other false b = b

-- where a value has come by single places: which bit went out last, whether a 1 went out before that one, and
-- whether any place changed the top bit
pub record Passage : Type 0 where
  pub value : ℕ
  pub last : Bool
  pub before : Bool
  pub turned : Bool

-- no bit is out yet
abbrev pub at_start : ℕ → Passage
at_start value = record { value = value; last = false; before = false; turned = false }

abbrev pub a_place_on : Shift → ℕ → Passage → Passage
a_place_on kind half p = record {
  value = one_place kind half p.value;
  last = bit_out kind half p.value;
  before = p.before || p.last;
  turned = p.turned || is_other (top_bit half p.value) (top_bit half (one_place kind half p.value));
}

unfoldable pub by_places : Shift → ℕ → ℕ → ℕ → Passage
by_places kind half value zero = at_start value
by_places kind half value (suc n) = a_place_on kind half (by_places kind half value n)

-- Z and N by the value, C the last bit out; to the left V shows a changed top bit, to the right ST a 1 before the last
abbrev pub flags_by_places : Shift → ℕ → Passage → Flags → Flags
flags_by_places Left half p flags =
    record { z = p.value == 0; n = top_bit half p.value; v = p.turned; vt = flags.vt || p.turned; c = p.last; st = flags.st }
flags_by_places Right half p flags = record { z = p.value == 0; n = top_bit half p.value; v = false; vt = flags.vt; c = p.last; st = p.before }
flags_by_places Signed half p flags = record { z = p.value == 0; n = top_bit half p.value; v = false; vt = flags.vt; c = p.last; st = p.before }
