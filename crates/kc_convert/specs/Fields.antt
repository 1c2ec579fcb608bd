-- The fields of a line of an analogue file (this kit's own).
use Rattle.std.specs.Prelude.{ℕ, ◌-◌, nat_le, if◌then◌else◌, ◌&&◌, Option, Some, None, List, [], ◌∷◌}
use Rattle.kc_base.specs.Fields.{decimal_of}

-- one digit, 0 to 7
abbrev pub channel_of : List ℕ → Option ℕ
channel_of [] = None
channel_of (c ∷ []) = if nat_le 48 c && nat_le c 55 then Some (c - 48) else None
channel_of (c ∷ (d ∷ ds)) = None

-- a value of ten bits
abbrev pub value_of : List ℕ → Option ℕ
value_of text = decimal_of 1023 text
