-- Addresses as authors write them (this kit's own).
use Rattle.std.specs.Prelude.{ℕ, ◌+◌, ◌-◌, ◌^◌, ◌==◌, Bool, nat_lt, if◌then◌else◌, Option, Some, None, List, [], ◌∷◌}
use Rattle.std.specs.List.{before_first, after_first}
use Rattle.std.specs.Option.{option_and_then, option_or}
use Rattle.std.specs.Str.{bytes_eq}
use Rattle.kc_base.specs.Fields.{decimal_of, word_of}
use Rattle.kc_debug_script.specs.LineMap.{address_of}
use Rattle.kc_debug_script.specs.declared.line_map.MapEntry.{MapEntry}
use Rattle.kc_addresses.specs.declared.names.Name.{Name}
use Rattle.kc_addresses.specs.declared.places.Known.{Known}
use Rattle.kc_addresses.specs.Names.{value_of_name}
use Rattle.kc_addresses.specs.Numbers.{count_of, hex_value_of}

-- what names mean: the names of a map, the lines of sources, and the program counter
pub record Meaning : Type 0 where
  pub names : List Name
  pub lines : List MapEntry
  pub pc : ℕ

abbrev pub known_of : Known → Meaning
known_of k = record { names = k.names.now; lines = k.lines.now; pc = k.pc }

abbrev pub is_colon : ℕ → Bool
is_colon c = c == 58

abbrev pub is_plus : ℕ → Bool
is_plus c = c == 43

-- `MODULE:LINE`, with the letters of the module in either case: the first address of the line
abbrev pub line_place_of : List MapEntry → List ℕ → Option ℕ
line_place_of lines text = option_and_then (address_of lines (before_first is_colon text)) (count_of (2 ^ 32 - 1) (after_first is_colon text))

-- `.` (46), four hex digits, a hexadecimal number of the assembler, or a public name; the first of these that it is
abbrev pub base_of : Meaning → List ℕ → Option ℕ
base_of k text =
    if bytes_eq text (46 ∷ []) then Some k.pc
    else option_or (word_of text) (option_or (hex_value_of 0xFFFF text) (value_of_name k.names text))

-- an address and a decimal number, where their sum is an address
abbrev pub sum_of : ℕ → List ℕ → Option ℕ
sum_of addr more = option_and_then (λ n. if nat_lt (addr + n) (2 ^ 16) then Some (addr + n) else None) (decimal_of 0xFFFF more)

-- one of these with `+N` behind it
abbrev pub raised_of : Meaning → List ℕ → Option ℕ
raised_of k text = option_and_then (λ addr. sum_of addr (after_first is_plus text)) (base_of k (before_first is_plus text))

abbrev pub place_of : Meaning → List ℕ → Option ℕ
place_of k text = option_or (base_of k text) (option_or (raised_of k text) (line_place_of k.lines text))
