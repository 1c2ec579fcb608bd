-- Numbers as authors of firmware write them: those of the assembler in decimal and in hexadecimal digits (MCS-96 Macro Assembler
-- User's Guide, "Constants"; its binary and octal numbers are not read here).
use Rattle.std.specs.Prelude.{ℕ, ◌-◌, ◌==◌, Bool, false, ◌&&◌, ◌||◌, if◌then◌else◌, Option, None, List, [], ◌∷◌, length, take, slice_index}
use Rattle.std.specs.Option.{option_or}
use Rattle.kc_base.specs.Digits.{digits_from, up_to}
use Rattle.kc_base.specs.Fields.{decimal_of}
use Rattle.kc_base.specs.TextLines.{begins_with}
use Rattle.kc_debug_script.specs.Fields.{number_of}
use Rattle.kc_obj_module.specs.Names.{is_digit}

abbrev pub begins_with_digit : List ℕ → Bool
begins_with_digit [] = false
begins_with_digit (c ∷ cs) = is_digit c

-- the last character is H (72) or h (104)
abbrev pub ends_with_h : List ℕ → Bool
ends_with_h text = (slice_index text (length text - 1) == 72) || (slice_index text (length text - 1) == 104)

-- hexadecimal digits, the first of them decimal, and H behind them, as `0D00H`: a number up to a limit
abbrev pub hex_value_of : ℕ → List ℕ → Option ℕ
hex_value_of most text =
    if begins_with_digit text && ends_with_h text then up_to most (digits_from 16 0 (take (length text - 1) text)) else None

-- decimal digits, or such a number, up to a limit
abbrev pub value_of : ℕ → List ℕ → Option ℕ
value_of most text = option_or (decimal_of most text) (hex_value_of most text)

-- a number from 1 to a limit, in decimal digits without a 0 (48) in front
abbrev pub count_of : ℕ → List ℕ → Option ℕ
count_of most text = if begins_with 48 text then None else number_of most text
