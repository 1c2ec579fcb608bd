-- Which record a line can be at all: if it is the line of a record, then of this one. Whether it is, spelling the record reports.
use Rattle.std.specs.Prelude.{ℕ, ◌-◌, ◌==◌, nat_lt, if◌then◌else◌, Bool, false, Option, Some, None, Result, Ok, Err, List, [], ◌∷◌}
use Rattle.std.specs.Option.{option_map}
use Rattle.hex.specs.declared.error.FromHexError.{FromHexError}
use Rattle.hex.specs.Hex.{decode_sized}
use Rattle.kc_base.specs.declared.types.Kind.{Kind}
use Rattle.kc_base.specs.declared.types.Kind.TheVariants as kind
use Rattle.kc_base.specs.declared.types.Level.{Level}
use Rattle.kc_base.specs.declared.types.Level.TheVariants.{Low, High}
use Rattle.kc_base.specs.declared.types.PtsMode.{PtsMode}
use Rattle.kc_base.specs.declared.types.PtsMode.TheVariants as mode
use Rattle.kc_base.specs.Limits.{entry_count, transfer_count}
use Rattle.kc_base.specs.Fields.{decimal_of, time_of, first_of, rest_of, word_of, byte_of, pin_of}
use Rattle.kc_trace.specs.declared.record.Record.{Record}
use Rattle.kc_trace.specs.declared.record.Record.TheVariants.{Pin, Entered, Served, Undef, Stopped, Pc, Psw, Wsr, Registers}

-- ---- fields

abbrev pub byte_number : List ℕ → Option ℕ
byte_number text = decimal_of 255 text

-- a request that may be entered, and one that the transfer server may serve
abbrev pub entry_number : List ℕ → Option ℕ
entry_number text = decimal_of (entry_count - 1) text

abbrev pub transfer_number : List ℕ → Option ℕ
transfer_number text = decimal_of (transfer_count - 1) text

abbrev pub level_of : List ℕ → Level
level_of [] = Low
level_of (c ∷ cs) = if c == 49 then High else Low

abbrev pub mode_of : List ℕ → PtsMode
mode_of (a ∷ b ∷ c ∷ []) = if c == 111 then mode.Hso else mode.Hsi
mode_of (a ∷ b ∷ c ∷ d ∷ []) = mode.Scan
mode_of (a ∷ b ∷ c ∷ d ∷ e ∷ []) = mode.Block
mode_of _ = mode.Single

abbrev pub end_of : List ℕ → ℕ
end_of [] = 3
end_of (c ∷ cs) = if c == 115 then 0 else if c == 112 then 1 else if c == 114 then 2 else 3

abbrev pub kind_of : ℕ → Kind
kind_of n =
    if n == 1 then kind.OddWord
    else if n == 2 then kind.LongAlign
    else if n == 3 then kind.Opcode
    else if n == 4 then kind.HoldingFull
    else if n == 5 then kind.FastTimer2
    else if n == 6 then kind.Channel
    else if n == 7 then kind.NoRegister
    else if n == 8 then kind.BadWindow
    else if n == 9 then kind.BadPts
    else if n == 10 then kind.DivZero
    else if n == 11 then kind.RomWrite
    else if n == 12 then kind.OutsideMap
    else if n == 13 then kind.ByteAccess
    else kind.IdleKey

abbrev pub small : Option ℕ → Option ℕ
small None = None
small (Some n) = if nat_lt n 0x1000 then Some n else None

-- three digits, read with a 0 in front
abbrev pub base_of : List ℕ → Option ℕ
base_of (a ∷ b ∷ c ∷ []) = small (word_of (48 ∷ a ∷ b ∷ c ∷ []))
base_of _ = None

-- ---- lines: a word, and what stands behind the space after it

abbrev pub pin_with : Option ℕ → Option ℕ → Level → Option Record
pin_with None pin level = None
pin_with (Some at) None level = None
pin_with (Some at) (Some pin) level = Some (Pin at (record { pin = record { 0 = pin }; level = level }))

abbrev pub pin_record : List ℕ → Option Record
pin_record text = pin_with (time_of (first_of text)) (pin_of (first_of (rest_of text))) (level_of (rest_of (rest_of text)))

abbrev pub entered_with : Option ℕ → Option ℕ → Option ℕ → Option Record
entered_with None vector back = None
entered_with (Some at) None back = None
entered_with (Some at) (Some vector) None = None
entered_with (Some at) (Some vector) (Some back) = Some (Entered at vector back)

abbrev pub entered_record : List ℕ → Option Record
entered_record text = entered_with (time_of (first_of text)) (entry_number (first_of (rest_of text))) (word_of (rest_of (rest_of text)))

abbrev pub served_with : Option ℕ → Option ℕ → PtsMode → Option ℕ → Option Record
served_with None vector how count = None
served_with (Some at) None how count = None
served_with (Some at) (Some vector) how None = None
served_with (Some at) (Some vector) how (Some count) = Some (Served at vector how count)

abbrev pub served_record : List ℕ → Option Record
served_record text =
    served_with (time_of (first_of text)) (transfer_number (first_of (rest_of text)))
    (mode_of (first_of (rest_of (rest_of text)))) (byte_number (rest_of (rest_of (rest_of text))))

abbrev pub undefined_with : Option ℕ → Option ℕ → Option ℕ → Option Record
undefined_with None number addr = None
undefined_with (Some at) None addr = None
undefined_with (Some at) (Some number) None = None
undefined_with (Some at) (Some number) (Some addr) = Some (Undef (record { kind = kind_of number; at = at; addr = addr }))

abbrev pub undefined_record : List ℕ → Option Record
undefined_record text = undefined_with (time_of (first_of text)) (byte_number (first_of (rest_of text))) (word_of (rest_of (rest_of text)))

abbrev pub stopped_with : Option ℕ → ℕ → Option Record
stopped_with None how = None
stopped_with (Some at) how = Some (Stopped at how)

abbrev pub stopped_record : List ℕ → Option Record
stopped_record text = stopped_with (time_of (first_of text)) (end_of (rest_of text))

abbrev pub registers_in : Option ℕ → Result (List ℕ) FromHexError → Option Record
registers_in None bytes = None
registers_in (Some base) (Ok bytes) = Some (Registers base bytes)
registers_in (Some base) (Err fault) = None

abbrev pub registers_record : List ℕ → Option Record
registers_record text = registers_in (base_of (first_of text)) (decode_sized (rest_of text) 32)

-- behind a letter: `P` (80), `I` (73), `S` (83), `U` (85), `X` (88) or `R` (82)
abbrev pub letter_record : ℕ → List ℕ → Option Record
letter_record c rest =
    if c == 80 then pin_record rest
    else if c == 73 then entered_record rest
    else if c == 83 then served_record rest
    else if c == 85 then undefined_record rest
    else if c == 88 then stopped_record rest
    else registers_record rest

-- the end of a life: its last state, and whether the watchdog has reset the chip
abbrev pub restart_with : Option ℕ → List ℕ → Option (ℕ × Bool)
restart_with None name = None
restart_with (Some at) [] = Some (at, false)
restart_with (Some at) (c ∷ cs) = Some (at, c == 119)

abbrev pub restart_of : List ℕ → Option (ℕ × Bool)
restart_of text = restart_with (time_of (first_of (rest_of text))) (rest_of (rest_of text))

-- behind a word of one, two (PC) or three letters (PSW, WSR)
abbrev pub record_by_word : List ℕ → List ℕ → Option Record
record_by_word (c ∷ []) rest = letter_record c rest
record_by_word (c ∷ d ∷ []) rest = option_map Pc (word_of rest)
record_by_word (c ∷ d ∷ e ∷ []) rest = if c == 80 then option_map Psw (word_of rest) else option_map Wsr (byte_of rest)
record_by_word _ rest = None

abbrev pub candidate_of : List ℕ → Option Record
candidate_of line = record_by_word (first_of line) (rest_of line)
