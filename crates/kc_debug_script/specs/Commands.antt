-- What a line of a debugger script asks for (this kit's own).
use Rattle.std.specs.Prelude.{ℕ, ◌≤◌, ◌==◌, nat_lt, nat_le, not, if◌then◌else◌, Bool, true, ◌&&◌, ◌||◌, ◌≡◌, Option, Some, None, List, [], ◌∷◌}
use Rattle.std.specs.Option.{option_map}
use Rattle.std.specs.List.{before_first, after_first}
use Rattle.kc_base.specs.Limits.{max_states, hole_start, image_start}
use Rattle.kc_base.specs.Fields.{is_space, word_of, byte_of}
use Rattle.kc_debug_script.specs.declared.command.Command.{Command}
use Rattle.kc_debug_script.specs.declared.command.Command.TheVariants.{Step, Go, Break, Registers, Show, Write, History, Quit}
use Rattle.kc_debug_script.specs.Fields.{if_is, number_of}

-- memory that a script may write: from 0018H on, without 1FFEH and 1FFFH
abbrev pub is_writable : ℕ → Bool
is_writable addr = nat_le 0x18 addr && not (nat_le hole_start addr && nat_lt addr image_start)

-- an address and a number of bytes, 256 at most
abbrev pub shown : Option ℕ → Option ℕ → Option Command
shown None count = None
shown (Some from) None = None
shown (Some from) (Some count) = Some (Show from count)

-- an address that may be written, and a byte
abbrev pub written : Option ℕ → Option ℕ → Option Command
written None value = None
written (Some addr) None = None
written (Some addr) (Some value) = Some (Write addr value)

-- a letter alone: `l` (108), `q` (113) or `r` (114)
abbrev pub letter_alone : ℕ → Option Command
letter_alone c =
    if c == 108 then Some History
    else if c == 113 then Some Quit
    else if c == 114 then Some Registers
    else None

-- what stands behind a letter and a space: `b A` (98), `g N` (103), `m A N` (109), `s N` (115) or `w A V` (119)
abbrev pub letter_with : ℕ → List ℕ → Option Command
letter_with c fields =
    if c == 98 then option_map Break (word_of fields)
    else if c == 103 then option_map Go (number_of max_states fields)
    else if c == 109 then shown (word_of (before_first is_space fields)) (number_of 256 (after_first is_space fields))
    else if c == 115 then option_map Step (number_of 1000000 fields)
    else if c == 119 then written (if_is is_writable (word_of (before_first is_space fields))) (byte_of (after_first is_space fields))
    else None

-- the command of a line, if it is one
abbrev pub command_of : List ℕ → Option Command
command_of [] = None
command_of (c ∷ []) = letter_alone c
command_of (c ∷ d ∷ fields) = if is_space d then letter_with c fields else None

-- what a command asks for is within its bounds
abbrev pub IsBounded : Command → Type 0
IsBounded (Step count) = (1 ≤ count) × (count ≤ 1000000)
IsBounded (Go until) = (1 ≤ until) × (until ≤ max_states)
IsBounded (Show from count) = (1 ≤ count) × (count ≤ 256)
IsBounded (Write addr value) = is_writable addr ≡ true
IsBounded _ = Unit {0}
