-- Which codes there are, and how they are spelled (this kit's own).
use Rattle.std.specs.Prelude.{ℕ, ◌+◌, ◌/◌, ◌%◌, List, [], ◌∷◌, ◌++◌, Option, Some, None, codes, map, nat_lt, if◌then◌else◌}
use Rattle.std.specs.List.{range_with_len}
use Rattle.kc_base.specs.declared.types.Kind.{Kind}
use Rattle.kc_base.specs.Limits.{entry_count}
use Rattle.kc_isa.specs.Names.{name_of}
use Rattle.kc_kit_messages.specs.Mnemonics.{all_mnemonics}
use Rattle.kc_trace.specs.Text.{kind_number}
use Rattle.kc_stim.specs.declared.fault.StimFault.{StimFault}
use Rattle.kc_stim.specs.Faults.{place_of}
use Rattle.kc_link_place.specs.declared.ranges.LinkFault.{LinkFault}
use Rattle.kc_link_place.specs.declared.ranges.LinkFault.TheVariants as link
use Rattle.kc_kit_files.specs.declared.status.Status.{Status}
use Rattle.kc_kit_files.specs.declared.status.Status.TheVariants as status

-- a letter and a number of two digits
abbrev pub lettered : List ℕ → ℕ → List ℕ
lettered letter n = letter ++ (48 + n / 10) ∷ (48 + n % 10) ∷ []

-- a number below 100
abbrev pub short_number : ℕ → List ℕ
short_number n = if nat_lt n 10 then (48 + n) ∷ [] else (48 + n / 10) ∷ (48 + n % 10) ∷ []

-- a word and a number
abbrev pub numbered : List ℕ → ℕ → List ℕ
numbered word n = word ++ short_number n

abbrev pub kind_code : Kind → List ℕ
kind_code kind = numbered (codes "kind") (kind_number kind)

abbrev pub status_number : Status → ℕ
status_number status.Done = 0
status_number status.Usage = 1
status_number status.Missing = 2
status_number status.Source = 3
status_number status.Input = 4
status_number status.Link = 5
status_number status.Undefined = 6
status_number status.ReadFault = 7
status_number status.WriteFault = 8
status_number status.NoMemory = 9
status_number status.Broken = 10

abbrev pub status_code : Status → List ℕ
status_code given = numbered (codes "status") (status_number given)

abbrev pub code_at : Option (ℕ × List ℕ) → List ℕ
code_at (Some place) = place.1
code_at None = status_code status.NoMemory

abbrev pub stimulus_code : StimFault → List ℕ
stimulus_code fault = code_at (place_of fault)

abbrev pub rule_code : LinkFault → List ℕ
rule_code (link.Unresolved name) = codes "unresolved"
rule_code (link.OverlapName name) = codes "duplicate"
rule_code (link.OverlapPlace at) = codes "overlap"
rule_code (link.Capacity kind number) = codes "capacity"
rule_code (link.Range number piece offset) = codes "range"
rule_code link.NoMemory = status_code status.NoMemory

-- ---- all codes

-- a letter with the numbers from 1 on
abbrev pub lettered_to : List ℕ → ℕ → List (List ℕ)
lettered_to letter count = map (lettered letter) (range_with_len 1 count)

abbrev pub source_codes : List (List ℕ)
source_codes = lettered_to (codes "E") 24

abbrev pub input_codes : List (List ℕ)
input_codes =
    lettered_to (codes "O") 6 ++ lettered_to (codes "B") 6 ++ lettered_to (codes "H") 6
    ++ codes "LONG" ∷ codes "BADLINE" ∷ codes "WIRED" ∷ codes "FALLING" ∷ codes "TWICE" ∷ codes "TOOMANY"
    ∷ codes "BADANALOG" ∷ codes "BADCOMMAND" ∷ codes "BADMAP" ∷ codes "BADTRACE" ∷ codes "BADRULE" ∷ codes "BADNAMES" ∷ codes "BADNOTE" ∷ []

abbrev pub rule_codes : List (List ℕ)
rule_codes = codes "unresolved" ∷ codes "duplicate" ∷ codes "overlap" ∷ codes "capacity" ∷ codes "range" ∷ []

abbrev pub run_codes : List (List ℕ)
run_codes =
    rule_codes ++ map (numbered (codes "kind")) (range_with_len 1 14)
    ++ map (numbered (codes "request")) (range_with_len 0 entry_count) ++ map (numbered (codes "status")) (range_with_len 0 11)

-- an instruction by its name
unfoldable pub instruction_codes : List (List ℕ)
instruction_codes = map name_of all_mnemonics

unfoldable pub all_codes : List (List ℕ)
all_codes = source_codes ++ (input_codes ++ (run_codes ++ instruction_codes))
