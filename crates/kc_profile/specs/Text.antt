-- The text of a profile: a line for each spot that has states, by rising address, by the number of an entry and of a request of
-- the transfer server, and idling; and then a line for each line of a source that has states (this kit's own).
use Rattle.std.specs.Prelude.{ℕ, ◌+◌, ◌-◌, ◌==◌, Bool, false, ◌&&◌, if◌then◌else◌, List, [], ◌∷◌, ◌++◌, codes, decimal, sum, take, drop}
use Rattle.std.specs.Str.{bytes_eq}
use Rattle.kc_trace.specs.Text.{hex}
use Rattle.kc_debug_script.specs.declared.line_map.MapEntry.{MapEntry}
use Rattle.kc_profile.specs.Tally.{Tally}

-- nothing is known of what has no states
abbrev pub unless_none : ℕ → List ℕ → List ℕ
unless_none states line = if states == 0 then [] else line

-- ---- spots

abbrev pub address_line : ℕ → ℕ → List ℕ
address_line addr states = codes "at " ++ hex 4 addr ++ codes " " ++ decimal states ++ codes "\n"

-- numbers of addresses, from one on
unfoldable pub address_lines : ℕ → List ℕ → List ℕ
address_lines addr [] = []
address_lines addr (states ∷ more) = unless_none states (address_line addr states) ++ address_lines (addr + 1) more

abbrev pub numbered_line : List ℕ → ℕ → ℕ → List ℕ
numbered_line word number states = word ++ codes " " ++ decimal number ++ codes " " ++ decimal states ++ codes "\n"

-- numbers of entries or of requests, from one on
unfoldable pub numbered_lines : List ℕ → ℕ → List ℕ → List ℕ
numbered_lines word number [] = []
numbered_lines word number (states ∷ more) = unless_none states (numbered_line word number states) ++ numbered_lines word (number + 1) more

abbrev pub idle_line : ℕ → List ℕ
idle_line states = codes "idle " ++ decimal states ++ codes "\n"

-- ---- lines of sources

-- the states at the addresses from one up to another
abbrev pub states_between : List ℕ → ℕ → ℕ → ℕ
states_between at from to = sum (take (to - from) (drop from at))

-- where the next entry of a line map begins; FFFFH is the last address
abbrev pub next_address : List MapEntry → ℕ
next_address [] = 0x10000
next_address (entry ∷ entries) = entry.addr

abbrev pub is_same_line : MapEntry → MapEntry → Bool
is_same_line entry other = bytes_eq entry.name other.name && entry.line == other.line

-- the next entry is one of the same line
abbrev pub goes_on : MapEntry → List MapEntry → Bool
goes_on entry [] = false
goes_on entry (next ∷ entries) = is_same_line entry next

abbrev pub line_line : MapEntry → ℕ → List ℕ
line_line entry states = codes "line " ++ entry.name ++ codes " " ++ decimal entry.line ++ codes " " ++ decimal states ++ codes "\n"

-- What is known of the lines of entries. The addresses of an entry go from its own up to that of the next. Entries of one line that
-- follow one another are reported as one: here the line of the first entry goes from another address on.
unfoldable pub line_lines : List ℕ → ℕ → List MapEntry → List ℕ
line_lines at from [] = []
line_lines at from (entry ∷ entries) =
    if goes_on entry entries then line_lines at from entries
    else unless_none (states_between at from (next_address entries)) (line_line entry (states_between at from (next_address entries)))
    ++ line_lines at (next_address entries) entries

-- ---- the whole text

abbrev pub profile_text : Tally → List MapEntry → List ℕ
profile_text t entries =
    address_lines 0 t.at ++ numbered_lines (codes "entry") 0 t.entries ++ numbered_lines (codes "server") 0 t.server
    ++ unless_none t.idle (idle_line t.idle) ++ line_lines t.at (next_address entries) entries
