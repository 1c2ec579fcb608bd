-- The public names of a linker's map (this kit's own; kc_link's Map says how its lines are written).
use Rattle.std.specs.Prelude.{◌≡◌, ℕ, Bool, ◌&&◌, ◌||◌, nat_lt, nat_le, if◌then◌else◌, Option, Some, None, Result, Ok, Err, List, [], ◌∷◌, ◌++◌, codes, find, fold}
use Rattle.std.specs.Option.{option_map}
use Rattle.std.specs.Str.{bytes_eq, str_eq_ignore_ascii_case}
use Rattle.kc_base.specs.Fields.{first_of, rest_of, second_of, third_of, word_of}
use Rattle.kc_base.specs.Limits.{image_start}
use Rattle.kc_base.specs.TextLines.{text_lines}
use Rattle.kc_obj_module.specs.Names.{is_name}
use Rattle.kc_addresses.specs.declared.fault.MapFault.{MapFault}
use Rattle.kc_addresses.specs.declared.fault.MapFault.TheVariants as faults
use Rattle.kc_addresses.specs.declared.names.Name.{Name}
use Rattle.kc_addresses.specs.Lines.{read_from}

-- ---- a line of a map: a word, a space, and what is said of it

abbrev pub named : List ℕ → ℕ → Name
named name value = record { name = name; value = value }

-- a value in four hex digits, a name, and the module that gives it
abbrev pub entry_of : List ℕ → Option Name
entry_of fields = if is_name (second_of fields) && is_name (third_of fields) then option_map (named (second_of fields)) (word_of (first_of fields)) else None

-- of a public name that is an address, or a number alone
abbrev pub gives_name : List ℕ → Bool
gives_name word = bytes_eq word (codes "public") || bytes_eq word (codes "number")

-- of a piece, of the stack, or of what is free
abbrev pub gives_none : List ℕ → Bool
gives_none word = bytes_eq word (codes "piece") || (bytes_eq word (codes "stack") || bytes_eq word (codes "free"))

-- the names of a map with those of one more line
abbrev pub with_line : List Name → List ℕ → Option (List Name)
with_line names line =
    if gives_name (first_of line) then option_map (λ n. names ++ n ∷ []) (entry_of (rest_of line))
    else if gives_none (first_of line) then Some names
    else None

-- the public names of a map, or the number of its first line that is none of a map
abbrev pub names_of : List ℕ → Result (List Name) ℕ
names_of text = read_from with_line 1 [] (text_lines text)

-- what a reader answers; memory may run out at any time
abbrev pub IsNamesRead : Result (List Name) MapFault → Result (List Name) ℕ → Type 0
IsNamesRead (Ok names) read = read ≡ Ok names
IsNamesRead (Err (faults.BadLine line)) read = read ≡ Err line
IsNamesRead (Err faults.NoMemory) read = Unit {0}

-- ---- what names mean

-- the value of the name that a word is, whose letters are in either case
abbrev pub value_of_name : List Name → List ℕ → Option ℕ
value_of_name names word = option_map (λ n. n.value) (find (λ n. str_eq_ignore_ascii_case n.name word) names)

-- in the image, and at an address or below it
abbrev pub is_at_or_below : ℕ → Name → Bool
is_at_or_below addr n = nat_le image_start n.value && nat_le n.value addr

-- the nearest so far, or one more name where that is nearer
abbrev pub nearer : ℕ → Option Name → Name → Option Name
nearer addr None n = if is_at_or_below addr n then Some n else None
nearer addr (Some best) n = if is_at_or_below addr n && nat_lt best.value n.value then Some n else Some best

-- the name in the image that stands nearest at or below an address, the first of several
abbrev pub nearest_below : ℕ → List Name → Option Name
nearest_below addr names = fold (nearer addr) None names
