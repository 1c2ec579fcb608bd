-- What a reader of value change dumps knows of a variable, line by line (IEEE 1364, "Value change dump files").
use Rattle.std.specs.Prelude.{ℕ, zero, suc, ◌+◌, ◌-◌, ◌*◌, ◌==◌, nat_le, if◌then◌else◌, Bool, false, ◌&&◌, Option, Some, None, List, [], ◌∷◌, codes, slice_index, fold}
use Rattle.std.specs.List.{before_first, after_first}
use Rattle.std.specs.Str.{bytes_eq}
use Rattle.kc_base.specs.Fields.{is_space, decimal_value}
use Rattle.kc_base.specs.TextLines.{text_lines}
use Rattle.kc_base.specs.declared.types.Level.{Level}
use Rattle.kc_base.specs.declared.types.Level.TheVariants.{Low, High}

-- ---- declarations: `$var TYPE SIZE CODE NAME $end`

-- the word of a line behind so many others
abbrev pub word : ℕ → List ℕ → List ℕ
word zero line = before_first is_space line
word (suc n) line = word n (after_first is_space line)

abbrev pub declares : List ℕ → List ℕ → Bool
declares name line = bytes_eq (word 0 line) (codes "$var") && bytes_eq (word 4 line) name

-- the code of the variable of a name, one character
unfoldable pub code_in : List ℕ → List (List ℕ) → Option ℕ
code_in name [] = None
code_in name (line ∷ lines) = if declares name line then Some (slice_index (word 3 line) 0) else code_in name lines

-- ---- changes: `#` and a time; a digit and a code; or `b`, binary digits, a blank and a code

-- the time as a line says
abbrev pub time_by : Option ℕ → List ℕ → Option ℕ
time_by time [] = time
time_by time (c ∷ cs) = if c == 35 then Some (decimal_value cs) else time

abbrev pub is_up_to : ℕ → Option ℕ → Bool
is_up_to last None = false
is_up_to last (Some time) = nat_le time last

abbrev pub is_now : ℕ → Option ℕ → Bool
is_now at None = false
is_now at (Some time) = time == at

abbrev pub digit_level : ℕ → Option Level → Option Level
digit_level c level = if c == 48 then Some Low else if c == 49 then Some High else level

-- the level of the variable of a code, as a line says
abbrev pub level_by : ℕ → List ℕ → Option Level → Option Level
level_by code (c ∷ d ∷ []) level = if d == code then digit_level c level else level
level_by code _ level = level

abbrev pub binary_value : List ℕ → ℕ
binary_value ds = fold (λ n d. 2 * n + (d - 48)) 0 ds

-- its value, as a line says
abbrev pub value_by : ℕ → List ℕ → Option ℕ → Option ℕ
value_by code [] value = value
value_by code (c ∷ cs) value = if (c == 98) && bytes_eq (word 1 cs) (code ∷ []) then Some (binary_value (word 0 cs)) else value

-- how often the event of a code has happened, as a line says
abbrev pub count_by : ℕ → List ℕ → ℕ → ℕ
count_by code (c ∷ d ∷ []) n = if (c == 49) && (d == code) then n + 1 else n
count_by code _ n = n

-- what the lines up to a time say
unfoldable pub read_up_to : {A : Type 0} → (List ℕ → A → A) → ℕ → Option ℕ → A → List (List ℕ) → A
read_up_to by last time a [] = a
read_up_to by last time a (line ∷ lines) =
    read_up_to by last (time_by time line) (if is_up_to last (time_by time line) then by line a else a) lines

-- what the lines of a time say
unfoldable pub read_at : {A : Type 0} → (List ℕ → A → A) → ℕ → Option ℕ → A → List (List ℕ) → A
read_at by at time a [] = a
read_at by at time a (line ∷ lines) =
    read_at by at (time_by time line) (if is_now at (time_by time line) then by line a else a) lines

abbrev pub level_with : ℕ → List (List ℕ) → Option ℕ → Option Level
level_with time lines None = None
level_with time lines (Some code) = read_up_to (level_by code) time None None lines

abbrev pub value_with : ℕ → List (List ℕ) → Option ℕ → Option ℕ
value_with time lines None = None
value_with time lines (Some code) = read_up_to (value_by code) time None None lines

abbrev pub count_with : ℕ → List (List ℕ) → Option ℕ → Option ℕ
count_with time lines None = None
count_with time lines (Some code) = Some (read_at (count_by code) time None 0 lines)

-- the level of a variable at a time; None where the dump gives none
abbrev pub level_described : List ℕ → ℕ → List ℕ → Option Level
level_described dump time name = level_with time (text_lines dump) (code_in name (text_lines dump))

-- the value of a variable at a time
abbrev pub value_described : List ℕ → ℕ → List ℕ → Option ℕ
value_described dump time name = value_with time (text_lines dump) (code_in name (text_lines dump))

-- how often an event happens at a time
abbrev pub count_described : List ℕ → ℕ → List ℕ → Option ℕ
count_described dump time name = count_with time (text_lines dump) (code_in name (text_lines dump))
