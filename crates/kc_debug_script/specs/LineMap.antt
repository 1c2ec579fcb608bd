-- A line map: from which line of which module the bytes at an address come (this kit's own).
use Rattle.std.specs.Prelude.{◌≡◌, ℕ, ◌-◌, ◌<◌, ◌≤◌, ◌^◌, nat_lt, nat_le, Bool, true, ◌&&◌, Option, Some, None, Result, Ok, Err, List, [], ◌∷◌, length, find, slice_get, ◌==◌, if◌then◌else◌, All}
use Rattle.std.specs.List.{list_any}
use Rattle.std.specs.Char.{is_ascii_lowercase}
use Rattle.std.specs.Option.{option_map}
use Rattle.std.specs.Str.{str_eq_ignore_ascii_case}
use Rattle.kc_base.specs.Fields.{first_of, second_of, third_of, word_of}
use Rattle.kc_base.specs.Limits.{image_start}
use Rattle.kc_base.specs.TextLines.{text_lines}
use Rattle.kc_obj_module.specs.Names.{is_name}
use Rattle.kc_debug_script.specs.declared.line_map.MapEntry.{MapEntry}
use Rattle.kc_debug_script.specs.declared.fault.DebugFault.{DebugFault}
use Rattle.kc_debug_script.specs.declared.fault.DebugFault.TheVariants as faults
use Rattle.kc_debug_script.specs.Fields.{if_is, number_of}
use Rattle.kc_debug_script.specs.Reading.{said}

-- ---- a line: an address, the name of a module, and a line of its source, with single spaces between them

-- an address: four hex digits, in upper case
abbrev pub map_address : List ℕ → Option ℕ
map_address text = if list_any is_ascii_lowercase text then None else word_of text

abbrev pub map_name : List ℕ → Option (List ℕ)
map_name text = if is_name text then Some text else None

abbrev pub entry_with : Option ℕ → Option (List ℕ) → Option ℕ → Option MapEntry
entry_with None name line = None
entry_with (Some addr) None line = None
entry_with (Some addr) (Some name) None = None
entry_with (Some addr) (Some name) (Some line) = Some (record { addr = addr; name = name; line = line })

abbrev pub entry_of : List ℕ → Option MapEntry
entry_of text =
    entry_with (map_address (first_of text)) (map_name (second_of text)) (number_of (2 ^ 32 - 1) (third_of text))

-- ---- a map: addresses of an image, each above the one before

abbrev pub is_below : ℕ → Option MapEntry → Bool
is_below addr None = true
is_below addr (Some last) = nat_lt last.addr addr

abbrev pub may_come : List MapEntry → MapEntry → Bool
may_come before entry = nat_le image_start entry.addr && is_below entry.addr (slice_get before (length before - 1))

-- the entry of a line behind these entries
abbrev pub entry_after : List MapEntry → List ℕ → Option MapEntry
entry_after before line = if_is (may_come before) (entry_of line)

-- the entries of a map, or the number of its first line that is none
abbrev pub map_of : List ℕ → Result (List MapEntry) ℕ
map_of text = said entry_after [] (text_lines text)

-- what a reader answers; memory may run out at any time
abbrev pub IsMapRead : Result (List MapEntry) DebugFault → Result (List MapEntry) ℕ → Type 0
IsMapRead (Ok entries) read = read ≡ Ok entries
IsMapRead (Err (faults.BadMap line)) read = read ≡ Err line
IsMapRead (Err faults.NoMemory) read = Unit {0}
IsMapRead (Err (faults.BadCommand line)) read = ⊥
IsMapRead (Err faults.WriteFault) read = ⊥

-- each address is above the one before
abbrev pub Rises : List MapEntry → Type 0
Rises [] = Unit {0}
Rises (e ∷ []) = Unit {0}
Rises (e ∷ f ∷ es) = (e.addr < f.addr) × Rises (f ∷ es)

-- what is known of the entries of a map
pub record IsOrdered (entries : List MapEntry) : Type 0 where
  pub high : All (λ e. image_start ≤ e.addr) entries
  pub rises : Rises entries

-- the first address of a line of a module, whose name is in letters of either case
abbrev pub address_of : List MapEntry → List ℕ → ℕ → Option ℕ
address_of entries name line = option_map (λ e. e.addr) (find (λ e. (e.line == line) && str_eq_ignore_ascii_case e.name name) entries)

-- the entry of an address
abbrev pub entry_at : List MapEntry → ℕ → Option MapEntry
entry_at entries addr = find (λ e. e.addr == addr) entries
