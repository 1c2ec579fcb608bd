-- Notes as their author writes them, a line each (this kit's own).
use Rattle.std.specs.Prelude.{◌≡◌, ℕ, ◌+◌, Bool, true, not, ◌&&◌, ◌==◌, nat_lt, nat_le, if◌then◌else◌, Option, Some, None, Result, Ok, Err, List, [], ◌∷◌, length, map, codes}
use Rattle.std.specs.List.{list_any, insert, prefix_len}
use Rattle.std.specs.Option.{option_or}
use Rattle.std.specs.Str.{bytes_eq}
use Rattle.kc_base.specs.Fields.{word_of}
use Rattle.kc_base.specs.Limits.{image_start, max_states, rom_end}
use Rattle.kc_base.specs.TextLines.{text_lines}
use Rattle.kc_debug_script.specs.Fields.{if_is}
use Rattle.kc_debug_script.specs.declared.line_map.MapEntry.{MapEntry}
use Rattle.kc_addresses.specs.Lines.{read_from}
use Rattle.kc_addresses.specs.Names.{value_of_name}
use Rattle.kc_addresses.specs.Numbers.{begins_with_digit, count_of}
use Rattle.kc_addresses.specs.Places.{line_place_of}
use Rattle.kc_addresses.specs.Words.{before_comment, words_in}
use Rattle.kc_addresses.specs.declared.names.Name.{Name}
use Rattle.kc_bound.specs.declared.notes.Loop.{Loop}
use Rattle.kc_bound.specs.declared.notes.Goes.{Goes}
use Rattle.kc_bound.specs.declared.notes.Moved.{Moved}
use Rattle.kc_bound.specs.declared.notes.Notes.{Notes}
use Rattle.kc_bound.specs.declared.reading.NotesFault.{NotesFault}
use Rattle.kc_bound.specs.declared.reading.NotesFault.TheVariants as faults
use Rattle.kc_bound.specs.Notes.{is_among}

-- ---- addresses

abbrev pub is_in_rom : ℕ → Bool
is_in_rom a = nat_le image_start a && nat_lt a rom_end

-- a word that begins with a digit is four hex digits; any other is `MODULE:LINE`, or a public name
abbrev pub meant_by : List Name → List MapEntry → List ℕ → Option ℕ
meant_by names lines word =
    if begins_with_digit word then word_of word else option_or (line_place_of lines word) (value_of_name names word)

-- an address is in the ROM
abbrev pub address_of : List Name → List MapEntry → List ℕ → Option ℕ
address_of names lines word = if_is is_in_rom (meant_by names lines word)

-- how a word is read to an address
abbrev pub Reader : Type 0
Reader = List ℕ → Option ℕ

-- an address in front of others, if it and they are
abbrev pub in_front : Option ℕ → Option (List ℕ) → Option (List ℕ)
in_front None more = None
in_front (Some a) None = None
in_front (Some a) (Some more) = Some (a ∷ more)

abbrev pub addresses_of : Reader → List (List ℕ) → Option (List ℕ)
addresses_of address [] = Some []
addresses_of address (word ∷ words) = in_front (address word) (addresses_of address words)

abbrev pub are_distinct : List ℕ → Bool
are_distinct [] = true
are_distinct (a ∷ more) = not (is_among more a) && are_distinct more

abbrev pub are_targets : List ℕ → Bool
are_targets addresses = nat_le 1 (length addresses) && nat_le (length addresses) 256 && are_distinct addresses

-- 1 to 256 addresses, all distinct
abbrev pub targets_of : Reader → List (List ℕ) → Option (List ℕ)
targets_of address words = if_is are_targets (addresses_of address words)

-- ---- what notes say, with lists for vectors

pub record LoopRead : Type 0 where
  pub head : ℕ
  pub most : ℕ
  pub per : List ℕ

pub record GoesRead : Type 0 where
  pub jump : ℕ
  pub targets : List ℕ

pub record NotesRead : Type 0 where
  pub loops : List LoopRead
  pub goes : List GoesRead
  pub words : List Moved
  pub ends : List ℕ

abbrev pub loop_read : Loop → LoopRead
loop_read l = record { head = l.head; most = l.most; per = l.per.items }

abbrev pub goes_read : Goes → GoesRead
goes_read g = record { jump = g.jump; targets = g.targets.items }

abbrev pub notes_read : Notes → NotesRead
notes_read notes = record { loops = map loop_read notes.loops.items; goes = map goes_read notes.goes.items; words = notes.words.items; ends = notes.ends.items }

abbrev pub no_notes : NotesRead
no_notes = record { loops = []; goes = []; words = []; ends = [] }

abbrev pub count_of_notes : NotesRead → ℕ
count_of_notes notes = length notes.loops + length notes.goes + length notes.words + length notes.ends

-- ---- the fields of a note

-- nothing, or `per` and addresses
abbrev pub per_of : Reader → List (List ℕ) → Option (List ℕ)
per_of address [] = Some []
per_of address (word ∷ words) = if bytes_eq word (codes "per") then targets_of address words else None

-- none of the addresses is the head
abbrev pub loop_with : Option ℕ → Option ℕ → Option (List ℕ) → Option LoopRead
loop_with None most per = None
loop_with (Some head) None per = None
loop_with (Some head) (Some most) None = None
loop_with (Some head) (Some most) (Some per) = if is_among per head then None else Some (record { head = head; most = most; per = per })

-- `H N`, or `H N per P ..`
abbrev pub loop_of : Reader → List (List ℕ) → Option LoopRead
loop_of address [] = None
loop_of address (head ∷ []) = None
loop_of address (head ∷ most ∷ words) = loop_with (address head) (count_of max_states most) (per_of address words)

abbrev pub goes_with : Option ℕ → Option (List ℕ) → Option GoesRead
goes_with None targets = None
goes_with (Some jump) None = None
goes_with (Some jump) (Some targets) = Some (record { jump = jump; targets = targets })

-- `H B ..`
abbrev pub goes_of : Reader → List (List ℕ) → Option GoesRead
goes_of address [] = None
goes_of address (jump ∷ words) = goes_with (address jump) (targets_of address words)

abbrev pub moved_with : Option ℕ → Option ℕ → Option Moved
moved_with None most = None
moved_with (Some block) None = None
moved_with (Some block) (Some most) = Some (record { block = block; most = most })

-- `H N`
abbrev pub moved_of : Reader → List (List ℕ) → Option Moved
moved_of address (block ∷ most ∷ []) = moved_with (address block) (count_of 65535 most)
moved_of address _ = None

-- `H`
abbrev pub end_of : Reader → List (List ℕ) → Option ℕ
end_of address (word ∷ []) = address word
end_of address _ = None

-- ---- notes with one more, at the place of its address; none where there is one of the same word and address

-- behind all of lower addresses
abbrev pub put_in : {A : Type 0} → (A → ℕ) → List A → A → List A
put_in at all a = insert all (prefix_len (λ b. nat_lt (at b) (at a)) all) a

-- all with one more, if its address is new
abbrev pub with_new : {A : Type 0} → (A → ℕ) → List A → Option A → Option (List A)
with_new at all None = None
with_new at all (Some a) = if list_any (λ b. at b == at a) all then None else Some (put_in at all a)

abbrev pub with_loops : NotesRead → Option (List LoopRead) → Option NotesRead
with_loops notes None = None
with_loops notes (Some loops) = Some (record notes { loops = loops })

abbrev pub with_goes : NotesRead → Option (List GoesRead) → Option NotesRead
with_goes notes None = None
with_goes notes (Some goes) = Some (record notes { goes = goes })

abbrev pub with_words : NotesRead → Option (List Moved) → Option NotesRead
with_words notes None = None
with_words notes (Some words) = Some (record notes { words = words })

abbrev pub with_ends : NotesRead → Option (List ℕ) → Option NotesRead
with_ends notes None = None
with_ends notes (Some ends) = Some (record notes { ends = ends })

abbrev pub with_fields : Reader → NotesRead → List ℕ → List (List ℕ) → Option NotesRead
with_fields address notes word fields =
    if bytes_eq word (codes "loop") then with_loops notes (with_new (λ l. l.head) notes.loops (loop_of address fields))
    else if bytes_eq word (codes "goes") then with_goes notes (with_new (λ g. g.jump) notes.goes (goes_of address fields))
    else if bytes_eq word (codes "words") then with_words notes (with_new (λ m. m.block) notes.words (moved_of address fields))
    else if bytes_eq word (codes "ends") then with_ends notes (with_new (λ a. a) notes.ends (end_of address fields))
    else None

-- there are 4,096 notes at most; a line without words is none
abbrev pub with_words_of : Reader → NotesRead → List (List ℕ) → Option NotesRead
with_words_of address notes [] = Some notes
with_words_of address notes (word ∷ fields) = if nat_le 4096 (count_of_notes notes) then None else with_fields address notes word fields

abbrev pub with_line : Reader → NotesRead → List ℕ → Option NotesRead
with_line address notes line = with_words_of address notes (words_in (before_comment line))

-- the notes of a text, or the number of its first line that is none of notes
abbrev pub notes_of : Reader → List ℕ → Result NotesRead ℕ
notes_of address text = read_from (with_line address) 1 no_notes (text_lines text)

-- what a reader answers; memory may run out at any time
abbrev pub AreNotesRead : Result Notes NotesFault → Result NotesRead ℕ → Type 0
AreNotesRead (Ok notes) read = read ≡ Ok (notes_read notes)
AreNotesRead (Err (faults.BadNote line)) read = read ≡ Err line
AreNotesRead (Err faults.NoMemory) read = Unit {0}
