-- What a linker's map, a line map and notes say of an image (this kit's own). Notes name addresses by the maps.
use Rattle.std.specs.Prelude.{ℕ, ◌≤◌, List, [], codes, length, Option, Some, None, Result, Ok, Err, IfSome}
use Rattle.std.specs.Option.{option_map}
use Rattle.kc_base.specs.Limits.{file_limit}
use Rattle.kc_addresses.specs.declared.names.Name.{Name}
use Rattle.kc_addresses.specs.Names.{names_of}
use Rattle.kc_addresses.specs.Numbers.{hex_value_of}
use Rattle.kc_debug_script.specs.Fields.{if_is}
use Rattle.kc_debug_script.specs.declared.line_map.MapEntry.{MapEntry}
use Rattle.kc_bound.specs.Reading.{NotesRead, notes_read, no_notes, notes_of, address_of, is_in_rom}
use Rattle.kc_kit_files.specs.Response.{Response}
use Rattle.kc_kit_words.specs.declared.inputs.Role.{Role}
use Rattle.kc_kit_words.specs.declared.inputs.Role.TheVariants as role
use Rattle.kc_kit_inputs.specs.declared.annotations.AnnotationFiles.{AnnotationFiles as ReadFiles}
use Rattle.kc_kit_inputs.specs.declared.annotations.Annotations.{Annotations as ReadAnnotations}
use Rattle.kc_kit_inputs.specs.Inputs.{input_for}
use Rattle.kc_kit_inputs.specs.Responses.{line_response}
use Rattle.kc_kit_inputs.specs.Scripts.{by_lines, lines_of}

-- these files, each by its name and its text where there is one
pub record AnnotationFiles : Type 0 where
  pub map : Option (List ℕ × List ℕ)
  pub lines : Option (List ℕ × List ℕ)
  pub notes : Option (List ℕ × List ℕ)

-- those among the files that options name for reading
abbrev pub annotation_files : List (Role × List ℕ) → List (List ℕ) → AnnotationFiles
annotation_files inputs texts = record {
  map = input_for role.Map inputs texts;
  lines = input_for role.Lines inputs texts;
  notes = input_for role.Notes inputs texts;
}

-- what they say: the public names of a linker's map, the entries of a line map, and notes
pub record Annotations : Type 0 where
  pub names : List Name
  pub lines : List MapEntry
  pub notes : NotesRead

-- the public names of a map, or the response to its first line that is none of one; no names without a map
abbrev pub names_in : Option (List ℕ × List ℕ) → Result (List Name) Response
names_in (Some file) = by_lines (codes "BADNAMES") file.0 file.1 (names_of file.1)
names_in None = Ok []

abbrev pub by_notes : List ℕ → List ℕ → Result NotesRead ℕ → Result NotesRead Response
by_notes name text (Ok said) = Ok said
by_notes name text (Err line) = Err (line_response name text line (codes "BADNOTE"))

-- notes, by the names and the lines that they may use, or the response to their first line that is none; none without such a file
abbrev pub notes_in : List Name → List MapEntry → Option (List ℕ × List ℕ) → Result NotesRead Response
notes_in names lines (Some file) = by_notes file.0 file.1 (notes_of (address_of names lines) file.1)
notes_in names lines None = Ok no_notes

-- the map is checked first, then the line map, and the notes last
abbrev pub with_notes : List Name → List MapEntry → Result NotesRead Response → Result Annotations Response
with_notes names lines (Ok notes) = Ok (record { names = names; lines = lines; notes = notes })
with_notes names lines (Err response) = Err response

abbrev pub with_lines : AnnotationFiles → List Name → Result (List MapEntry) Response → Result Annotations Response
with_lines files names (Ok lines) = with_notes names lines (notes_in names lines files.notes)
with_lines files names (Err response) = Err response

abbrev pub with_names : AnnotationFiles → Result (List Name) Response → Result Annotations Response
with_names files (Ok names) = with_lines files names (lines_of files.lines)
with_names files (Err response) = Err response

-- what the files say, or the response to the first fault
abbrev pub annotations_of : AnnotationFiles → Result Annotations Response
annotations_of files = with_names files (names_in files.map)

-- the address of the ROM that a word stands for, if it is one: a hexadecimal number of the assembler, or as notes have it
abbrev pub by_number : Annotations → List ℕ → Option ℕ → Option ℕ
by_number a word (Some n) = if_is is_in_rom (Some n)
by_number a word None = address_of a.names a.lines word

abbrev pub address_in : Annotations → List ℕ → Option ℕ
address_in a word = by_number a word (hex_value_of 0xFFFF word)

-- what read files and what read annotations show
abbrev pub files_in : ReadFiles → AnnotationFiles
files_in files = record {
  map = option_map (λ f. (f.0.now, f.1.now)) files.map;
  lines = option_map (λ f. (f.0.now, f.1.now)) files.lines;
  notes = option_map (λ f. (f.0.now, f.1.now)) files.notes;
}

abbrev pub said_in : ReadAnnotations → Annotations
said_in a = record { names = a.names; lines = a.lines; notes = notes_read a.notes }

-- each of the files is within the limit of a file
pub record AreWithin (files : ReadFiles) : Type 0 where
  pub map : IfSome files.map (λ f. length f.1.now ≤ file_limit)
  pub lines : IfSome files.lines (λ f. length f.1.now ≤ file_limit)
  pub notes : IfSome files.notes (λ f. length f.1.now ≤ file_limit)
