-- From which line of which file the bytes of an image come (this kit's own).
use Rattle.std.specs.Prelude.{ℕ, List, map, string_bytes, Option, Some, None, slice_get}
use Rattle.std.specs.Option.{option_map}
use Rattle.kc_obj_module.specs.Object.{Object}
use Rattle.kc_link_place.specs.Placing.{Places}
use Rattle.kc_link.specs.declared.addresses.SourceLine.{SourceLine}
use Rattle.kc_link.specs.Placed.{ArePlacedAt}
use Rattle.kc_link.specs.SourceLine.{source_line}
use Rattle.kc_kit_messages.specs.declared.uses.FileLine.{FileLine as LineShown}
use Rattle.kc_kit_messages.specs.Uses.{FileLine}
use Rattle.kc_kit_running.specs.declared.sources.Sources.{Sources}

-- the line of a file, by the address at which its bytes begin
abbrev pub FileLines : Type 0
FileLines = ℕ → Option FileLine

-- the line that is shown
abbrev pub line_of : LineShown → FileLine
line_of at = record { file = at.file.now; line = at.line }

-- of a hex file nothing is known
abbrev pub no_lines : FileLines
no_lines addr = None

abbrev pub line_of_file : List (List ℕ) → Option SourceLine → Option FileLine
line_of_file files None = None
line_of_file files (Some at) = option_map (λ file. record { file = file; line = at.line }) (slice_get files at.index)

-- of modules at their places, one of each of these files
abbrev pub lines_of_files : List (List ℕ) → List Object → Places → FileLines
lines_of_files files ms places addr = line_of_file files (source_line ms places addr)

-- modules stand where their placement says
abbrev pub ArePlacedIn : Option Sources → Type 0
ArePlacedIn None = Unit {0}
ArePlacedIn (Some sources) = ArePlacedAt sources.modules.items sources.placement

abbrev pub lines_in : Option Sources → FileLines
lines_in None = no_lines
lines_in (Some sources) = lines_of_files (map string_bytes sources.files.now) sources.modules.items sources.placement.places
