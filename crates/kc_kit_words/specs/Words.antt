-- What the words of a command line ask for (this kit's own).
use Rattle.std.specs.Prelude.{ℕ, Bool, true, not, is_some, ◌&&◌, ◌||◌, nat_le, List, [], ◌∷◌, codes, length, take, drop, Option, Some, None, if◌then◌else◌}
use Rattle.std.specs.List.{prefix_len, list_all, list_any}
use Rattle.std.specs.Option.{option_map, option_or, unwrap_or}
use Rattle.std.specs.Str.{bytes_eq}
use Rattle.kc_base.specs.Limits.{image_start}
use Rattle.kc_link_place.specs.declared.ranges.Ranges.{Ranges}
use Rattle.kc_link_place.specs.Ranges.{are_in_bounds, default_ranges, lies_within}
use Rattle.kc_kit_words.specs.declared.extent.Extent.{Extent}
use Rattle.kc_kit_words.specs.declared.inputs.Role.{Role}
use Rattle.kc_kit_words.specs.Commands.{Beside, Command, Helps, HelpsOn, ReportsVersion, Runs, Profiles, Assembles, Packs, Links, RunsHex, ProfilesHex, Lists, Debugs, Generates, Dumps, Checks, Bounds, Explains, sparing, Behind}
use Rattle.kc_kit_words.specs.Options.{lives_in, is_option, are_options, inputs_of, value_of, clock_in, extent_in, range_in, length_in, wanted_in}
use Rattle.kc_kit_words.specs.Number.{number_of}
use Rattle.kc_kit_words.specs.Values.{is_name, is_trace_name, is_address, range_of}

-- ---- files stand before the options

abbrev pub count_files : List (List ℕ) → ℕ
count_files words = prefix_len (λ w. not (is_option w)) words

abbrev pub files_of : List (List ℕ) → List (List ℕ)
files_of words = take (count_files words) words

abbrev pub options_of : List (List ℕ) → List (List ℕ)
options_of words = drop (count_files words) words

-- 1 to 64 names
abbrev pub are_files : List (List ℕ) → Bool
are_files names = nat_le 1 (length names) && nat_le (length names) 64 && list_all is_name names

-- ---- where relocatable pieces may stand: the default where an option does not say otherwise

abbrev pub placing_of : List (List ℕ) → Ranges
placing_of options = record {
  reg = unwrap_or (range_in (codes "--reg") options) default_ranges.reg;
  code = unwrap_or (range_in (codes "--code") options) default_ranges.code;
  ram = unwrap_or (range_in (codes "--data") options) default_ranges.ram;
  stack = length_in (codes "--stack") options;
}

-- ---- each command with its files and options

abbrev pub runs_by : List (List ℕ) → List (Role × List ℕ) → Option Extent → Ranges → Option Command
runs_by files inputs None placing = None
runs_by files inputs (Some extent) placing = if are_in_bounds placing then Some (Runs files inputs extent placing) else None

-- a second file is another one
abbrev pub is_other : List ℕ → Option (List ℕ) → Bool
is_other out None = true
is_other out (Some lines) = not (bytes_eq lines out)

-- the files that are written behind a run
abbrev pub behind_of : List (List ℕ) → Behind
behind_of options = record { profile = value_of (codes "--profile") options; cover = value_of (codes "--cover") options }

abbrev pub is_asked : Behind → Bool
is_asked behind = is_some behind.profile || is_some behind.cover

abbrev pub differ : Option (List ℕ) → Option (List ℕ) → Bool
differ None second = true
differ (Some first) second = is_other first second

abbrev pub are_different : Behind → Bool
are_different behind = differ behind.profile behind.cover

abbrev pub profiles_by : List (List ℕ) → List (Role × List ℕ) → Option Extent → Ranges → Behind → Option Command
profiles_by files inputs None placing behind = None
profiles_by files inputs (Some extent) placing behind = if are_different behind && are_in_bounds placing then Some (Profiles files inputs extent placing behind) else None

abbrev pub run_so : Behind → List (List ℕ) → List (Role × List ℕ) → Option Extent → Ranges → Option Command
run_so behind files inputs extent placing = if is_asked behind then profiles_by files inputs extent placing behind else runs_by files inputs extent placing

abbrev pub run_by : List (List ℕ) → List ℕ → List (List ℕ) → Option Command
run_by files verb options = if are_files files then run_so (behind_of options) files (inputs_of verb options) (extent_in options) (placing_of options) else None

-- an object, and a listing where it is asked for
abbrev pub assembles_by : List ℕ → Option (List ℕ) → Option (List ℕ) → Option Command
assembles_by file None list = None
assembles_by file (Some out) list = if is_other out list then Some (Assembles file out list) else None

abbrev pub assemble_by : List (List ℕ) → List (List ℕ) → Option Command
assemble_by (file ∷ []) options = if is_name file then assembles_by file (value_of (codes "--out") options) (value_of (codes "--list") options) else None
assemble_by _ options = None

abbrev pub pack_by : List (List ℕ) → List (List ℕ) → Option Command
pack_by files options = if are_files files then option_map (Packs files) (value_of (codes "--out") options) else None

abbrev pub is_apart : Option (List ℕ) → Option (List ℕ) → Bool
is_apart None other = true
is_apart (Some name) other = is_other name other

-- the files that are written are all different ones
abbrev pub are_apart : List ℕ → Beside → Bool
are_apart out beside = is_apart beside.lines beside.map && is_other out beside.lines && is_other out beside.map

abbrev pub links_by : List (List ℕ) → List (Role × List ℕ) → Option (List ℕ) → Beside → Ranges → Option Command
links_by files inputs None beside placing = None
links_by files inputs (Some out) beside placing = if are_apart out beside && are_in_bounds placing then Some (Links files inputs out beside placing) else None

-- a line map, and a map of pieces and names
abbrev pub beside_of : List (List ℕ) → Beside
beside_of options = record { lines = value_of (codes "--lines") options; map = value_of (codes "--map") options }

abbrev pub link_by : List (List ℕ) → List ℕ → List (List ℕ) → Option Command
link_by files verb options =
    if are_files files
    then links_by files (inputs_of verb options) (value_of (codes "--out") options) (beside_of options) (placing_of options)
    else None

abbrev pub hex_so : Option (List ℕ) → List ℕ → List (Role × List ℕ) → Option Extent → Option Command
hex_so None file inputs extent = option_map (RunsHex file inputs) extent
hex_so (Some out) file inputs extent = option_map (λ e. ProfilesHex file inputs e out) extent

abbrev pub hex_of : List ℕ → List ℕ → List (List ℕ) → Option Command
hex_of file verb options = if is_name file then hex_so (value_of (codes "--profile") options) file (inputs_of verb options) (extent_in options) else None

abbrev pub hex_by : List (List ℕ) → List ℕ → List (List ℕ) → Option Command
hex_by (file ∷ []) verb options = hex_of file verb options
hex_by _ verb options = None

-- the addresses of a listing are those of an image
abbrev pub lists_by : List ℕ → Option (ℕ × ℕ) → Option Command
lists_by file None = None
lists_by file (Some range) = if lies_within image_start 0xFFFF range then Some (Lists file range.0 range.1) else None

abbrev pub list_of : List ℕ → List ℕ → Option Command
list_of file range = if is_name file then lists_by file (range_of range) else None

abbrev pub list_by : List (List ℕ) → Option Command
list_by (file ∷ range ∷ []) = list_of file range
list_by _ = None

-- a hex file and a script
abbrev pub debug_of : List ℕ → List ℕ → List ℕ → List (List ℕ) → Option Command
debug_of file script verb options = if is_name file && is_name script then Some (Debugs file script (inputs_of verb options) (lives_in options)) else None

abbrev pub debug_by : List (List ℕ) → List ℕ → List (List ℕ) → Option Command
debug_by (file ∷ script ∷ []) verb options = debug_of file script verb options
debug_by _ verb options = None

-- a number up to 65,535
abbrev pub generate_by : List (List ℕ) → Option Command
generate_by (number ∷ []) = option_map Generates (number_of 65535 number)
generate_by _ = None

-- a trace, which is written as a value change dump
abbrev pub dumps_by : List ℕ → List (Role × List ℕ) → ℕ → Option (List ℕ) → Option Command
dumps_by trace inputs clock None = None
dumps_by trace inputs clock (Some out) = Some (Dumps trace inputs out clock)

abbrev pub dump_of : List ℕ → List ℕ → List (List ℕ) → Option Command
dump_of trace verb options = if is_trace_name trace then dumps_by trace (inputs_of verb options) (clock_in options) (value_of (codes "--out") options) else None

abbrev pub dump_by : List (List ℕ) → List ℕ → List (List ℕ) → Option Command
dump_by (trace ∷ []) verb options = dump_of trace verb options
dump_by _ verb options = None

-- a trace and rules
abbrev pub check_of : List ℕ → List ℕ → List ℕ → List (List ℕ) → Option Command
check_of trace rules verb options = if is_trace_name trace && is_name rules then Some (Checks trace rules (inputs_of verb options) (clock_in options)) else None

abbrev pub check_by : List (List ℕ) → List ℕ → List (List ℕ) → Option Command
check_by (trace ∷ rules ∷ []) verb options = check_of trace rules verb options
check_by _ verb options = None

-- a hex file, and where the routine begins
abbrev pub bound_of : List ℕ → List ℕ → List ℕ → List (List ℕ) → Option Command
bound_of file from verb options =
    if is_name file && is_address from then Some (Bounds file from (value_of (codes "--to") options) (inputs_of verb options) (wanted_in options)) else None

abbrev pub bound_by : List (List ℕ) → List ℕ → List (List ℕ) → Option Command
bound_by (file ∷ from ∷ []) verb options = bound_of file from verb options
bound_by _ verb options = None

-- a code, or a word that is none
abbrev pub explain_by : List (List ℕ) → Option Command
explain_by (code ∷ []) = Some (Explains code)
explain_by _ = None

abbrev pub alone : List (List ℕ) → Command → Option Command
alone [] command = Some command
alone (file ∷ files) command = None

abbrev pub command_by : List ℕ → List (List ℕ) → List (List ℕ) → Option Command
command_by verb files options =
    if bytes_eq verb (codes "run") then run_by files verb options
    else if bytes_eq verb (codes "asm") then assemble_by files options
    else if bytes_eq verb (codes "lib") then pack_by files options
    else if bytes_eq verb (codes "link") then link_by files verb options
    else if bytes_eq verb (codes "hex") then hex_by files verb options
    else if bytes_eq verb (codes "dis") then list_by files
    else if bytes_eq verb (codes "debug") then debug_by files verb options
    else if bytes_eq verb (codes "gen") then generate_by files
    else if bytes_eq verb (codes "vcd") then dump_by files verb options
    else if bytes_eq verb (codes "check") then check_by files verb options
    else if bytes_eq verb (codes "bound") then bound_by files verb options
    else if bytes_eq verb (codes "explain") then explain_by files
    else if bytes_eq verb (codes "--help") then alone files Helps
    else if bytes_eq verb (codes "--version") then alone files ReportsVersion
    else None

-- the command of words whose options it takes; it writes no file that it reads
abbrev pub command_with : List ℕ → List (List ℕ) → List (List ℕ) → Option Command
command_with verb files options = if are_options verb options then sparing (command_by verb files options) else None

-- what words ask for that ask for no help on a command
abbrev pub plain_command_of : List (List ℕ) → Option Command
plain_command_of [] = None
plain_command_of (verb ∷ words) = command_with verb (files_of words) (options_of words)

-- ---- help on a command: its word, and `--help`

abbrev pub verbs : List (List ℕ)
verbs = codes "run" ∷ codes "asm" ∷ codes "lib" ∷ codes "link" ∷ codes "hex" ∷ codes "dis" ∷ codes "debug" ∷ codes "gen" ∷ codes "vcd" ∷ codes "check" ∷ codes "bound" ∷ codes "explain" ∷ []

abbrev pub is_verb : List ℕ → Bool
is_verb word = list_any (λ verb. bytes_eq word verb) verbs

abbrev pub help_on : List (List ℕ) → Option Command
help_on (verb ∷ word ∷ []) = if is_verb verb && bytes_eq word (codes "--help") then Some (HelpsOn verb) else None
help_on _ = None

-- the command of some words, or none
abbrev pub command_of : List (List ℕ) → Option Command
command_of words = option_or (help_on words) (plain_command_of words)
