-- What is wrong in words that are no command (this kit's own): the first thing that is, by the same tables as what a command takes.
use Rattle.std.specs.Prelude.{ℕ, nat_le, List, [], ◌∷◌, ◌++◌, codes, length, Option, Some, None, is_some, if◌then◌else◌}
use Rattle.std.specs.List.{list_all}
use Rattle.std.specs.Option.{option_map, option_or}
use Rattle.std.specs.Str.{bytes_eq}
use Rattle.kc_base.specs.Limits.{image_start}
use Rattle.kc_link_place.specs.Ranges.{are_in_bounds, lies_within}
use Rattle.kc_kit_files.specs.Shown.{word_shown}
use Rattle.kc_kit_words.specs.declared.usage.Wrong.{Wrong}
use Rattle.kc_kit_words.specs.declared.usage.Wrong.TheVariants as wrong
use Rattle.kc_kit_words.specs.declared.values.Form.{Form}
use Rattle.kc_kit_words.specs.Number.{number_of}
use Rattle.kc_kit_words.specs.Options.{is_option, form_of, has_form, left_over, pairs_of, value_in, value_of, extent_in}
use Rattle.kc_kit_words.specs.Values.{is_name, is_trace_name, is_address, range_of}
use Rattle.kc_kit_words.specs.Commands.{Beside, Command, overwritten}
use Rattle.kc_kit_words.specs.Words.{files_of, options_of, placing_of, is_other, are_apart, are_different, behind_of, beside_of, command_by, help_on}

-- ---- texts, in which a word that was given stands as it is shown

abbrev pub no_command : List ℕ → List ℕ
no_command verb = codes "unknown command " ++ word_shown verb

abbrev pub no_option : List ℕ → List ℕ
no_option option = codes "unknown option " ++ word_shown option

abbrev pub misplaced : List ℕ → List ℕ
misplaced word = codes "files come first, before options: " ++ word_shown word

abbrev pub no_value : List ℕ → List ℕ
no_value option = codes "missing value of option " ++ word_shown option

abbrev pub bad_value : List ℕ → List ℕ → List ℕ
bad_value option value = codes "bad value " ++ word_shown value ++ (codes " of option " ++ word_shown option)

abbrev pub twice : List ℕ → List ℕ
twice option = codes "repeated option " ++ word_shown option

abbrev pub lacks : List ℕ → List ℕ
lacks option = codes "missing option " ++ option

abbrev pub overwrites : List ℕ → List ℕ
overwrites name = codes "a file that is read would be overwritten: " ++ word_shown name

abbrev pub bad_range : List ℕ → List ℕ
bad_range range = codes "bad range " ++ word_shown range

abbrev pub bad_number : List ℕ → List ℕ
bad_number number = codes "bad number " ++ word_shown number

abbrev pub bad_address : List ℕ → List ℕ
bad_address word = codes "bad address " ++ word_shown word

-- what is said of a wrong thing
abbrev pub wrong_text : Wrong → List ℕ
wrong_text wrong.NoWords = codes "no command"
wrong_text (wrong.NoCommand verb) = no_command verb.now
wrong_text (wrong.NoOption option) = no_option option.now
wrong_text (wrong.Misplaced word) = misplaced word.now
wrong_text (wrong.NoValue option) = no_value option.now
wrong_text (wrong.BadValue option value) = bad_value option.now value.now
wrong_text (wrong.Twice option) = twice option.now
wrong_text (wrong.Lacks option) = lacks option.now
wrong_text wrong.FewFiles = codes "too few files"
wrong_text wrong.ManyFiles = codes "too many files"
wrong_text wrong.BadName = codes "a file's name is -, or has not 1 to 255 bytes"
wrong_text wrong.FewWords = codes "too few words"
wrong_text wrong.ManyWords = codes "too many words"
wrong_text wrong.SameFile = codes "two files to write have one name"
wrong_text (wrong.Overwrites name) = overwrites name.now
wrong_text wrong.OutOfBounds = codes "a range is out of bounds"
wrong_text (wrong.BadRange range) = bad_range range.now
wrong_text (wrong.BadNumber number) = bad_number number.now
wrong_text (wrong.BadAddress word) = bad_address word.now

-- ---- options

-- a word where an option stands that the command does not take: it begins as an option does, or it is a file behind options
abbrev pub unknown : List ℕ → List ℕ
unknown word = if is_option word then no_option word else misplaced word

-- an option with its value before other words: the command does not take it, its value has another form, or it stands again
abbrev pub wrong_value : Option Form → List ℕ → List ℕ → Option (List ℕ) → Option (List ℕ)
wrong_value None option value again = Some (unknown option)
wrong_value (Some form) option value again =
    if has_form form value then (if is_some again then Some (twice option) else None)
    else Some (bad_value option value)

abbrev pub wrong_last : Option Form → List ℕ → List ℕ
wrong_last None option = unknown option
wrong_last (Some form) option = no_value option

unfoldable pub wrong_pairs : List ℕ → List (List ℕ × List ℕ) → Option (List ℕ)
wrong_pairs verb [] = None
wrong_pairs verb (pair ∷ pairs) = option_or (wrong_value (form_of verb pair.0) pair.0 pair.1 (value_in pair.0 pairs)) (wrong_pairs verb pairs)

abbrev pub wrong_option : List ℕ → List (List ℕ) → Option (List ℕ)
wrong_option verb words = option_or (wrong_pairs verb (pairs_of words)) (option_map (λ word. wrong_last (form_of verb word) word) (left_over words))

abbrev pub lacks_out : List (List ℕ) → Option (List ℕ)
lacks_out options = if is_some (value_of (codes "--out") options) then None else Some (lacks (codes "--out"))

-- a run needs to know how far it goes
abbrev pub wrong_extent : List (List ℕ) → Option (List ℕ)
wrong_extent options = if is_some (extent_in options) then None else Some (lacks (codes "--states"))

-- the files behind a run are different ones
abbrev pub wrong_behind : List (List ℕ) → Option (List ℕ)
wrong_behind options = if are_different (behind_of options) then None else Some (wrong_text wrong.SameFile)

abbrev pub wrong_placing : List (List ℕ) → Option (List ℕ)
wrong_placing options = if are_in_bounds (placing_of options) then None else Some (wrong_text wrong.OutOfBounds)

abbrev pub wrong_run_options : List (List ℕ) → Option (List ℕ)
wrong_run_options options = option_or (wrong_extent options) (option_or (wrong_behind options) (wrong_placing options))

abbrev pub wrong_outputs : Option (List ℕ) → Beside → Option (List ℕ)
wrong_outputs None beside = Some (lacks (codes "--out"))
wrong_outputs (Some out) beside = if are_apart out beside then None else Some (wrong_text wrong.SameFile)

abbrev pub wrong_listing : Option (List ℕ) → Option (List ℕ) → Option (List ℕ)
wrong_listing None list = Some (lacks (codes "--out"))
wrong_listing (Some out) list = if is_other out list then None else Some (wrong_text wrong.SameFile)

-- ---- files

abbrev pub wrong_name : List ℕ → Option (List ℕ)
wrong_name file = if is_name file then None else Some (wrong_text wrong.BadName)

-- 1 to 64 files
abbrev pub wrong_files : List (List ℕ) → Option (List ℕ)
wrong_files [] = Some (wrong_text wrong.FewFiles)
wrong_files (file ∷ files) =
    if nat_le (length (file ∷ files)) 64 then (if list_all is_name (file ∷ files) then None else Some (wrong_text wrong.BadName))
    else Some (wrong_text wrong.ManyFiles)

-- one file
abbrev pub wrong_file : List (List ℕ) → Option (List ℕ)
wrong_file [] = Some (wrong_text wrong.FewFiles)
wrong_file (file ∷ []) = wrong_name file
wrong_file (file ∷ other ∷ files) = Some (wrong_text wrong.ManyFiles)

-- two files
abbrev pub wrong_pair : List (List ℕ) → Option (List ℕ)
wrong_pair (file ∷ other ∷ []) = option_or (wrong_name file) (wrong_name other)
wrong_pair (file ∷ other ∷ third ∷ files) = Some (wrong_text wrong.ManyFiles)
wrong_pair _ = Some (wrong_text wrong.FewFiles)

-- a trace
abbrev pub wrong_trace : List ℕ → Option (List ℕ)
wrong_trace trace = if is_trace_name trace then None else Some (wrong_text wrong.BadName)

abbrev pub wrong_dump : List (List ℕ) → Option (List ℕ)
wrong_dump [] = Some (wrong_text wrong.FewFiles)
wrong_dump (trace ∷ []) = wrong_trace trace
wrong_dump (trace ∷ other ∷ files) = Some (wrong_text wrong.ManyFiles)

-- a trace and rules
abbrev pub wrong_check : List (List ℕ) → Option (List ℕ)
wrong_check (trace ∷ rules ∷ []) = option_or (wrong_trace trace) (wrong_name rules)
wrong_check (trace ∷ rules ∷ third ∷ files) = Some (wrong_text wrong.ManyFiles)
wrong_check _ = Some (wrong_text wrong.FewFiles)

-- a file and a range of addresses of an image
abbrev pub wrong_range : List ℕ → Option (ℕ × ℕ) → Option (List ℕ)
wrong_range word None = Some (bad_range word)
wrong_range word (Some range) = if lies_within image_start 0xFFFF range then None else Some (wrong_text wrong.OutOfBounds)

abbrev pub wrong_list : List (List ℕ) → Option (List ℕ)
wrong_list (file ∷ range ∷ []) = option_or (wrong_name file) (wrong_range range (range_of range))
wrong_list (file ∷ range ∷ word ∷ words) = Some (wrong_text wrong.ManyWords)
wrong_list _ = Some (wrong_text wrong.FewWords)

-- a number
abbrev pub wrong_number : List (List ℕ) → Option (List ℕ)
wrong_number [] = Some (wrong_text wrong.FewWords)
wrong_number (number ∷ []) = if is_some (number_of 65535 number) then None else Some (bad_number number)
wrong_number (number ∷ word ∷ words) = Some (wrong_text wrong.ManyWords)

-- a file and an address
abbrev pub wrong_address : List ℕ → Option (List ℕ)
wrong_address word = if is_address word then None else Some (bad_address word)

abbrev pub wrong_bound : List (List ℕ) → Option (List ℕ)
wrong_bound (file ∷ from ∷ []) = option_or (wrong_name file) (wrong_address from)
wrong_bound (file ∷ from ∷ word ∷ words) = Some (wrong_text wrong.ManyWords)
wrong_bound _ = Some (wrong_text wrong.FewWords)

-- any word
abbrev pub wrong_word : List (List ℕ) → Option (List ℕ)
wrong_word [] = Some (wrong_text wrong.FewWords)
wrong_word (word ∷ []) = None
wrong_word (word ∷ other ∷ words) = Some (wrong_text wrong.ManyWords)

-- none
abbrev pub wrong_more : List (List ℕ) → Option (List ℕ)
wrong_more [] = None
wrong_more (word ∷ words) = Some (wrong_text wrong.ManyWords)

-- ---- commands: the options are checked before the files

abbrev pub wrong_by : List ℕ → List (List ℕ) → List (List ℕ) → Option (List ℕ) → Option (List ℕ)
wrong_by verb files options wrong_options =
    if bytes_eq verb (codes "run") then option_or wrong_options (option_or (wrong_files files) (wrong_run_options options))
    else if bytes_eq verb (codes "asm")
    then option_or wrong_options (option_or (wrong_file files) (wrong_listing (value_of (codes "--out") options) (value_of (codes "--list") options)))
    else if bytes_eq verb (codes "lib") then option_or wrong_options (option_or (wrong_files files) (lacks_out options))
    else if bytes_eq verb (codes "link")
    then option_or wrong_options (option_or (wrong_files files) (option_or (wrong_outputs (value_of (codes "--out") options) (beside_of options)) (wrong_placing options)))
    else if bytes_eq verb (codes "hex") then option_or wrong_options (option_or (wrong_file files) (wrong_extent options))
    else if bytes_eq verb (codes "dis") then option_or wrong_options (wrong_list files)
    else if bytes_eq verb (codes "debug") then option_or wrong_options (wrong_pair files)
    else if bytes_eq verb (codes "gen") then option_or wrong_options (wrong_number files)
    else if bytes_eq verb (codes "vcd") then option_or wrong_options (option_or (wrong_dump files) (lacks_out options))
    else if bytes_eq verb (codes "check") then option_or wrong_options (wrong_check files)
    else if bytes_eq verb (codes "bound") then option_or wrong_options (wrong_bound files)
    else if bytes_eq verb (codes "explain") then option_or wrong_options (wrong_word files)
    else if bytes_eq verb (codes "--help") then option_or wrong_options (wrong_more files)
    else if bytes_eq verb (codes "--version") then option_or wrong_options (wrong_more files)
    else Some (no_command verb)

-- what is asked for would write over a file that it reads
abbrev pub wrong_writes : Option Command → Option (List ℕ)
wrong_writes command = option_map overwrites (overwritten command)

abbrev pub wrong_with : List ℕ → List (List ℕ) → List (List ℕ) → Option (List ℕ)
wrong_with verb files options = option_or (wrong_by verb files options (wrong_option verb options)) (wrong_writes (command_by verb files options))

-- what is wrong in words that ask for no help on a command
abbrev pub plain_usage_of : List (List ℕ) → Option (List ℕ)
plain_usage_of [] = Some (wrong_text wrong.NoWords)
plain_usage_of (verb ∷ words) = wrong_with verb (files_of words) (options_of words)

-- what is wrong in some words, if anything is
abbrev pub usage_of : List (List ℕ) → Option (List ℕ)
usage_of words = if is_some (help_on words) then None else plain_usage_of words

abbrev pub noted : Option (List ℕ) → List ℕ
noted (Some text) = codes "kc96: error: " ++ text ++ codes "; see kc96 --help\n"
noted None = []

-- the diagnostic of some words that are no command
abbrev pub usage_diagnostic : List (List ℕ) → List ℕ
usage_diagnostic words = noted (usage_of words)
