-- The options of a command, each with its value (this kit's own).
use Rattle.std.specs.Prelude.{ℕ, Bool, true, false, not, ◌&&◌, ◌||◌, ◌==◌, List, [], ◌∷◌, ◌++◌, codes, length, Option, Some, None, is_some, is_none, if◌then◌else◌}
use Rattle.std.specs.Option.{option_map, option_and_then, option_map_or, unwrap_or}
use Rattle.std.specs.Str.{bytes_eq}
use Rattle.kc_base.specs.TextLines.{begins_with}
use Rattle.kc_kit_words.specs.declared.command.Wanted.{Wanted}
use Rattle.kc_kit_words.specs.declared.extent.Extent.{Extent}
use Rattle.kc_kit_words.specs.declared.inputs.Role.{Role}
use Rattle.kc_kit_words.specs.declared.inputs.Role.TheVariants as role
use Rattle.kc_kit_words.specs.declared.values.Form.{Form}
use Rattle.kc_kit_words.specs.declared.values.Form.TheVariants as form
use Rattle.kc_kit_words.specs.Values.{is_name, is_dash, is_address, states_of, lives_of, length_of, clock_of, range_of}

-- a word stands where an option does: it begins with `-`, and is more than that
abbrev pub is_option : List ℕ → Bool
is_option word = begins_with 45 word && not (is_dash word)

-- ---- the options that each command takes, with the form of their values

abbrev pub placing_options : List (List ℕ × Form)
placing_options = (codes "--reg", form.Span) ∷ (codes "--code", form.Span) ∷ (codes "--data", form.Span) ∷ (codes "--stack", form.Length) ∷ []

-- the files that say what drives the inputs
abbrev pub driving_options : List (List ℕ × Form)
driving_options = (codes "--stim", form.Input role.Stimuli) ∷ (codes "--analog", form.Input role.Analog) ∷ []

-- how far a board is run, where its profile goes, and what drives its inputs
abbrev pub running_options : List (List ℕ × Form)
running_options = (codes "--states", form.States) ∷ (codes "--lives", form.Lives) ∷ (codes "--profile", form.File) ∷ driving_options

-- what is told beside a bound
abbrev pub wanted_options : List (List ℕ × Form)
wanted_options = (codes "--entered", form.Flag) ∷ (codes "--latency", form.Flag) ∷ (codes "--worst", form.Flag) ∷ []

-- where a pass ends, and the files that say more of its instructions
abbrev pub bound_options : List (List ℕ × Form)
bound_options = (codes "--to", form.Address) ∷ (codes "--notes", form.Input role.Notes) ∷ (codes "--map", form.Input role.Map) ∷ (codes "--lines", form.Input role.Lines) ∷ wanted_options

abbrev pub out_option : List ℕ × Form
out_option = (codes "--out", form.File)

abbrev pub options_for : List ℕ → List (List ℕ × Form)
options_for verb =
    if bytes_eq verb (codes "run") then (codes "--cover", form.File) ∷ running_options ++ placing_options
    else if bytes_eq verb (codes "asm") then out_option ∷ (codes "--list", form.File) ∷ []
    else if bytes_eq verb (codes "lib") then out_option ∷ []
    else if bytes_eq verb (codes "link") then out_option ∷ (codes "--lines", form.File) ∷ (codes "--map", form.File) ∷ (codes "--lib", form.Input role.Library) ∷ placing_options
    else if bytes_eq verb (codes "hex") then running_options
    else if bytes_eq verb (codes "vcd") then out_option ∷ (codes "--clock", form.Clock) ∷ driving_options
    else if bytes_eq verb (codes "check") then (codes "--stim", form.Input role.Stimuli) ∷ (codes "--clock", form.Clock) ∷ []
    else if bytes_eq verb (codes "bound") then bound_options
    else if bytes_eq verb (codes "debug") then (codes "--lines", form.Input role.Lines) ∷ (codes "--lives", form.Lives) ∷ driving_options
    else []

abbrev pub form_among : List ℕ → List (List ℕ × Form) → Option Form
form_among option [] = None
form_among option (o ∷ os) = if bytes_eq option o.0 then Some o.1 else form_among option os

-- the form of the value of an option, where the command takes it
abbrev pub form_of : List ℕ → List ℕ → Option Form
form_of verb option = form_among option (options_for verb)

abbrev pub has_form : Form → List ℕ → Bool
has_form form.States value = is_some (states_of value)
has_form form.Lives value = is_some (lives_of value)
has_form form.Length value = is_some (length_of value)
has_form form.Clock value = is_some (clock_of value)
has_form form.Span value = is_some (range_of value)
has_form form.Address value = is_address value
has_form form.File value = is_name value
has_form (form.Input role) value = is_name value
has_form form.Flag value = length value == 0

-- the command takes the option with this value
abbrev pub takes : List ℕ → List ℕ → List ℕ → Bool
takes verb option value = option_map_or (λ f. has_form f value) (form_of verb option) false

-- ---- options and their values, one after the other

-- a flag is an option that stands without a value; it counts as if the empty word was its value
abbrev pub is_flag : List ℕ → Bool
is_flag word = bytes_eq word (codes "--entered") || bytes_eq word (codes "--latency") || bytes_eq word (codes "--worst")

-- each option with its value
unfoldable pub pairs_of : List (List ℕ) → List (List ℕ × List ℕ)
pairs_of [] = []
pairs_of (word ∷ []) = if is_flag word then (word, []) ∷ [] else []
pairs_of (word ∷ value ∷ words) = if is_flag word then (word, []) ∷ pairs_of (value ∷ words) else (word, value) ∷ pairs_of words

-- a last word that lacks its value
unfoldable pub left_over : List (List ℕ) → Option (List ℕ)
left_over [] = None
left_over (word ∷ []) = if is_flag word then None else Some word
left_over (word ∷ value ∷ words) = if is_flag word then left_over (value ∷ words) else left_over words

-- the first of them, and the words behind
abbrev pub first_pair : List (List ℕ) → Option ((List ℕ × List ℕ) × List (List ℕ))
first_pair [] = None
first_pair (word ∷ []) = if is_flag word then Some ((word, []), []) else None
first_pair (word ∷ value ∷ words) = if is_flag word then Some ((word, []), value ∷ words) else Some ((word, value), words)

-- the value of an option, where it stands
unfoldable pub value_in : List ℕ → List (List ℕ × List ℕ) → Option (List ℕ)
value_in option [] = None
value_in option (pair ∷ pairs) = if bytes_eq pair.0 option then Some pair.1 else value_in option pairs

abbrev pub value_of : List ℕ → List (List ℕ) → Option (List ℕ)
value_of option words = value_in option (pairs_of words)

-- each option is one that the command takes, with a value in its form, and none stands twice
unfoldable pub are_pairs : List ℕ → List (List ℕ × List ℕ) → Bool
are_pairs verb [] = true
are_pairs verb (pair ∷ pairs) = takes verb pair.0 pair.1 && is_none (value_in pair.0 pairs) && are_pairs verb pairs

abbrev pub are_options : List ℕ → List (List ℕ) → Bool
are_options verb words = are_pairs verb (pairs_of words) && is_none (left_over words)

-- ---- the files that options name for reading, in the order of the words

abbrev pub role_in : Option Form → Option Role
role_in (Some (form.Input role)) = Some role
role_in _ = None

-- the role of the file that an option names, where it names one for reading
abbrev pub role_of : List ℕ → List ℕ → Option Role
role_of verb option = role_in (form_of verb option)

abbrev pub with_input : Option Role → List ℕ → List (Role × List ℕ) → List (Role × List ℕ)
with_input (Some role) name more = (role, name) ∷ more
with_input None name more = more

unfoldable pub inputs_among : List ℕ → List (List ℕ × List ℕ) → List (Role × List ℕ)
inputs_among verb [] = []
inputs_among verb (pair ∷ pairs) = with_input (role_of verb pair.0) pair.1 (inputs_among verb pairs)

abbrev pub inputs_of : List ℕ → List (List ℕ) → List (Role × List ℕ)
inputs_of verb words = inputs_among verb (pairs_of words)

-- ---- what the options say

abbrev pub states_in : List (List ℕ) → Option ℕ
states_in options = option_and_then states_of (value_of (codes "--states") options)

abbrev pub lives_in : List (List ℕ) → Option ℕ
lives_in options = option_and_then lives_of (value_of (codes "--lives") options)

abbrev pub extent_in : List (List ℕ) → Option Extent
extent_in options = option_map (λ states. record { states = states; lives = lives_in options }) (states_in options)

abbrev pub range_in : List ℕ → List (List ℕ) → Option (ℕ × ℕ)
range_in option options = option_and_then range_of (value_of option options)

-- the hertz of an oscillator: 20 million without the option
abbrev pub clock_in : List (List ℕ) → ℕ
clock_in options = unwrap_or (option_and_then clock_of (value_of (codes "--clock") options)) 20000000

abbrev pub length_in : List ℕ → List (List ℕ) → Option ℕ
length_in option options = option_and_then length_of (value_of option options)

-- what is told beside a bound
abbrev pub stands : List ℕ → List (List ℕ) → Bool
stands flag options = is_some (value_of flag options)

abbrev pub wanted_in : List (List ℕ) → Wanted
wanted_in options = record { entered = stands (codes "--entered") options; latency = stands (codes "--latency") options; worst = stands (codes "--worst") options }
