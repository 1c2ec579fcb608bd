-- What a command line can ask for, and the files that it names then (this kit's own).
use Rattle.std.specs.Prelude.{ℕ, Bool, List, [], ◌∷◌, ◌++◌, map, find, Option, Some, None, is_none, if◌then◌else◌}
use Rattle.std.specs.List.{list_any}
use Rattle.std.specs.Option.{option_to_list}
use Rattle.std.specs.Str.{bytes_eq}
use Rattle.kc_link_place.specs.declared.ranges.Ranges.{Ranges}
use Rattle.kc_kit_words.specs.declared.command.Wanted.{Wanted}
use Rattle.kc_kit_words.specs.declared.extent.Extent.{Extent}
use Rattle.kc_kit_words.specs.declared.inputs.Role.{Role}

-- the files that are written beside a hex file, where they are asked for
pub record Beside : Type 0 where
  pub lines : Option (List ℕ)
  pub map : Option (List ℕ)

-- the files that are written behind a run, where they are asked for
pub record Behind : Type 0 where
  pub profile : Option (List ℕ)
  pub cover : Option (List ℕ)

-- A command. Beside its first files it may have further ones to be read, each for a role.
pub data Command : Type 0 where
  Helps : Command
  HelpsOn : List ℕ → Command
  ReportsVersion : Command
  Runs : List (List ℕ) → List (Role × List ℕ) → Extent → Ranges → Command
  Profiles : List (List ℕ) → List (Role × List ℕ) → Extent → Ranges → Behind → Command
  Assembles : List ℕ → List ℕ → Option (List ℕ) → Command
  Packs : List (List ℕ) → List ℕ → Command
  Links : List (List ℕ) → List (Role × List ℕ) → List ℕ → Beside → Ranges → Command
  RunsHex : List ℕ → List (Role × List ℕ) → Extent → Command
  ProfilesHex : List ℕ → List (Role × List ℕ) → Extent → List ℕ → Command
  Lists : List ℕ → ℕ → ℕ → Command
  Debugs : List ℕ → List ℕ → List (Role × List ℕ) → Option ℕ → Command
  Generates : ℕ → Command
  Dumps : List ℕ → List (Role × List ℕ) → List ℕ → ℕ → Command
  Checks : List ℕ → List ℕ → List (Role × List ℕ) → ℕ → Command
  Bounds : List ℕ → List ℕ → Option (List ℕ) → List (Role × List ℕ) → Wanted → Command
  Explains : List ℕ → Command

-- ---- the files that a command names: those that are read, in this order, and those that are written

-- those that options name for reading
abbrev pub names_of : List (Role × List ℕ) → List (List ℕ)
names_of inputs = map (λ i. i.1) inputs

-- those that `check` reads whole; a trace comes behind them, here and for `vcd`, since it is read once, piece by piece
abbrev pub names_whole : List ℕ → List (Role × List ℕ) → List (List ℕ)
names_whole rules inputs = rules ∷ names_of inputs

abbrev pub names_read : Option Command → List (List ℕ)
names_read (Some (Runs files inputs extent placing)) = files ++ names_of inputs
names_read (Some (Assembles file out list)) = file ∷ []
names_read (Some (Packs files out)) = files
names_read (Some (Links files inputs out beside placing)) = files ++ names_of inputs
names_read (Some (Profiles files inputs extent placing behind)) = files ++ names_of inputs
names_read (Some (ProfilesHex file inputs extent out)) = file ∷ names_of inputs
names_read (Some (RunsHex file inputs extent)) = file ∷ names_of inputs
names_read (Some (Lists file first last)) = file ∷ []
names_read (Some (Debugs file script inputs lives)) = file ∷ script ∷ names_of inputs
names_read (Some (Dumps trace inputs out clock)) = names_of inputs ++ trace ∷ []
names_read (Some (Checks trace rules inputs clock)) = names_whole rules inputs ++ trace ∷ []
names_read (Some (Bounds file from to inputs wanted)) = file ∷ names_of inputs
names_read _ = []

-- the files beside a hex file
abbrev pub names_beside : Beside → List (List ℕ)
names_beside beside = option_to_list beside.lines ++ option_to_list beside.map

-- the files behind a run
abbrev pub names_behind : Behind → List (List ℕ)
names_behind behind = option_to_list behind.profile ++ option_to_list behind.cover

abbrev pub names_written : Option Command → List (List ℕ)
names_written (Some (Assembles file out list)) = out ∷ option_to_list list
names_written (Some (Packs files out)) = out ∷ []
names_written (Some (Links files inputs out beside placing)) = out ∷ names_beside beside
names_written (Some (Dumps trace inputs out clock)) = out ∷ []
names_written (Some (Profiles files inputs extent placing behind)) = names_behind behind
names_written (Some (ProfilesHex file inputs extent out)) = out ∷ []
names_written _ = []

-- ---- a command writes no file that it reads

abbrev pub is_read : Option Command → List ℕ → Bool
is_read command name = list_any (λ read. bytes_eq read name) (names_read command)

-- the first file that a command writes and reads
abbrev pub overwritten : Option Command → Option (List ℕ)
overwritten command = find (is_read command) (names_written command)

-- the command, where there is no such file
abbrev pub sparing : Option Command → Option Command
sparing command = if is_none (overwritten command) then command else None
