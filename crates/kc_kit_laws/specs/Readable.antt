-- A law of the commands: what is written for commands to read is not refused as too long (this kit's own).
use Rattle.std.specs.Prelude.{◌≡◌, ◌≢◌, ◌⊎◌, ℕ, List, [], ◌∷◌, ◌++◌, map, Option, Some, Ok}
use Rattle.std.specs.Option.{option_to_list}
use Rattle.kc_kit_files.specs.declared.status.Status.TheVariants as status
use Rattle.kc_kit_files.specs.Reads.{read_of}
use Rattle.kc_kit_files.specs.Response.{Response, Write}
use Rattle.kc_kit_words.specs.Commands.{Command, Assembles, Packs, Links}
use Rattle.kc_kit_inputs.specs.Sources.{AnyDiagnostic}
use Rattle.kc_kit_answer.specs.Answer.{CommandAnswer}

-- the files that a command writes for commands to read: an object, a library, a hex file and a line map. Those behind them, and
-- those of other commands, are read by none.
abbrev pub names_for_commands : Option Command → List (List ℕ)
names_for_commands (Some (Assembles file out list)) = out ∷ []
names_for_commands (Some (Packs files out)) = out ∷ []
names_for_commands (Some (Links files inputs out beside placing)) = out ∷ option_to_list beside.lines
names_for_commands _ = []

-- each of these names is read where it holds what is written
abbrev pub AreReadAgain : List Write → Type 0
AreReadAgain [] = Unit {0}
AreReadAgain (w ∷ ws) = (read_of w.name (Some w.bytes) ≡ Ok w.bytes) × AreReadAgain ws

-- first files of these names are written, which are read again; or no file, and the status is not that of what is done
abbrev pub IsReadable : List (List ℕ) → Response → Type 0
IsReadable names response =
    ((readable others : List Write) × (response.writes ≡ readable ++ others) × (map (λ w. w.name) readable ≡ names) × AreReadAgain readable)
    ⊎ ((response.status ≢ status.Done) × (response.writes ≡ []))

-- whatever is answered to a command, over what the files hold
abbrev pub WrittenIsReadable : Type 0
WrittenIsReadable =
    (command : Option Command) (contents : List (Option (List ℕ))) (response : Response)
    → CommandAnswer AnyDiagnostic command contents response → IsReadable (names_for_commands command) response
