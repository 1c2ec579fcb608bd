-- What the kit answers to a command line over what the files hold (this kit's own).
use Rattle.std.specs.Prelude.{◌≡◌, true, false, ◌≢◌, ◌⊎◌, ℕ, List, [], ◌∷◌, ◌++◌, length, take, drop, Option, Some, None}
use Rattle.std.specs.Result.{IsOk}
use Rattle.kc_base.specs.Causes.{Rose}
use Rattle.kc_base.specs.Held.{Holding}
use Rattle.kc_hex.specs.Records.{image_of}
use Rattle.kc_kit_messages.specs.Codes.{all_codes}
use Rattle.kc_kit_messages.specs.Meanings.{is_among}
use Rattle.kc_kit_files.specs.declared.status.Status.{Status}
use Rattle.kc_kit_files.specs.declared.status.Status.TheVariants as status
use Rattle.kc_kit_files.specs.Response.{Response, says, Then}
use Rattle.kc_kit_files.specs.Reads.{reads_of, Holds, FailedRead}
use Rattle.kc_kit_words.specs.declared.inputs.Role.{Role}
use Rattle.kc_kit_words.specs.Commands.{Command, Helps, HelpsOn, ReportsVersion, Runs, Profiles, Assembles, Packs, Links, RunsHex, ProfilesHex, Lists, Debugs, Generates, Dumps, Checks, Bounds, Explains, names_of, names_read}
use Rattle.kc_kit_inputs.specs.Driving.{given_for, driving_of}
use Rattle.kc_kit_inputs.specs.Sources.{DiagnosticRule}
use Rattle.kc_kit_answer.specs.Accepting.{Accepting, IsOneText, AreTwoTexts}
use Rattle.kc_kit_answer.specs.Assemble.{AssembleAnswer, IsAssemblable}
use Rattle.kc_kit_answer.specs.Bound.{BoundAnswer, AreBoundable}
use Rattle.kc_kit_answer.specs.Check.{CheckFiles, CheckAccepted}
use Rattle.kc_kit_answer.specs.Debug.{DebugAnswer, IsDebuggable}
use Rattle.kc_kit_answer.specs.Dump.{DumpFiles, DumpAccepted}
use Rattle.kc_kit_answer.specs.Explain.{explained}
use Rattle.kc_kit_answer.specs.Generate.{GenerateAnswer, IsGenerable}
use Rattle.kc_kit_answer.specs.Help.{help_text, help_on}
use Rattle.kc_kit_answer.specs.Hex.{RunHexAnswer, ListAnswer}
use Rattle.kc_kit_answer.specs.Lines.{version_line, usage_line}
use Rattle.kc_kit_answer.specs.Link.{LinkAnswer, AreLinkable}
use Rattle.kc_kit_answer.specs.Pack.{PackAnswer, ArePackable}
use Rattle.kc_kit_answer.specs.Run.{RunAnswer, AreRunnable}
use Rattle.kc_kit_answer.specs.Profile.{ProfileAnswer, ProfileHexAnswer}

-- ---- commands

-- the one file of a command
abbrev pub OneText : (List ℕ → Response → Type 0) → List (List ℕ) → Response → Type 0
OneText may (text ∷ []) response = may text response
OneText may _ response = ⊥

-- the two first files of a command
abbrev pub TwoTexts : (List ℕ → List ℕ → Response → Type 0) → List (List ℕ) → Response → Type 0
TwoTexts may (text ∷ other ∷ []) response = may text other response
TwoTexts may _ response = ⊥

-- the texts of so many first files, and those of the inputs behind them
abbrev pub Parted : ℕ → (List (List ℕ) → List (List ℕ) → Response → Type 0) → List (List ℕ) → Response → Type 0
Parted count may texts response = may (take count texts) (drop count texts) response

-- what may be answered, over what the files that are read hold, in the order of their names; the rule says which diagnostics may be said
-- of a fault of a source
abbrev pub CommandAnswer : DiagnosticRule → Option Command → List (Option (List ℕ)) → Response → Type 0
CommandAnswer IsDiagnostic None contents response = response ≡ says status.Usage usage_line
CommandAnswer IsDiagnostic (Some Helps) contents response = response ≡ says status.Done help_text
CommandAnswer IsDiagnostic (Some (HelpsOn verb)) contents response = response ≡ says status.Done (help_on verb)
CommandAnswer IsDiagnostic (Some ReportsVersion) contents response = response ≡ says status.Done version_line
CommandAnswer IsDiagnostic (Some (Runs files inputs extent placing)) contents response = Then (reads_of (files ++ names_of inputs) contents) (Parted (length files) (RunAnswer IsDiagnostic files inputs extent placing)) response
CommandAnswer IsDiagnostic (Some (Profiles files inputs extent placing behind)) contents response =
    Then (reads_of (files ++ names_of inputs) contents) (Parted (length files) (ProfileAnswer IsDiagnostic files inputs extent placing behind)) response
CommandAnswer IsDiagnostic (Some (ProfilesHex file inputs extent out)) contents response =
    Then (reads_of (file ∷ names_of inputs) contents) (Parted 1 (λ texts more. OneText (λ text. ProfileHexAnswer file inputs extent out text more) texts)) response
CommandAnswer IsDiagnostic (Some (Assembles file out list)) contents response = Then (reads_of (file ∷ []) contents) (OneText (AssembleAnswer IsDiagnostic file out list)) response
CommandAnswer IsDiagnostic (Some (Packs files out)) contents response = Then (reads_of files contents) (PackAnswer files out) response
CommandAnswer IsDiagnostic (Some (Links files inputs out beside placing)) contents response =
    Then (reads_of (files ++ names_of inputs) contents) (Parted (length files) (LinkAnswer files inputs out beside placing)) response
CommandAnswer IsDiagnostic (Some (RunsHex file inputs extent)) contents response =
    Then (reads_of (file ∷ names_of inputs) contents) (Parted 1 (λ texts more. OneText (λ text. RunHexAnswer file inputs extent text more) texts)) response
CommandAnswer IsDiagnostic (Some (Lists file first last)) contents response = Then (reads_of (file ∷ []) contents) (OneText (ListAnswer file first last)) response
CommandAnswer IsDiagnostic (Some (Debugs file script inputs lives)) contents response =
    Then (reads_of (file ∷ script ∷ names_of inputs) contents) (Parted 2 (λ texts more. TwoTexts (λ text commands. DebugAnswer file script inputs lives text commands more) texts)) response
CommandAnswer IsDiagnostic (Some (Generates number)) contents response = GenerateAnswer IsDiagnostic number response
CommandAnswer IsDiagnostic (Some (Dumps trace inputs out clock)) contents response = DumpFiles trace inputs out clock contents response
CommandAnswer IsDiagnostic (Some (Checks trace rules inputs clock)) contents response = CheckFiles trace rules inputs clock contents response
CommandAnswer IsDiagnostic (Some (Bounds file from to inputs wanted)) contents response =
    Then (reads_of (file ∷ names_of inputs) contents) (Parted 1 (λ texts more. OneText (λ text. BoundAnswer file from to inputs wanted text more) texts)) response
CommandAnswer IsDiagnostic (Some (Explains code)) contents response = response ≡ explained code

-- What may be answered to a command, over what the files report that they hold: all files are read before any is checked. A read may
-- fail where the count of failed reads rose.
abbrev pub MayAnswer : DiagnosticRule → Option Command → Option Holding → Type 0 → Response → Type 0
MayAnswer IsDiagnostic command reported rose response =
    (contents : List (Option (List ℕ))) × Holds reported (names_read command) contents × (CommandAnswer IsDiagnostic command contents response ⊎ FailedRead (names_read command) contents rose response)

-- the same of files, by what they report of themselves before and after the command
abbrev pub MayAnswerBy : {T : Type 0} → DiagnosticRule → (T → Option Holding) → (T → ℕ) → Option Command → T → T → Response → Type 0
MayAnswerBy IsDiagnostic held reads command old new response = MayAnswer IsDiagnostic command (held old) (Rose (reads old) (reads new)) response

-- ---- what is accepted: a command, each file held within its limit and in its form, no source with a fault, no rule of the linker
-- ---- broken, what is to be written for commands within the limit of a file, and a code where one is to be explained

abbrev pub IsAccepted : Option Command → List (Option (List ℕ)) → Type 0
IsAccepted None contents = ⊥
IsAccepted (Some Helps) contents = Unit {0}
IsAccepted (Some (HelpsOn verb)) contents = Unit {0}
IsAccepted (Some ReportsVersion) contents = Unit {0}
IsAccepted (Some (Runs files inputs extent placing)) contents =
    Accepting (λ texts. AreRunnable files inputs placing (take (length files) texts) (drop (length files) texts)) (reads_of (files ++ names_of inputs) contents)
IsAccepted (Some (Profiles files inputs extent placing behind)) contents =
    Accepting (λ texts. AreRunnable files inputs placing (take (length files) texts) (drop (length files) texts)) (reads_of (files ++ names_of inputs) contents)
IsAccepted (Some (ProfilesHex file inputs extent out)) contents =
    Accepting (λ texts. IsOneText (λ text. IsOk (image_of text)) (take 1 texts) × IsOk (driving_of (given_for inputs (drop 1 texts)))) (reads_of (file ∷ names_of inputs) contents)
IsAccepted (Some (Assembles file out list)) contents = Accepting (IsOneText IsAssemblable) (reads_of (file ∷ []) contents)
IsAccepted (Some (Packs files out)) contents = Accepting (ArePackable files) (reads_of files contents)
IsAccepted (Some (Links files inputs out beside placing)) contents =
    Accepting (λ texts. AreLinkable files inputs beside.lines placing (take (length files) texts) (drop (length files) texts)) (reads_of (files ++ names_of inputs) contents)
IsAccepted (Some (RunsHex file inputs extent)) contents =
    Accepting (λ texts. IsOneText (λ text. IsOk (image_of text)) (take 1 texts) × IsOk (driving_of (given_for inputs (drop 1 texts)))) (reads_of (file ∷ names_of inputs) contents)
IsAccepted (Some (Lists file first last)) contents = Accepting (IsOneText (λ text. IsOk (image_of text))) (reads_of (file ∷ []) contents)
IsAccepted (Some (Debugs file script inputs lives)) contents =
    Accepting (λ texts. AreTwoTexts (λ text commands. IsDebuggable script inputs text commands (drop 2 texts)) (take 2 texts)) (reads_of (file ∷ script ∷ names_of inputs) contents)
IsAccepted (Some (Generates number)) contents = IsGenerable number
IsAccepted (Some (Dumps trace inputs out clock)) contents = DumpAccepted trace inputs contents
IsAccepted (Some (Checks trace rules inputs clock)) contents = CheckAccepted trace rules inputs clock contents
IsAccepted (Some (Bounds file from to inputs wanted)) contents =
    Accepting (λ texts. AreBoundable true from to inputs (take 1 texts) (drop 1 texts)) (reads_of (file ∷ names_of inputs) contents)
IsAccepted (Some (Explains code)) contents = is_among code all_codes ≡ true

-- how a command may end whose files are accepted: a check says with its status whether a rule is broken, a bound whether one is found, a
-- run whether it has ended in an undefined use
abbrev pub EndsAccepted : Option Command → Status → Type 0
EndsAccepted (Some (Checks trace rules inputs clock)) given = (given ≡ status.Done) ⊎ ((given ≡ status.Broken) ⊎ (given ≡ status.NoMemory))
EndsAccepted (Some (Bounds file from to inputs wanted)) given = (given ≡ status.Done) ⊎ ((given ≡ status.Broken) ⊎ (given ≡ status.NoMemory))
EndsAccepted _ given = (given ≡ status.Done) ⊎ ((given ≡ status.Undefined) ⊎ (given ≡ status.NoMemory))

-- ---- what is answered as words are that are no command: those, and words that ask for a bound from or to a word that is no address of
-- ---- the ROM, by what the files hold

abbrev pub AsksForNoAddress : List ℕ → List ℕ → Option (List ℕ) → List (Role × List ℕ) → List (Option (List ℕ)) → Type 0
AsksForNoAddress file from to inputs contents =
    Accepting (λ texts. AreBoundable false from to inputs (take 1 texts) (drop 1 texts)) (reads_of (file ∷ names_of inputs) contents)

abbrev pub IsUsage : Option Command → Option Holding → Type 0
IsUsage None reported = Unit {0}
IsUsage (Some (Bounds file from to inputs wanted)) reported =
    (contents : List (Option (List ℕ))) × Holds reported (file ∷ names_of inputs) contents × AsksForNoAddress file from to inputs contents
IsUsage _ reported = ⊥

-- ---- no name changes but those of files that are written

-- a name is not one of these
abbrev pub IsNone : List ℕ → List (List ℕ) → Type 0
IsNone name [] = Unit {0}
IsNone name (n ∷ ns) = (name ≢ n) × IsNone name ns

abbrev pub StaysBut : List (List ℕ) → Holding → Option Holding → Type 0
StaysBut names before None = ⊥
StaysBut names before (Some now) = (name : List ℕ) → IsNone name names → now name ≡ before name
