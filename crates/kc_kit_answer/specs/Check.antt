-- The command that checks a trace by timing rules (this kit's own). The rules and the stimuli are read whole; the trace comes last,
-- and is read once, line by line, whatever its length.
use Rattle.std.specs.Prelude.{◌≡◌, ℕ, List, [], ◌∷◌, length, drop, Option, Result}
use Rattle.std.specs.Result.{IsOk}
use Rattle.kc_stim.specs.Drives.{Drives}
use Rattle.kc_rules.specs.Lines.{Book, book_of}
use Rattle.kc_events.specs.declared.line.Line.{Line}
use Rattle.kc_events.specs.Lives.{lives_of}
use Rattle.kc_kit_files.specs.Reads.{reads_of, text_of}
use Rattle.kc_kit_files.specs.Response.{Response, Then}
use Rattle.kc_kit_words.specs.declared.inputs.Role.{Role}
use Rattle.kc_kit_words.specs.Commands.{names_whole}
use Rattle.kc_kit_verdict.specs.Runs.{count_lives, verdict_response}
use Rattle.kc_kit_inputs.specs.Driving.{given_for}
use Rattle.kc_kit_inputs.specs.Rules.{rules_of}
use Rattle.kc_kit_inputs.specs.Runs.{RunIs, IsRunText}
use Rattle.kc_kit_inputs.specs.Stimuli.{drives_of}
use Rattle.kc_kit_answer.specs.Accepting.{Accepting}

-- ---- what is answered to files

-- the run whose trace is a text, with what drives its inputs, by the rules of another text
abbrev pub Checked : List ℕ → List ℕ → List ℕ → List ℕ → Book → Drives → Response → Type 0
Checked trace printed rules text book drives response =
    (run : Result (List Line) Response) × RunIs trace printed run
    × Then run (λ lines response. response ≡ verdict_response rules text book (count_lives lines) (lives_of drives lines)) response

-- the rules are checked first, then the stimuli, and the trace last
abbrev pub CheckAnswer : List ℕ → List ℕ → List (Role × List ℕ) → ℕ → List ℕ → List ℕ → List (List ℕ) → Response → Type 0
CheckAnswer trace rules inputs clock printed text more response =
    Then (rules_of rules clock text) (λ book. Then (drives_of (given_for inputs more).stimuli) (Checked trace printed rules text book)) response

-- the same of the texts of the rules and of the inputs, in one list
abbrev pub CheckTexts : List ℕ → List ℕ → List (Role × List ℕ) → ℕ → List ℕ → List (List ℕ) → Response → Type 0
CheckTexts trace rules inputs clock printed (text ∷ more) response = CheckAnswer trace rules inputs clock printed text more response
CheckTexts trace rules inputs clock printed [] response = ⊥

-- of what the name of the trace holds, alone
abbrev pub TraceThen : List ℕ → (List ℕ → Response → Type 0) → List (Option (List ℕ)) → Response → Type 0
TraceThen trace may (content ∷ []) response = Then (text_of trace content) may response
TraceThen trace may _ response = ⊥

-- The rules and the inputs are read before the trace is opened, and all files are there before any is checked.
abbrev pub CheckFiles : List ℕ → List ℕ → List (Role × List ℕ) → ℕ → List (Option (List ℕ)) → Response → Type 0
CheckFiles trace rules inputs clock contents response =
    Then (reads_of (names_whole rules inputs) contents)
    (λ texts. TraceThen trace (λ printed. CheckTexts trace rules inputs clock printed texts) (drop (length (names_whole rules inputs)) contents)) response

-- ---- what is accepted: rules, stimuli, and the trace of a run

abbrev pub AreCheckable : List (Role × List ℕ) → ℕ → List ℕ → List (List ℕ) → Type 0
AreCheckable inputs clock printed [] = ⊥
AreCheckable inputs clock printed (text ∷ more) =
    IsOk (book_of clock text) × IsOk (drives_of (given_for inputs more).stimuli) × ((lines : List Line) × IsRunText printed lines)

abbrev pub IsTraceHeld : List ℕ → (List ℕ → Type 0) → List (Option (List ℕ)) → Type 0
IsTraceHeld trace accepts (content ∷ []) = Accepting accepts (text_of trace content)
IsTraceHeld trace accepts _ = ⊥

abbrev pub CheckAccepted : List ℕ → List ℕ → List (Role × List ℕ) → ℕ → List (Option (List ℕ)) → Type 0
CheckAccepted trace rules inputs clock contents =
    Accepting (λ texts. IsTraceHeld trace (λ printed. AreCheckable inputs clock printed texts) (drop (length (names_whole rules inputs)) contents))
    (reads_of (names_whole rules inputs) contents)
