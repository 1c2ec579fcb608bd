-- What is left to do once a command's files are read and checked (this kit's own).
use Rattle.std.specs.Prelude.{◌≡◌, ℕ, ◌≤◌, Bool, true, false, List, [], ◌∷◌, ◌++◌, Option, Some, None, Result, Ok, Err}
use Rattle.kc_code.specs.Listing.{listing}
use Rattle.kc_base.specs.Held.{Holding}
use Rattle.kc_base.specs.Limits.{image_start}
use Rattle.kc_obj_module.specs.Object.{Object}
use Rattle.kc_link_place.specs.declared.ranges.Ranges.{Ranges}
use Rattle.kc_link_place.specs.declared.placing.Placement.{Placement}
use Rattle.kc_link_place.specs.Placements.{IsPlacement}
use Rattle.kc_link.specs.Placed.{placed}
use Rattle.kc_kit_files.specs.declared.status.Status.{Status}
use Rattle.kc_kit_files.specs.declared.status.Status.TheVariants as status
use Rattle.kc_kit_files.specs.Outside.{OnlyRead}
use Rattle.kc_kit_files.specs.declared.refusal.Refusal.{Refusal}
use Rattle.kc_kit_files.specs.Response.{Response, Write, says, reports, done_writing, IsRefused, IsSaid}
use Rattle.kc_kit_words.specs.Asked.{AreLives, IsBounded, behind_in}
use Rattle.kc_kit_words.specs.Commands.{Command}
use Rattle.kc_kit_inputs.specs.declared.driving.Driving.{Driving}
use Rattle.kc_kit_inputs.specs.FaultDiagnostics.{IsFaultDiagnostic}
use Rattle.kc_kit_running.specs.declared.accounts.Lines.{Lines}
use Rattle.kc_kit_running.specs.declared.board.Board.{Board}
use Rattle.kc_kit_answer.specs.declared.job.Job.{Job}
use Rattle.kc_kit_answer.specs.declared.job.Job.TheVariants as job
use Rattle.kc_kit_running.specs.declared.output.Output.{Output}
use Rattle.kc_kit_answer.specs.Answer.{MayAnswerBy}
use Rattle.kc_kit_answer.specs.Places.{places_of}
use Rattle.kc_kit_running.specs.Scripted.{debugger_response}
use Rattle.kc_kit_running.specs.Counted.{summary_of}
use Rattle.kc_kit_running.specs.Lives.{board_response}
use Rattle.kc_kit_running.specs.Profiled.{Known, known, profile_response}
use Rattle.kc_kit_running.specs.Sources.{ArePlacedIn, FileLines, lines_in}
use Rattle.kc_kit_running.specs.declared.sources.Sources.{Sources}
use Rattle.kc_kit_running.specs.Writing.{written}

abbrev pub maybe_written : Option Output → List Write
maybe_written None = []
maybe_written (Some o) = written o ∷ []

-- the status of a verdict
abbrev pub status_of : Bool → Status
status_of true = status.Broken
status_of false = status.Done

-- the response of a job
abbrev pub does : Job → Response
does (job.Run board sources extent) = board_response (lines_in sources) extent board.driving board.image
does (job.Profile board extent lines behind) = profile_response extent (behind_in behind) (known lines) board.driving board.image
does (job.Count board number) = summary_of number board.driving board.image
does (job.List image first last) = says status.Done (listing image first last)
does (job.Debug board lives script lines) = debugger_response lives lines script board.driving board.image
does (job.Report verdict) = reports (status_of verdict.is_broken) verdict.text.items verdict.diagnostic.items
does (job.Write file lines map) = done_writing (written file ∷ maybe_written lines ++ maybe_written map)

-- state times and lives within their limits, and addresses in order
abbrev pub IsDoable : Job → Type 0
IsDoable (job.Run board sources extent) = IsBounded extent × ArePlacedIn sources
IsDoable (job.Profile board extent lines behind) = IsBounded extent × ArePlacedIn lines.linked
IsDoable (job.Count board number) = Unit {0}
IsDoable (job.List image first last) = (image_start ≤ first) × (first ≤ last)
IsDoable (job.Debug board lives script lines) = AreLives lives
IsDoable (job.Report verdict) = Unit {0}
IsDoable (job.Write file lines map) = Unit {0}

-- where modules stand; or the refusal of the first broken rule
abbrev pub IsPlaced : List (List ℕ) → Ranges → List Object → Result Placement Refusal → Type 0
IsPlaced names ranges ms (Ok p) = IsPlacement ms (placed ms ranges) p
IsPlaced names ranges ms (Err refusal) = IsRefused (λ response. places_of names ms ranges ≡ Err response) refusal

-- a board with an image and what drives its inputs, on which what is answered depends; or a refusal that may be answered
abbrev pub IsBoard : ((Driving → List ℕ → Response) → Response → Type 0) → Result Board Refusal → Type 0
IsBoard answer (Ok board) = (report : Driving → List ℕ → Response) → answer report (report board.driving board.image)
IsBoard answer (Err refusal) = (report : Driving → List ℕ → Response) → IsRefused (answer report) refusal

-- a board with the sources of its image
abbrev pub IsBoardOfSources : ((FileLines → Driving → List ℕ → Response) → Response → Type 0) → Result (Board × Sources) Refusal → Type 0
IsBoardOfSources answer (Ok made) =
    ArePlacedIn (Some made.1) × ((report : FileLines → Driving → List ℕ → Response) → answer report (report (lines_in (Some made.1)) made.0.driving made.0.image))
IsBoardOfSources answer (Err refusal) = (report : FileLines → Driving → List ℕ → Response) → IsRefused (answer report) refusal

-- a board with what is known of the lines of its sources
abbrev pub IsBoardWithLines : ((Known → Driving → List ℕ → Response) → Response → Type 0) → Result (Board × Lines) Refusal → Type 0
IsBoardWithLines answer (Ok made) =
    ArePlacedIn made.1.linked × ((report : Known → Driving → List ℕ → Response) → answer report (report (known made.1) made.0.driving made.0.image))
IsBoardWithLines answer (Err refusal) = (report : Known → Driving → List ℕ → Response) → IsRefused (answer report) refusal

-- a job or a refusal, of which the response may be given
abbrev pub IsPrepared : (Response → Type 0) → Result Job Refusal → Type 0
IsPrepared may (Ok job) = may (does job) × IsDoable job
IsPrepared may (Err refusal) = IsRefused may refusal

-- the job or the refusal that a command comes to once its files are read and checked; the files stay
pub record Prepares {T : Type 0} (held : T → Option Holding) (reads writes : T → ℕ) (command : Command) (old : T) (given : Result Job Refusal) (new : T) : Type 0 where
  pub answer : IsPrepared (MayAnswerBy IsFaultDiagnostic held reads (Some command) old new) given
  pub only_read : OnlyRead held reads writes old new

abbrev pub IsReady : Result Job Refusal → Type 0
IsReady (Ok job) = IsDoable job
IsReady (Err refusal) = Unit {0}

-- the response of a job or of a refusal
abbrev pub IsOf : Result Job Refusal → Response → Type 0
IsOf (Ok job) response = response ≡ does job
IsOf (Err refusal) response = IsSaid refusal response
