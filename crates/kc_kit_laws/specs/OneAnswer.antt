-- Laws of the commands: what is answered to a command, over what the files hold, is one, and so is what is said of it in words (this
-- kit's own).
use Rattle.std.specs.Prelude.{◌≡◌, ◌≢◌, ℕ, List, [], Option, Some, None}
use Rattle.kc_base.specs.Causes.{Rose}
use Rattle.kc_base.specs.Held.{Holding}
use Rattle.kc_kit_files.specs.declared.status.Status.{Status}
use Rattle.kc_kit_files.specs.declared.status.Status.TheVariants.{NoMemory, WriteFault}
use Rattle.kc_kit_files.specs.Response.{Response}
use Rattle.kc_kit_files.specs.Outside.{Kept, Shown, Responses}
use Rattle.kc_kit_words.specs.Commands.{Command, Bounds}
use Rattle.kc_kit_inputs.specs.FaultDiagnostics.{IsFaultDiagnostic}
use Rattle.kc_kit_inputs.specs.Sources.{AnyDiagnostic}
use Rattle.kc_kit_answer.specs.Answer.{CommandAnswer, MayAnswer}

-- what a response does, without what is said of it in words
abbrev pub silent : Response → Response
silent response = record { status = response.status; text = response.text; pauses = response.pauses; writes = response.writes; diagnostic = [] }

-- `bound` is left out: it has an answer for each certificate that may be found, and lines of refusals of which nothing is claimed
abbrev pub HasOneAnswer : Option Command → Type 0
HasOneAnswer (Some (Bounds file from to inputs wanted)) = ⊥
HasOneAnswer _ = Unit {0}

-- two responses to another command over the same contents of the files that it reads do the same, whatever is said of a fault of a source
abbrev pub OneAnswer : Type 0
OneAnswer =
    (command : Option Command) (contents : List (Option (List ℕ))) (response other : Response)
    → HasOneAnswer command → CommandAnswer AnyDiagnostic command contents response → CommandAnswer AnyDiagnostic command contents other → silent response ≡ silent other

-- and with the diagnostics of such faults they are the same
abbrev pub OneDiagnostic : Type 0
OneDiagnostic =
    (command : Option Command) (contents : List (Option (List ℕ))) (response other : Response)
    → HasOneAnswer command → CommandAnswer IsFaultDiagnostic command contents response → CommandAnswer IsFaultDiagnostic command contents other → response ≡ other

-- ---- calls

-- A call with a command, by what it left: files that held this and a sink that was given that. A lack of memory and faults of the
-- outside are left aside: no read failed (reads: their count before and after), and the status is of another kind.
pub record IsCall (command : Option Command) (held : Holding) (given : List ℕ) (s : Status) (files : Kept) (sink : Shown) : Type 0 where
  pub memory : s ≢ NoMemory
  pub write : s ≢ WriteFault
  pub reads : ℕ × ℕ
  pub well_read : ¬ Rose reads.0 reads.1
  pub old : Kept
  pub holds : old.held ≡ Some held
  pub before : Shown
  pub shows : before.written ≡ Some given
  pub answered : Responses (MayAnswer AnyDiagnostic command (Some held) (Rose reads.0 reads.1)) old before s files sink

-- files report that each name holds the same
abbrev pub HoldSame : Option Holding → Option Holding → Type 0
HoldSame (Some now) (Some other) = (name : List ℕ) → now name ≡ other name
HoldSame (Some now) None = ⊥
HoldSame None _ = ⊥

pub record AreSame (s : Status) (files : Kept) (sink : Shown) (t : Status) (others : Kept) (other : Shown) : Type 0 where
  pub status : s ≡ t
  pub written : sink.written ≡ other.written
  pub held : HoldSame files.held others.held

-- two calls with such a command, over files that held the same and sinks that were given the same, leave the same
abbrev pub OneOutcome : Type 0
OneOutcome =
    (command : Option Command) (held : Holding) (given : List ℕ) (s t : Status) (files others : Kept) (sink other : Shown)
    → HasOneAnswer command → IsCall command held given s files sink → IsCall command held given t others other → AreSame s files sink t others other
