-- What a command answers: a status, a text that is printed, files that are written, in this order, and for a refusal what is said
-- of it in words, on standard error (this kit's own).
use Rattle.std.specs.Prelude.{◌≡◌, ℕ, List, [], ◌∷◌, Result, Ok, Err}
use Rattle.kc_kit_files.specs.declared.status.Status.{Status}
use Rattle.kc_kit_files.specs.declared.status.Status.TheVariants as status
use Rattle.kc_kit_files.specs.declared.refusal.Cause.{Cause}
use Rattle.kc_kit_files.specs.declared.refusal.Cause.TheVariants as cause
use Rattle.kc_kit_files.specs.declared.refusal.Refusal.{Refusal}
use Rattle.kc_kit_files.specs.declared.refusal.Refusal.TheVariants as refusals

-- a file that is written
pub record Write : Type 0 where
  pub name : List ℕ
  pub bytes : List ℕ

abbrev pub write : List ℕ → List ℕ → Write
write name bytes = record { name = name; bytes = bytes }

-- Memory may be wanted before anything is printed or written. Behind a text that has begun it may be wanted only where that is
-- one of the pauses, which are prefixes of the text.
pub record Response : Type 0 where
  pub status : Status
  pub text : List ℕ
  pub pauses : List (List ℕ)
  pub writes : List Write
  pub diagnostic : List ℕ

-- this status with this text, in which there are these pauses, and no file
abbrev pub says_with : Status → List ℕ → List (List ℕ) → Response
says_with status text pauses = record { status = status; text = text; pauses = pauses; writes = []; diagnostic = [] }

-- this status with this text at once, and no file
abbrev pub says : Status → List ℕ → Response
says status text = says_with status text []

-- the same with a diagnostic
abbrev pub reports : Status → List ℕ → List ℕ → Response
reports status text diagnostic = record { status = status; text = text; pauses = []; writes = []; diagnostic = diagnostic }

-- this status with this text, behind which memory may be wanted, and then these files
abbrev pub says_writing : Status → List ℕ → List Write → Response
says_writing status text writes = record { status = status; text = text; pauses = text ∷ []; writes = writes; diagnostic = [] }

-- these files, and no text
abbrev pub done_writing : List Write → Response
done_writing writes = record { status = status.Done; text = []; pauses = []; writes = writes; diagnostic = [] }

-- a step gives a value, or a response; with the value the answer goes on
abbrev pub Then : {A : Type 0} → Result A Response → (A → Response → Type 0) → Response → Type 0
Then (Ok a) may response = may a response
Then (Err refusal) may response = response ≡ refusal

-- the values of steps, or the first response
abbrev pub before : {A : Type 0} → A → Result (List A) Response → Result (List A) Response
before a (Ok more) = Ok (a ∷ more)
before a (Err response) = Err response

abbrev pub joined : {A : Type 0} → Result A Response → Result (List A) Response → Result (List A) Response
joined (Ok a) others = before a others
joined (Err response) others = Err response

-- the status of a refusal
abbrev pub status_for : Cause → Status
status_for cause.Usage = status.Usage
status_for cause.Missing = status.Missing
status_for cause.Source = status.Source
status_for cause.Input = status.Input
status_for cause.Link = status.Link
status_for cause.ReadFault = status.ReadFault

-- a refusal is a response that may be given, or memory ran out
abbrev pub IsRefused : (Response → Type 0) → Refusal → Type 0
IsRefused may (refusals.Says cause line diagnostic) = may (reports (status_for cause) line.items diagnostic.items)
IsRefused may refusals.NoMemory = Unit {0}

-- the response of a refusal
abbrev pub IsSaid : Refusal → Response → Type 0
IsSaid (refusals.Says cause line diagnostic) response = response ≡ reports (status_for cause) line.items diagnostic.items
IsSaid refusals.NoMemory response = ⊥
