-- The run whose trace a source gives, reported one step at a time (this kit's own).
use Rattle.std.specs.Prelude.{◌≡◌, ℕ, ◌<◌, ◌≤◌, ◌^◌, Option, Some, None, Result, Ok, Err, List, [], ◌∷◌, ◌++◌, map}
use Rattle.kc_base.specs.TextLines.{text_lines}
use Rattle.kc_stim.specs.Drives.{Drives}
use Rattle.kc_events.specs.declared.line.Line.{Line}
use Rattle.kc_base.specs.Causes.{Rose}
use Rattle.kc_events.specs.declared.course.Step.{Step}
use Rattle.kc_events.specs.declared.lives.LivesFault.{LivesFault}
use Rattle.kc_events.specs.declared.lives.LivesFault.TheVariants.{BadTrace, Failed, NoMemory}
use Rattle.kc_events.specs.Lines.{line_text}
use Rattle.kc_events.specs.Grammar.{Place, start_place, AreLines, IsRun, place_after}
use Rattle.kc_events.specs.Printed.{place_in}
use Rattle.kc_events.specs.Reading.{Reading, IsWrong, one_more}
use Rattle.kc_events.specs.Steps.{Seen, steps_of}
use Rattle.kc_events.specs.Coming.{steps_to_come, MayBeNext, IsStillIn}
use Rattle.kc_events.specs.Underway.{Underway, present_in, running_in, seen_by, base_ahead, IsOpen}

-- how far the trace is read, what is kept of the run, and the fault that has ended it
pub record Reporting : Type 0 where
  pub trace : Reading
  pub course : Underway
  pub stopped : Option LivesFault

-- the text is that of these lines, where the source reports it
abbrev pub HasText : Option (List ℕ) → List Line → Type 0
HasText None lines = Unit {0}
HasText (Some text) lines = text_lines text ≡ map line_text lines

-- these steps are to come: the text that is left is that of lines that end the run, and they report these steps
pub record AreToCome (t : Reporting) (steps : List Seen) : Type 0 where
  pub lines : List Line
  pub text : HasText t.trace.left lines
  pub run : IsRun (place_in t.trace.reader) lines
  pub reported : steps ≡ steps_to_come (running_in t.course) lines

-- the text is that of the lines of a run, of which this holds
pub record IsOfRun (left : Option (List ℕ)) (holds : List Line → Type 0) : Type 0 where
  pub lines : List Line
  pub text : HasText left lines
  pub run : IsRun (start_place 0) lines
  pub is : holds lines

-- the text is that of the lines of a run, and these are its steps
abbrev pub AreStepsOf : Drives → Option (List ℕ) → List Seen → Type 0
AreStepsOf d left steps = IsOfRun left (λ lines. steps ≡ steps_of d lines)

-- so many lines more were asked for
unfoldable pub count_with : ℕ → List Line → ℕ
count_with n [] = n
count_with n (line ∷ lines) = count_with (one_more n) lines

-- These lines may come one behind the other from a place on, and the text goes on with the first that may not; or it ends, and they
-- are not whole. The number is that of this line, where so many were asked for.
pub record IsFirstWrong (p : Place) (text : List ℕ) (count line : ℕ) : Type 0 where
  pub before : List Line
  pub others : List (List ℕ)
  pub spelled : text_lines text ≡ map line_text before ++ others
  pub follow : AreLines p before
  pub wrong : IsWrong (place_after p before) others
  pub number : line ≡ one_more (count_with count before)

-- The same where the source may not report its text: its number is that of a line that was not asked for yet.
abbrev pub IsFirstWrongIn : Place → Option (List ℕ) → ℕ → ℕ → Type 0
IsFirstWrongIn p None count line = (one_more count ≤ line) × (line < 2 ^ 64)
IsFirstWrongIn p (Some text) count line = IsFirstWrong p text count line

-- of the text that is left, the line of this number is the first wrong one
abbrev pub IsWrongAt : Reporting → ℕ → Type 0
IsWrongAt t line = IsFirstWrongIn (place_in t.trace.reader) t.trace.left t.trace.count line

-- behind these steps those to come now are to come, and the first wrong line is the same
pub record IsBehind (old : Reporting) (passed : List Seen) (new : Reporting) : Type 0 where
  pub steps : (steps : List Seen) → AreToCome new steps → AreToCome old (passed ++ steps)
  pub wrong : (line : ℕ) → IsWrongAt new line → IsWrongAt old line

-- What is answered: a step, and the steps to come are those behind it; none, where none is to come; the first line that no board
-- prints there; or the source has failed, and the same steps are to come.
abbrev pub IsAnswer : Reporting → Result (Option Step) LivesFault → Reporting → Type 0
IsAnswer old (Ok (Some step)) new = IsBehind old (seen_by step new.course ∷ []) new
IsAnswer old (Ok None) new = AreToCome old []
IsAnswer old (Err (BadTrace line)) new = IsWrongAt old line
IsAnswer old (Err Failed) new = Rose old.trace.faults new.trace.faults × IsBehind old [] new
IsAnswer old (Err NoMemory) new = Unit {0}

-- the fault behind which no step is reported any more
abbrev pub stop_of : Result (Option Step) LivesFault → Option LivesFault
stop_of (Err (BadTrace line)) = Some (BadTrace line)
stop_of (Err NoMemory) = Some NoMemory
stop_of _ = None

-- the next call may go on
abbrev pub MayGoOn : Result (Option Step) LivesFault → Type 0
MayGoOn (Err (BadTrace line)) = ⊥
MayGoOn (Err NoMemory) = ⊥
MayGoOn _ = Unit {0}

-- ---- what stays

-- the next line reports of the life that the course is to go on with, and lines that end the run may be to come
pub record IsInStep (t : Reporting) : Type 0 where
  pub base : IsOpen t.course.known → (place_in t.trace.reader).base ≡ base_ahead t.course.base t.course.known
  pub due : (lines : List Line) → IsRun (place_in t.trace.reader) lines → MayBeNext (running_in t.course) lines
  pub still : IsStillIn (present_in t.course)

abbrev pub IsReported : Reporting → Type 0
IsReported t = t.stopped ≡ None → IsInStep t

abbrev pub reporting : Reading → Underway → Reporting
reporting trace course = record { trace = trace; course = course; stopped = None }

-- lines were read that report no step yet
pub record HasRead (old new : Reporting) : Type 0 where
  pub steps : (steps : List Seen) → AreToCome new steps → AreToCome old steps
  pub wrong : (line : ℕ) → IsFirstWrongIn (place_in new.trace.reader) new.trace.left new.trace.count line → IsFirstWrongIn (place_in old.trace.reader) old.trace.left old.trace.count line
  pub calm : new.trace.faults ≡ old.trace.faults

-- ---- what is answered of a run that was to be read to its end

-- of a text, where the source reports it: what holds of the answer and the lines of its run, or the first line that no board prints
-- there
abbrev pub IsRunAnswer : {A : Type 0} → (A → List Line → Type 0) → Option (List ℕ) → Result A LivesFault → Type 0
IsRunAnswer holds left (Ok answer) = IsOfRun left (holds answer)
IsRunAnswer holds left (Err (BadTrace line)) = IsFirstWrongIn (start_place 0) left 0 line
IsRunAnswer holds left (Err Failed) = Unit {0}
IsRunAnswer holds left (Err NoMemory) = Unit {0}

-- what holds of the line that no board prints, where that is the fault
abbrev pub IfWrong : {A : Type 0} → Result A LivesFault → (ℕ → Type 0) → Type 0
IfWrong (Err (BadTrace line)) P = P line
IfWrong _ P = Unit {0}

-- the faults of a source, which counts one where it is the fault
abbrev pub Counts : {A : Type 0} → ℕ → Result A LivesFault → ℕ → Type 0
Counts before (Err Failed) now = Rose before now
Counts before _ now = now ≡ before
