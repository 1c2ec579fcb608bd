-- What a response does to the files and to the output (this kit's own).
use Rattle.std.specs.Prelude.{◌≡◌, ◌≢◌, ◌⊎◌, ℕ, ◌≤◌, List, [], ◌∷◌, Option, Some, None, IsSomeAnd}
use Rattle.std.specs.List.{Any}
use Rattle.kc_base.specs.Held.{Holding}
use Rattle.kc_base.specs.Causes.{Rose, Grew, GrewByPart}
use Rattle.kc_kit_files.specs.declared.status.Status.{Status}
use Rattle.kc_kit_files.specs.declared.status.Status.TheVariants as status
use Rattle.kc_kit_files.specs.Response.{Response, Write}

-- what files report that they hold, and how often a write has failed
pub record Kept : Type 0 where
  pub held : Option Holding
  pub faults : ℕ

abbrev pub kept : Option Holding → ℕ → Kept
kept held faults = record { held = held; faults = faults }

-- what a sink reports that it was given, and how often it has failed
pub record Shown : Type 0 where
  pub written : Option (List ℕ)
  pub faults : ℕ

abbrev pub shown : Option (List ℕ) → ℕ → Shown
shown written faults = record { written = written; faults = faults }

-- ---- writes, by files that report what they hold

-- every other name holds what it held
abbrev pub OthersStay : Option Holding → List ℕ → Option Holding → Type 0
OthersStay None name now = Unit {0}
OthersStay (Some before) name now = IsSomeAnd now (λ now. (other : List ℕ) → other ≢ name → now other ≡ before other)

abbrev pub HoldsNow : Option Holding → List ℕ → Option Holding → List ℕ → Type 0
HoldsNow None name now bytes = Unit {0}
HoldsNow (Some before) name now bytes = IsSomeAnd now (λ now. now name ≡ Some bytes)

-- the name holds the bytes, and every other name what it held
abbrev pub WroteOne : Option Holding → Write → Option Holding → Type 0
WroteOne before w now = HoldsNow before w.name now w.bytes × OthersStay before w.name now

-- the files are written one after the other; without a file nothing changes
abbrev pub Wrote : Kept → List Write → Kept → Type 0
Wrote before [] now = now ≡ before
Wrote before (w ∷ ws) now = (mid : Kept) × WroteOne before.held w mid.held × Wrote mid ws now

-- some of them are written, and the next write is refused: its name may hold anything, and no other name changes
abbrev pub WroteByPart : Kept → List Write → Kept → Type 0
WroteByPart before [] now = ⊥
WroteByPart before (w ∷ ws) now = OthersStay before.held w.name now.held ⊎ ((mid : Kept) × WroteOne before.held w mid.held × WroteByPart mid ws now)

-- some of them are written, and the next write, to this name, is refused: the name may hold anything, and no other name changes
abbrev pub RefusedAt : List ℕ → Kept → List Write → Kept → Type 0
RefusedAt name before [] now = ⊥
RefusedAt name before (w ∷ ws) now =
    ((w.name ≡ name) × OthersStay before.held w.name now.held) ⊎ ((mid : Kept) × WroteOne before.held w mid.held × RefusedAt name mid ws now)

-- ---- responses

-- the sink has failed: a prefix of the text is printed, and no file is written
pub record SinkFailed (may : Response → Type 0) (old : Kept) (before : Shown) (new : Kept) (now : Shown) : Type 0 where
  pub response : Response
  pub is_answer : may response
  pub text : GrewByPart before.written response.text now.written
  pub cause : Rose before.faults now.faults
  pub files : new ≡ old

-- a write has failed: the text is printed
pub record WriteFailed (may : Response → Type 0) (old : Kept) (before : Shown) (new : Kept) (now : Shown) : Type 0 where
  pub response : Response
  pub is_answer : may response
  pub files : WroteByPart old response.writes new
  pub cause : Rose old.faults new.faults
  pub text : Grew before.written response.text now.written

-- a write to this name has failed: the text is printed
pub record WriteFailedAt (name : List ℕ) (may : Response → Type 0) (old : Kept) (before : Shown) (new : Kept) (now : Shown) : Type 0 where
  pub response : Response
  pub is_answer : may response
  pub files : RefusedAt name old response.writes new
  pub cause : Rose old.faults new.faults
  pub text : Grew before.written response.text now.written

-- out of memory: nothing is printed, or the text up to a pause; and no file is written, or one is refused
pub record MemoryWanted (may : Response → Type 0) (old : Kept) (before : Shown) (new : Kept) (now : Shown) : Type 0 where
  pub text : (now.written ≡ before.written) ⊎ ((response : Response) × may response × Any (λ prefix. Grew before.written prefix now.written) response.pauses)
  pub files : (new ≡ old) ⊎ ((response : Response) × may response × WroteByPart old response.writes new)

-- a response is given whole
pub record IsGiven (may : Response → Type 0) (given : Status) (old : Kept) (before : Shown) (new : Kept) (now : Shown) : Type 0 where
  pub response : Response
  pub is_answer : may response
  pub status : given ≡ response.status
  pub text : Grew before.written response.text now.written
  pub files : Wrote old response.writes new

-- What is printed and written with this status: all that a response says, where it may be answered; or a part of it, with the cause.
abbrev pub Responses : (Response → Type 0) → Kept → Shown → Status → Kept → Shown → Type 0
Responses may old before status.NoMemory new now = MemoryWanted may old before new now
Responses may old before status.WriteFault new now = SinkFailed may old before new now ⊎ WriteFailed may old before new now
Responses may old before given new now = IsGiven may given old before new now

-- a text is printed, whatever the files hold, and they stay
abbrev pub Prints : (Response → Type 0) → Shown → Status → Shown → Type 0
Prints may before given now = (files : Kept) → Responses may files before given files now

-- ---- the same of files and of a sink, by what they report of themselves

-- files are read alone: they hold what they held, no failed read is forgotten, and none is written
pub record OnlyRead {T : Type 0} (held : T → Option Holding) (reads writes : T → ℕ) (old new : T) : Type 0 where
  pub same : held new ≡ held old
  pub later : reads old ≤ reads new
  pub no_write : writes new ≡ writes old

abbrev pub shown_by : {U : Type 0} → (U → Option (List ℕ)) → (U → ℕ) → U → Shown
shown_by written faults sink = shown (written sink) (faults sink)

-- what is printed and written with a status
abbrev pub Replied : {T U : Type 0} → (T → Option Holding) → (T → ℕ) → (U → Option (List ℕ)) → (U → ℕ) → (Response → Type 0) → T → U → Status → T → U → Type 0
Replied held writes written faults may files sink given files_after sink_after =
    Responses may (kept (held files) (writes files)) (shown_by written faults sink) given (kept (held files_after) (writes files_after)) (shown_by written faults sink_after)
