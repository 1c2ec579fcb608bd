-- How a command has ended, and what is said of it in words (this kit's own).
use Rattle.std.specs.Prelude.{◌≡◌, ◌⊎◌, ℕ, List, [], ◌++◌, Option}
use Rattle.kc_base.specs.Held.{Holding}
use Rattle.kc_trace.specs.Out.{Out, Puts}
use Rattle.kc_kit_files.specs.declared.status.Status.{Status}
use Rattle.kc_kit_files.specs.declared.status.Status.TheVariants as status
use Rattle.kc_kit_files.specs.declared.ended.Said.{Said}
use Rattle.kc_kit_files.specs.declared.ended.Said.TheVariants as said
use Rattle.kc_kit_files.specs.declared.ended.Ended.{Ended}
use Rattle.kc_kit_files.specs.Diagnostics.{write_diagnostic, output_diagnostic, memory_diagnostic}
use Rattle.kc_kit_files.specs.Outside.{Kept, Shown, kept, shown_by, SinkFailed, WriteFailedAt, MemoryWanted, IsGiven}
use Rattle.kc_kit_files.specs.Response.{Response}

-- ---- what is said in words

-- of a response that is given
abbrev pub said_in : Said → List ℕ
said_in (said.Refusal diagnostic) = diagnostic.items
said_in _ = []

-- of a write that has failed
abbrev pub unwritten : Said → List ℕ
unwritten (said.File name) = write_diagnostic name.now
unwritten _ = output_diagnostic

abbrev pub diagnostic_by : Status → Said → List ℕ
diagnostic_by status.NoMemory what = memory_diagnostic
diagnostic_by status.WriteFault what = unwritten what
diagnostic_by given what = said_in what

-- the diagnostic of a command that has ended so
abbrev pub diagnostic_in : Ended → List ℕ
diagnostic_in ended = diagnostic_by ended.status ended.said

-- ---- what a command has done that has ended so

-- the file that is said could not be written, or else the output
abbrev pub Unwritten : (Response → Type 0) → Kept → Shown → Said → Kept → Shown → Type 0
Unwritten may old before (said.File name) new now = WriteFailedAt name.now may old before new now
Unwritten may old before _ new now = SinkFailed may old before new now

abbrev pub EndsBy : (Response → Type 0) → Kept → Shown → Status → Said → Kept → Shown → Type 0
EndsBy may old before status.NoMemory what new now = MemoryWanted may old before new now
EndsBy may old before status.WriteFault what new now = Unwritten may old before what new now
EndsBy may old before given what new now = IsGiven (λ response. may response × (response.diagnostic ≡ said_in what)) given old before new now

-- a text is printed, whatever the files hold, and they stay
abbrev pub EndsPrinting : (Response → Type 0) → Shown → Ended → Shown → Type 0
EndsPrinting may before ended now = (files : Kept) → EndsBy may files before ended.status ended.said files now

-- the same of files and of a sink, by what they report of themselves
abbrev pub Ends : {T U : Type 0} → (T → Option Holding) → (T → ℕ) → (U → Option (List ℕ)) → (U → ℕ) → (Response → Type 0) → T → U → Ended → T → U → Type 0
Ends held writes written faults may files sink ended files_after sink_after =
    EndsBy may (kept (held files) (writes files)) (shown_by written faults sink) ended.status ended.said (kept (held files_after) (writes files_after)) (shown_by written faults sink_after)

-- ---- diagnostics: a sink of their own. What is put there with a status is the diagnostic of the response that is given; of a write that has failed,
-- ---- what could not be written; of that memory ran out, that; and of words that are no command, what is wrong in them, before the
-- ---- diagnostic of their response, which is empty.

abbrev pub Noted : List ℕ → (Response → Type 0) → Kept → Shown → Out → Status → Kept → Shown → Out → Type 0
Noted usage may old before diagnostics status.NoMemory new now noted = Puts diagnostics memory_diagnostic noted
Noted usage may old before diagnostics status.WriteFault new now noted =
    (SinkFailed may old before new now × Puts diagnostics output_diagnostic noted)
    ⊎ ((name : List ℕ) × WriteFailedAt name may old before new now × Puts diagnostics (write_diagnostic name) noted)
Noted usage may old before diagnostics status.Usage new now noted = IsGiven (λ response. may response × Puts diagnostics (usage ++ response.diagnostic) noted) status.Usage old before new now
Noted usage may old before diagnostics given new now noted = IsGiven (λ response. may response × Puts diagnostics response.diagnostic noted) given old before new now
