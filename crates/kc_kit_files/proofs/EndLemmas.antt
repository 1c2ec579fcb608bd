-- How a command has ended, what it has done, and what is said of it.
use Rattle.std.proofs.Common.{◌≡◌, ◌⊎◌, inl, inr, ℕ, List, [], ◌∷◌, ◌++◌, ◌∙◌, ap, sym, subst}
use Rattle.std.proofs.lemmas.List.{append-nil}
use Rattle.kc_trace.specs.Out.{Out, Puts}
use Rattle.kc_kit_files.specs.declared.status.Status.{Status}
use Rattle.kc_kit_files.specs.declared.status.Status.TheVariants as status
use Rattle.kc_kit_files.specs.declared.ended.Ended.{Ended}
use Rattle.kc_kit_files.specs.declared.ended.Said.{Said}
use Rattle.kc_kit_files.specs.declared.ended.Said.TheVariants as said
use Rattle.kc_kit_files.specs.Diagnostics.{output_diagnostic}
use Rattle.kc_kit_files.specs.Response.{Response, Write}
use Rattle.kc_kit_files.specs.Outside.{Kept, Shown, WroteByPart, RefusedAt, SinkFailed, WriteFailed, WriteFailedAt, IsGiven, Responses}
use Rattle.kc_kit_files.specs.Ended.{said_in, unwritten, diagnostic_by, Unwritten, EndsBy, Noted}
use Rattle.kc_kit_files.proofs.ResponseLemmas.{given-widen, Responses-widen}

-- a response that is given with its diagnostic
abbrev pub WithDiagnostic : (Response → Type 0) → Said → Response → Type 0
WithDiagnostic may what response = may response × (response.diagnostic ≡ said_in what)

-- a write that is refused at a name is refused
pub refused-part : (name : List ℕ) (old : Kept) (ws : List Write) (new : Kept) → RefusedAt name old ws new → WroteByPart old ws new
refused-part name old [] new h = absurd h
refused-part name old (w ∷ ws) new (inl h) = inl h.1
refused-part name old (w ∷ ws) new (inr h) = inr (h.0, h.1, refused-part name h.0 ws new h.2)

-- ---- what may be answered may be answered

sink-widen : (may wide : Response → Type 0) (old : Kept) (before : Shown) (new : Kept) (now : Shown) → ((r : Response) → may r → wide r) → SinkFailed may old before new now → SinkFailed wide old before new now
sink-widen may wide old before new now f h = record { response = h.response; is_answer = f h.response h.is_answer; text = h.text; cause = h.cause; files = h.files }

at-widen : (name : List ℕ) (may wide : Response → Type 0) (old : Kept) (before : Shown) (new : Kept) (now : Shown) → ((r : Response) → may r → wide r) → WriteFailedAt name may old before new now → WriteFailedAt name wide old before new now
at-widen name may wide old before new now f h = record { response = h.response; is_answer = f h.response h.is_answer; files = h.files; cause = h.cause; text = h.text }

unwritten-widen : (may wide : Response → Type 0) (old : Kept) (before : Shown) (what : Said) (new : Kept) (now : Shown) → ((r : Response) → may r → wide r) → Unwritten may old before what new now → Unwritten wide old before what new now
unwritten-widen may wide old before (said.File name) new now f h = at-widen name.now may wide old before new now f h
unwritten-widen may wide old before said.Nothing new now f h = sink-widen may wide old before new now f h
unwritten-widen may wide old before (said.Refusal diagnostic) new now f h = sink-widen may wide old before new now f h

with-widen : (may wide : Response → Type 0) (what : Said) → ((r : Response) → may r → wide r) → (r : Response) → WithDiagnostic may what r → WithDiagnostic wide what r
with-widen may wide what f r h = (f r h.0, h.1)

pub Ends-widen : (may wide : Response → Type 0) (old : Kept) (before : Shown) (given : Status) (what : Said) (new : Kept) (now : Shown) → ((r : Response) → may r → wide r) → EndsBy may old before given what new now → EndsBy wide old before given what new now
Ends-widen may wide old before status.NoMemory what new now f h = Responses-widen may wide old before status.NoMemory new now f h
Ends-widen may wide old before status.WriteFault what new now f h = unwritten-widen may wide old before what new now f h
Ends-widen may wide old before status.Done what new now f h = given-widen (WithDiagnostic may what) (WithDiagnostic wide what) status.Done old before new now (with-widen may wide what f) h
Ends-widen may wide old before status.Usage what new now f h = given-widen (WithDiagnostic may what) (WithDiagnostic wide what) status.Usage old before new now (with-widen may wide what f) h
Ends-widen may wide old before status.Missing what new now f h = given-widen (WithDiagnostic may what) (WithDiagnostic wide what) status.Missing old before new now (with-widen may wide what f) h
Ends-widen may wide old before status.Source what new now f h = given-widen (WithDiagnostic may what) (WithDiagnostic wide what) status.Source old before new now (with-widen may wide what f) h
Ends-widen may wide old before status.Input what new now f h = given-widen (WithDiagnostic may what) (WithDiagnostic wide what) status.Input old before new now (with-widen may wide what f) h
Ends-widen may wide old before status.Link what new now f h = given-widen (WithDiagnostic may what) (WithDiagnostic wide what) status.Link old before new now (with-widen may wide what f) h
Ends-widen may wide old before status.Undefined what new now f h = given-widen (WithDiagnostic may what) (WithDiagnostic wide what) status.Undefined old before new now (with-widen may wide what f) h
Ends-widen may wide old before status.ReadFault what new now f h = given-widen (WithDiagnostic may what) (WithDiagnostic wide what) status.ReadFault old before new now (with-widen may wide what f) h
Ends-widen may wide old before status.Broken what new now f h = given-widen (WithDiagnostic may what) (WithDiagnostic wide what) status.Broken old before new now (with-widen may wide what f) h

-- ---- what a command has done that has ended so, by its status alone

failed-at : (name : List ℕ) (may : Response → Type 0) (old : Kept) (before : Shown) (new : Kept) (now : Shown) → WriteFailedAt name may old before new now → WriteFailed may old before new now
failed-at name may old before new now h = record { response = h.response; is_answer = h.is_answer; files = refused-part name old h.response.writes new h.files; cause = h.cause; text = h.text }

unwritten-responses : (may : Response → Type 0) (old : Kept) (before : Shown) (what : Said) (new : Kept) (now : Shown) → Unwritten may old before what new now → SinkFailed may old before new now ⊎ WriteFailed may old before new now
unwritten-responses may old before (said.File name) new now h = inr (failed-at name.now may old before new now h)
unwritten-responses may old before said.Nothing new now h = inl h
unwritten-responses may old before (said.Refusal diagnostic) new now h = inl h

bare : (may : Response → Type 0) (given : Status) (old : Kept) (before : Shown) (what : Said) (new : Kept) (now : Shown) → IsGiven (WithDiagnostic may what) given old before new now → IsGiven may given old before new now
bare may given old before what new now h = given-widen (WithDiagnostic may what) may given old before new now (λ r k. k.0) h

pub Ends-responses : (may : Response → Type 0) (old : Kept) (before : Shown) (given : Status) (what : Said) (new : Kept) (now : Shown) → EndsBy may old before given what new now → Responses may old before given new now
Ends-responses may old before status.NoMemory what new now h = h
Ends-responses may old before status.WriteFault what new now h = unwritten-responses may old before what new now h
Ends-responses may old before status.Done what new now h = bare may status.Done old before what new now h
Ends-responses may old before status.Usage what new now h = bare may status.Usage old before what new now h
Ends-responses may old before status.Missing what new now h = bare may status.Missing old before what new now h
Ends-responses may old before status.Source what new now h = bare may status.Source old before what new now h
Ends-responses may old before status.Input what new now h = bare may status.Input old before what new now h
Ends-responses may old before status.Link what new now h = bare may status.Link old before what new now h
Ends-responses may old before status.Undefined what new now h = bare may status.Undefined old before what new now h
Ends-responses may old before status.ReadFault what new now h = bare may status.ReadFault old before what new now h
Ends-responses may old before status.Broken what new now h = bare may status.Broken old before what new now h

-- ---- a text alone is printed, and nothing is said of it but what the diagnostic of its response is

only-sink : (may : Response → Type 0) (old : Kept) (before : Shown) (new : Kept) (now : Shown) → ((r : Response) → may r → r.writes ≡ []) → SinkFailed may old before new now ⊎ WriteFailed may old before new now → SinkFailed may old before new now
only-sink may old before new now f (inl h) = h
only-sink may old before new now f (inr h) = absurd (subst (λ ws. WroteByPart old ws new) (f h.response h.is_answer) h.files)

-- it is no name of a file that is said
abbrev pub IsOutput : Said → Type 0
IsOutput (said.File name) = ⊥
IsOutput _ = Unit {0}

to-output : (may : Response → Type 0) (old : Kept) (before : Shown) (what : Said) (new : Kept) (now : Shown) → IsOutput what → SinkFailed may old before new now → Unwritten may old before what new now
to-output may old before (said.File name) new now i h = absurd i
to-output may old before said.Nothing new now i h = h
to-output may old before (said.Refusal diagnostic) new now i h = h

with-diagnostic : (may : Response → Type 0) (given : Status) (old : Kept) (before : Shown) (what : Said) (new : Kept) (now : Shown) → ((r : Response) → may r → r.diagnostic ≡ said_in what) → IsGiven may given old before new now → IsGiven (WithDiagnostic may what) given old before new now
with-diagnostic may given old before what new now f h = given-widen may (WithDiagnostic may what) given old before new now (λ r k. (k, f r k)) h

pub Ends-printed : (may : Response → Type 0) (old : Kept) (before : Shown) (given : Status) (what : Said) (new : Kept) (now : Shown) → IsOutput what → ((r : Response) → may r → r.writes ≡ []) → ((r : Response) → may r → r.diagnostic ≡ said_in what) →
    Responses may old before given new now → EndsBy may old before given what new now
Ends-printed may old before status.NoMemory what new now i none diagnostic h = h
Ends-printed may old before status.WriteFault what new now i none diagnostic h = to-output may old before what new now i (only-sink may old before new now none h)
Ends-printed may old before status.Done what new now i none diagnostic h = with-diagnostic may status.Done old before what new now diagnostic h
Ends-printed may old before status.Usage what new now i none diagnostic h = with-diagnostic may status.Usage old before what new now diagnostic h
Ends-printed may old before status.Missing what new now i none diagnostic h = with-diagnostic may status.Missing old before what new now diagnostic h
Ends-printed may old before status.Source what new now i none diagnostic h = with-diagnostic may status.Source old before what new now diagnostic h
Ends-printed may old before status.Input what new now i none diagnostic h = with-diagnostic may status.Input old before what new now diagnostic h
Ends-printed may old before status.Link what new now i none diagnostic h = with-diagnostic may status.Link old before what new now diagnostic h
Ends-printed may old before status.Undefined what new now i none diagnostic h = with-diagnostic may status.Undefined old before what new now diagnostic h
Ends-printed may old before status.ReadFault what new now i none diagnostic h = with-diagnostic may status.ReadFault old before what new now diagnostic h
Ends-printed may old before status.Broken what new now i none diagnostic h = with-diagnostic may status.Broken old before what new now diagnostic h

-- an end of which nothing is said but what its status says
pub ends-by : (may : Response → Type 0) (old : Kept) (before : Shown) (ended : Ended) (given : Status) (new : Kept) (now : Shown) → ended.status ≡ given → ended.said ≡ said.Nothing → ((r : Response) → may r → r.writes ≡ []) → ((r : Response) → may r → r.diagnostic ≡ []) →
    Responses may old before given new now → EndsBy may old before ended.status ended.said new now
ends-by may old before ended given new now e f none diagnostic h =
    subst (λ s. EndsBy may old before s ended.said new now) (sym e) (subst (λ w. EndsBy may old before given w new now) (sym f) (Ends-printed may old before given said.Nothing new now tt none diagnostic h))

-- ---- the diagnostics of a command that has ended so: nothing is wrong in its words

noted-unwritten : (usage : List ℕ) (may : Response → Type 0) (old : Kept) (before : Shown) (diagnostics : Out) (what : Said) (new : Kept) (now : Shown) (noted : Out) → Unwritten may old before what new now → Puts diagnostics (unwritten what) noted →
    Noted usage may old before diagnostics status.WriteFault new now noted
noted-unwritten usage may old before diagnostics (said.File name) new now noted h p = inr (name.now, h, p)
noted-unwritten usage may old before diagnostics said.Nothing new now noted h p = inl (h, p)
noted-unwritten usage may old before diagnostics (said.Refusal diagnostic) new now noted h p = inl (h, p)

noted-given : (may : Response → Type 0) (given : Status) (old : Kept) (before : Shown) (diagnostics : Out) (what : Said) (new : Kept) (now : Shown) (noted : Out) → IsGiven (WithDiagnostic may what) given old before new now → Puts diagnostics (said_in what) noted →
    IsGiven (λ response. may response × Puts diagnostics response.diagnostic noted) given old before new now
noted-given may given old before diagnostics what new now noted h p =
    given-widen (WithDiagnostic may what) (λ response. may response × Puts diagnostics response.diagnostic noted) given old before new now (λ r k. (k.0, subst (λ n. Puts diagnostics n noted) (sym k.1) p)) h

pub Ends-noted : (usage : List ℕ) (may : Response → Type 0) (old : Kept) (before : Shown) (diagnostics : Out) (given : Status) (what : Said) (new : Kept) (now : Shown) (noted : Out) → usage ≡ [] →
    EndsBy may old before given what new now → Puts diagnostics (diagnostic_by given what) noted → Noted usage may old before diagnostics given new now noted
Ends-noted usage may old before diagnostics status.NoMemory what new now noted f h p = p
Ends-noted usage may old before diagnostics status.WriteFault what new now noted f h p = noted-unwritten usage may old before diagnostics what new now noted h p
Ends-noted usage may old before diagnostics status.Usage what new now noted f h p =
    subst (λ u. IsGiven (λ response. may response × Puts diagnostics (u ++ response.diagnostic) noted) status.Usage old before new now) (sym f) (noted-given may status.Usage old before diagnostics what new now noted h p)
Ends-noted usage may old before diagnostics status.Done what new now noted f h p = noted-given may status.Done old before diagnostics what new now noted h p
Ends-noted usage may old before diagnostics status.Missing what new now noted f h p = noted-given may status.Missing old before diagnostics what new now noted h p
Ends-noted usage may old before diagnostics status.Source what new now noted f h p = noted-given may status.Source old before diagnostics what new now noted h p
Ends-noted usage may old before diagnostics status.Input what new now noted f h p = noted-given may status.Input old before diagnostics what new now noted h p
Ends-noted usage may old before diagnostics status.Link what new now noted f h p = noted-given may status.Link old before diagnostics what new now noted h p
Ends-noted usage may old before diagnostics status.Undefined what new now noted f h p = noted-given may status.Undefined old before diagnostics what new now noted h p
Ends-noted usage may old before diagnostics status.ReadFault what new now noted f h p = noted-given may status.ReadFault old before diagnostics what new now noted h p
Ends-noted usage may old before diagnostics status.Broken what new now noted f h p = noted-given may status.Broken old before diagnostics what new now noted h p

-- ---- the diagnostics of words that are no command: of a response that says nothing else

pub noted-usage : (usage : List ℕ) (may wide : Response → Type 0) (old : Kept) (before : Shown) (diagnostics : Out) (given : Status) (new : Kept) (now : Shown) (noted : Out) → ((r : Response) → may r → wide r) → ((r : Response) → may r → r.writes ≡ []) → ((r : Response) → may r → r.diagnostic ≡ []) →
    (given ≡ status.Usage) ⊎ (given ≡ status.WriteFault) → Responses may old before given new now → (given ≡ status.Usage → Puts diagnostics usage noted) → (given ≡ status.WriteFault → Puts diagnostics output_diagnostic noted) →
    Noted usage wide old before diagnostics given new now noted
noted-usage usage may wide old before diagnostics given new now noted f none silent (inl e) h p q =
    let reported : Responses may old before status.Usage new now = subst (λ s. Responses may old before s new now) e h in
    subst (λ s. Noted usage wide old before diagnostics s new now noted) (sym e)
    (given-widen may (λ response. wide response × Puts diagnostics (usage ++ response.diagnostic) noted) status.Usage old before new now
    (λ r k. (f r k, subst (λ u. Puts diagnostics u noted) (sym (ap (λ l. usage ++ l) (silent r k) ∙ append-nil usage)) (p e))) reported)
noted-usage usage may wide old before diagnostics given new now noted f none silent (inr e) h p q =
    let reported : Responses may old before status.WriteFault new now = subst (λ s. Responses may old before s new now) e h in
    subst (λ s. Noted usage wide old before diagnostics s new now noted) (sym e) (inl (sink-widen may wide old before new now f (only-sink may old before new now none reported), q e))
