-- What is answered step by step, and what is prepared for a command.
use Rattle.std.proofs.Common.{◌≡◌, ◌⊎◌, inl, inr, ℕ, ◌≤◌, List, [], ◌∷◌, ◌++◌, length, map, drop, Option, Some, None, Result, Ok, Err, refl, sym, ◌∙◌, ap, subst}
use Rattle.std.proofs.Math.Seq.{take-append_seam, drop-append_seam}
use Rattle.kc_base.specs.Held.{Holding, Reported}
use Rattle.kc_base.specs.Causes.{Rose}
use Rattle.kc_kit_files.specs.declared.ended.Ended.{Ended}
use Rattle.kc_kit_files.specs.declared.refusal.Refusal.{Refusal}
use Rattle.kc_kit_files.specs.Response.{Response, before, Then, IsRefused}
use Rattle.kc_kit_files.specs.Reads.{reads_of, Holds, FailedRead, MissedRead, MissedOne, AreHeld}
use Rattle.kc_kit_files.specs.Ended.{EndsBy}
use Rattle.kc_kit_files.specs.Outside.{Shown, kept}
use Rattle.kc_kit_files.proofs.ReadLemmas.{refused-widen, reads-held, Holds-held, held-one, held-both, missed-one, missed-first, missed-second}
use Rattle.kc_kit_files.proofs.EndLemmas.{Ends-widen}
use Rattle.kc_kit_files.proofs.ResponseLemmas.{said-refused}
use Rattle.kc_kit_inputs.specs.FaultDiagnostics.{IsFaultDiagnostic}
use Rattle.kc_kit_answer.specs.declared.job.Job.{Job}
use Rattle.kc_kit_words.specs.declared.command.Command.{Command as Read}
use Rattle.kc_kit_words.specs.Asked.{asked}
use Rattle.kc_obj_module.specs.Object.{Object}
use Rattle.kc_kit_inputs.specs.Hex.{hex_of}
use Rattle.kc_kit_inputs.specs.Library.{library_of, TakenAre}
use Rattle.kc_kit_messages.specs.Rules.{member_words}
use Rattle.kc_kit_answer.specs.Link.{Taking, Completed}
use Rattle.kc_kit_answer.specs.Answer.{OneText, Parted, MayAnswer, MayAnswerBy}
use Rattle.kc_kit_inputs.specs.declared.driving.Driving.{Driving}
use Rattle.kc_kit_running.specs.declared.board.Board.{Board}
use Rattle.kc_kit_running.specs.declared.sources.Sources.{Sources}
use Rattle.kc_kit_running.specs.Sources.{FileLines, lines_in}
use Rattle.kc_kit_answer.specs.Jobs.{IsBoard, IsBoardOfSources, does, IsPrepared, Prepares, IsReady, IsOf}

-- ---- steps

pub then-ok : {A : Type 0} (x : Result A Response) (a : A) (may : A → Response → Type 0) (r : Response) → x ≡ Ok a → may a r → Then x may r
then-ok x a may r e h = subst (λ y. Then y may r) (sym e) h

pub then-err : {A : Type 0} (x : Result A Response) (may : A → Response → Type 0) (r : Response) → x ≡ Err r → Then x may r
then-err x may r e = subst (λ y. Then y may r) (sym e) refl

-- what may be answered once some names are read
abbrev pub MayThen : List (List ℕ) → (List (List ℕ) → Response → Type 0) → Option Holding → Type 0 → Response → Type 0
MayThen names may reported rose r = (contents : List (Option (List ℕ))) × Holds reported names contents × (Then (reads_of names contents) may r ⊎ FailedRead names contents rose r)

pub missed-then : (names : List (List ℕ)) (may : List (List ℕ) → Response → Type 0) (reported : Option Holding) (rose : Type 0) (r : Response) → MissedRead reported names rose r → MayThen names may reported rose r
missed-then names may reported rose r (contents, holds, inl e) = (contents, holds, inl (then-err (reads_of names contents) may r e))
missed-then names may reported rose r (contents, holds, inr h) = (contents, holds, inr h)

pub held-then : (names : List (List ℕ)) (may : List (List ℕ) → Response → Type 0) (reported : Option Holding) (rose : Type 0) (texts : List (List ℕ)) (r : Response) → AreHeld reported names texts → may texts r → MayThen names may reported rose r
held-then names may reported rose texts r h m = (map Some texts, Holds-held reported names texts h, inl (then-ok (reads_of names (map Some texts)) texts may r (reads-held names texts h.count h.short) m))

-- one name that is read
pub one-then : (name : List ℕ) (may : List (List ℕ) → Response → Type 0) (reported : Option Holding) (rose : Type 0) (bytes : List ℕ) (r : Response) → length bytes ≤ 1048576 → Reported reported (λ held. held name ≡ Some bytes) → may (bytes ∷ []) r → MayThen (name ∷ []) may reported rose r
one-then name may reported rose bytes r short one m = held-then (name ∷ []) may reported rose (bytes ∷ []) r (held-one reported name bytes short one) m

-- the same step with a wider answer
pub then-map : {A : Type 0} (x : Result A Response) (may wide : A → Response → Type 0) (r : Response) → ((a : A) → may a r → wide a r) → Then x may r → Then x wide r
then-map (Ok a) may wide r f h = f a h
then-map (Err e) may wide r f h = h

-- ---- what is prepared

pub board-widen : (answer wide : (Driving → List ℕ → Response) → Response → Type 0) (b : Result Board Refusal) → ((report : Driving → List ℕ → Response) (r : Response) → answer report r → wide report r) → IsBoard answer b → IsBoard wide b
board-widen answer wide (Ok board) f h = λ report. f report (report board.driving board.image) (h report)
board-widen answer wide (Err refusal) f h = λ report. refused-widen (answer report) (wide report) refusal (f report) (h report)

pub sources-widen : (answer wide : (FileLines → Driving → List ℕ → Response) → Response → Type 0) (b : Result (Board × Sources) Refusal) → ((report : FileLines → Driving → List ℕ → Response) (r : Response) → answer report r → wide report r) →
    IsBoardOfSources answer b → IsBoardOfSources wide b
sources-widen answer wide (Ok made) f h = (h.0, λ report. f report (report (lines_in (Some made.1)) made.0.driving made.0.image) (h.1 report))
sources-widen answer wide (Err refusal) f h = λ report. refused-widen (answer report) (wide report) refusal (f report) (h report)

pub prepared-widen : (may wide : Response → Type 0) (p : Result Job Refusal) → ((r : Response) → may r → wide r) → IsPrepared may p → IsPrepared wide p
prepared-widen may wide (Ok job) f h = (f (does job) h.0, h.1)
prepared-widen may wide (Err refusal) f h = refused-widen may wide refusal f h

pub prepared-ready : (may : Response → Type 0) (p : Result Job Refusal) → IsPrepared may p → IsReady p
prepared-ready may (Ok job) h = h.1
prepared-ready may (Err refusal) h = tt

pub prepared-of : (may : Response → Type 0) (p : Result Job Refusal) → IsPrepared may p → (r : Response) → IsOf p r → may r
prepared-of may (Ok job) h r e = subst may (sym e) h.0
prepared-of may (Err refusal) h r e = said-refused may refusal h r e

kept-same : (a b : Option Holding) (m n : ℕ) → a ≡ b → m ≡ n → kept a m ≡ kept b n
kept-same a b m n e f = ap (λ h. kept h m) e ∙ ap (λ k. kept b k) f

-- ---- members of a library

pub taking-refused : (names : List (List ℕ)) (library : List ℕ × List ℕ) (may : List (List ℕ) → List Object → Response → Type 0) (ms members : List Object) (refusal : Refusal) → library_of library.0 library.1 ≡ Ok members →
    IsRefused (λ response. TakenAre library.0 ms members (Err response)) refusal → IsRefused (Completed names (Some library) may ms) refusal
taking-refused names library may ms members refusal e h =
    refused-widen (λ response. TakenAre library.0 ms members (Err response)) (Completed names (Some library) may ms) refusal
    (λ r t. then-ok (library_of library.0 library.1) members (Taking names library.0 may ms) r e (Err r, t, refl)) h

pub taking-prepared : (names : List (List ℕ)) (library : List ℕ × List ℕ) (may : List (List ℕ) → List Object → Response → Type 0) (ms members taken : List Object) (p : Result Job Refusal) → library_of library.0 library.1 ≡ Ok members →
    TakenAre library.0 ms members (Ok taken) → IsPrepared (may (names ++ member_words library.0 taken) (ms ++ taken)) p → IsPrepared (Completed names (Some library) may ms) p
taking-prepared names library may ms members taken p e t h =
    prepared-widen (may (names ++ member_words library.0 taken) (ms ++ taken)) (Completed names (Some library) may ms) p
    (λ r m. then-ok (library_of library.0 library.1) members (Taking names library.0 may ms) r e (Ok taken, t, m)) h

-- a command whose files are read and checked is finished
pub finished : {T : Type 0} (held : T → Option Holding) (reads writes : T → ℕ) (command read : Read) (old mid new : T) (p : Result Job Refusal) (before now : Shown) (ended : Ended) →
    command ≡ read → Prepares held reads writes (asked read) old p mid → EndsBy (IsOf p) (kept (held mid) (writes mid)) before ended.status ended.said (kept (held new) (writes new)) now → reads new ≡ reads mid →
    EndsBy (MayAnswerBy IsFaultDiagnostic held reads (Some (asked command)) old new) (kept (held old) (writes old)) before ended.status ended.said (kept (held new) (writes new)) now
finished held reads writes command read old mid new p before now ended is h ends e =
    subst (λ k. EndsBy (MayAnswerBy IsFaultDiagnostic held reads (Some (asked command)) old new) k before ended.status ended.said (kept (held new) (writes new)) now) (kept-same (held mid) (held old) (writes mid) (writes old) h.only_read.same h.only_read.no_write)
    (Ends-widen (IsOf p) (MayAnswerBy IsFaultDiagnostic held reads (Some (asked command)) old new) (kept (held mid) (writes mid)) before ended.status ended.said (kept (held new) (writes new)) now
    (λ r w. subst (λ c. MayAnswerBy IsFaultDiagnostic held reads (Some (asked c)) old new r) (sym is)
    (subst (λ n. MayAnswer IsFaultDiagnostic (Some (asked read)) (held old) (Rose (reads old) n) r) (sym e) (prepared-of (MayAnswerBy IsFaultDiagnostic held reads (Some (asked read)) old mid) p h.answer r w))) ends)

-- ---- names in two parts

parted : (count : ℕ) (may : List (List ℕ) → List (List ℕ) → Response → Type 0) (texts more : List (List ℕ)) (r : Response) → length texts ≡ count → may texts more r → Parted count may (texts ++ more) r
parted count may texts more r e m =
    subst (λ n. Parted n may (texts ++ more) r) e
    (subst (λ l. may l (drop (length texts) (texts ++ more)) r) (sym (take-append_seam texts more)) (subst (λ l. may texts l r) (sym (drop-append_seam texts more)) m))

-- all names of both parts are read
pub parts-then : (names inputs : List (List ℕ)) (count : ℕ) (may : List (List ℕ) → List (List ℕ) → Response → Type 0) (reported mid : Option Holding) (rose : Type 0) (texts more : List (List ℕ)) (r : Response) →
    mid ≡ reported → length names ≡ count → AreHeld reported names texts → AreHeld mid inputs more → may texts more r → MayThen (names ++ inputs) (Parted count may) reported rose r
parts-then names inputs count may reported mid rose texts more r same e h k m =
    held-then (names ++ inputs) (Parted count may) reported rose (texts ++ more) r (held-both reported mid names inputs texts more same h k) (parted count may texts more r (h.count ∙ e) m)

-- a name of the first part cannot be read
pub first-missed : (names inputs : List (List ℕ)) (may : List (List ℕ) → Response → Type 0) (reported : Option Holding) (rose : Type 0) (refusal : Refusal) → IsRefused (MissedRead reported names rose) refusal → IsRefused (MayThen (names ++ inputs) may reported rose) refusal
first-missed names inputs may reported rose refusal h =
    refused-widen (MissedRead reported names rose) (MayThen (names ++ inputs) may reported rose) refusal (λ r m. missed-then (names ++ inputs) may reported rose r (missed-first reported names inputs rose r m)) h

-- a name of the second part cannot be read
pub second-missed : (names inputs texts : List (List ℕ)) (may : List (List ℕ) → Response → Type 0) (reported mid : Option Holding) (rose later : Type 0) (refusal : Refusal) →
    mid ≡ reported → AreHeld reported names texts → (rose → later) → IsRefused (MissedRead mid inputs rose) refusal → IsRefused (MayThen (names ++ inputs) may reported later) refusal
second-missed names inputs texts may reported mid rose later refusal same held f h =
    refused-widen (MissedRead mid inputs rose) (MayThen (names ++ inputs) may reported later) refusal (λ r m. missed-then (names ++ inputs) may reported later r (missed-second reported mid names inputs texts rose later r same held f m)) h

-- ---- commands of one file

-- a file that cannot be read
pub one-missed : (name : List ℕ) (may : List (List ℕ) → Response → Type 0) (reported : Option Holding) (rose : Type 0) (refusal : Refusal) → IsRefused (MissedOne reported name rose) refusal → IsRefused (MayThen (name ∷ []) may reported rose) refusal
one-missed name may reported rose refusal h = refused-widen (MissedOne reported name rose) (MayThen (name ∷ []) may reported rose) refusal (λ r m. missed-then (name ∷ []) may reported rose r (missed-one reported name rose r m)) h

-- the image of a hex file
pub hex-job : (name bytes text image : List ℕ) (may : List ℕ → Response → Type 0) (reported : Option Holding) (rose : Type 0) (r : Response) → text ≡ bytes → length bytes ≤ 1048576 → Reported reported (λ held. held name ≡ Some bytes) →
    hex_of name text ≡ Ok image → may image r → MayThen (name ∷ []) (OneText (λ text. Then (hex_of name text) may)) reported rose r
hex-job name bytes text image may reported rose r e short one read m =
    one-then name (OneText (λ text. Then (hex_of name text) may)) reported rose bytes r short one (then-ok (hex_of name bytes) image may r (ap (hex_of name) (sym e) ∙ read) m)

-- a hex file with a fault
pub hex-bad : (name bytes text : List ℕ) (may : List ℕ → Response → Type 0) (reported : Option Holding) (rose : Type 0) (refusal : Refusal) → text ≡ bytes → length bytes ≤ 1048576 → Reported reported (λ held. held name ≡ Some bytes) →
    IsRefused (λ response. hex_of name text ≡ Err response) refusal → IsRefused (MayThen (name ∷ []) (OneText (λ text. Then (hex_of name text) may)) reported rose) refusal
hex-bad name bytes text may reported rose refusal e short one h =
    refused-widen (λ response. hex_of name text ≡ Err response) (MayThen (name ∷ []) (OneText (λ text. Then (hex_of name text) may)) reported rose) refusal
    (λ r f. one-then name (OneText (λ text. Then (hex_of name text) may)) reported rose bytes r short one (then-err (hex_of name bytes) may r (ap (hex_of name) (sym e) ∙ f))) h

-- ---- the whole

pub holds-none : (reported : Option Holding) → Holds reported [] []
holds-none None = refl
holds-none (Some held) = refl
