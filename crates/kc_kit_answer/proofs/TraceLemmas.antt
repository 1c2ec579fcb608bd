-- A trace that is read last: the files before it, and what may be answered of what its name holds.
use Rattle.std.specs.Prelude.{length, drop}
use Rattle.std.proofs.Common.{◌≡◌, ◌≢◌, ◌⊎◌, inl, inr, ℕ, ◌+◌, ◌<◌, ◌≤◌, List, [], ◌∷◌, ◌++◌, map, Option, Some, None, Result, Ok, Err, refl, sym, ◌∙◌, ap, subst, arith}
use Rattle.std.specs.Result.{IsOk}
use Rattle.std.proofs.Math.Seq.{drop-append_seam}
use Rattle.std.proofs.lemmas.List.{length-append, length-map}
use Rattle.kc_base.specs.Held.{Holding, Reported}
use Rattle.kc_base.specs.declared.files.FileFault.{FileFault}
use Rattle.kc_base.specs.declared.files.FileFault.TheVariants as fault
use Rattle.kc_base.specs.Causes.{Rose}
use Rattle.kc_events.specs.declared.lives.LivesFault.{LivesFault}
use Rattle.kc_events.specs.declared.lives.LivesFault.TheVariants.{Failed}
use Rattle.kc_kit_files.specs.declared.refusal.Refusal.{Refusal}
use Rattle.kc_kit_files.specs.Response.{Response, before, Then, IsRefused}
use Rattle.kc_kit_files.specs.Reads.{reads_of, text_of, missing_response, read_response, FailedRead, Holds, MissedRead, AllShort, AreHeld, IsUnread}
use Rattle.kc_kit_files.proofs.ReadLemmas.{refused-widen, read-short}
use Rattle.kc_kit_answer.specs.declared.job.Job.{Job}
use Rattle.kc_kit_answer.specs.Check.{TraceThen}
use Rattle.kc_kit_answer.specs.Checking.{MayCheck, IsChecked}
use Rattle.kc_kit_answer.specs.Jobs.{IsPrepared}
use Rattle.kc_kit_answer.proofs.AnswerSteps.{then-ok, then-err, prepared-widen}

-- ---- files that are read before the trace

reads-more : (names texts : List (List ℕ)) (rest : List (Option (List ℕ))) → length texts ≡ length names → AllShort texts → reads_of names (map Some texts ++ rest) ≡ Ok texts
reads-more [] [] [] e short = refl
reads-more [] [] (r ∷ rest) e short = refl
reads-more [] (t ∷ ts) rest e short = absurd (omega (arith, e))
reads-more (n ∷ ns) [] rest e short = absurd (omega (arith, e))
reads-more (n ∷ ns) (t ∷ ts) rest e short = rw (read-short n t short.0) (ap (before t) (reads-more ns ts rest (omega (arith, e)) short.1))

reads-same : (names : List (List ℕ)) (contents rest : List (Option (List ℕ))) → length contents ≡ length names → reads_of names (contents ++ rest) ≡ reads_of names contents
reads-same [] [] [] e = refl
reads-same [] [] (r ∷ rest) e = refl
reads-same [] (c ∷ contents) rest e = absurd (omega (arith, e))
reads-same (n ∷ ns) [] rest e = absurd (omega (arith, e))
reads-same (n ∷ ns) (c ∷ contents) rest e = rw (reads-same ns contents rest (omega (arith, e))) refl

failed-more : (names others : List (List ℕ)) (contents rest : List (Option (List ℕ))) (rose : Type 0) (r : Response) → FailedRead names contents rose r → FailedRead (names ++ others) (contents ++ rest) rose r
failed-more [] others contents rest rose r h = absurd h
failed-more (n ∷ ns) others [] rest rose r h = absurd h
failed-more (n ∷ ns) others (c ∷ contents) rest rose r (inl h) = inl h
failed-more (n ∷ ns) others (c ∷ contents) rest rose r (inr h) = inr (h.0, failed-more ns others contents rest rose r h.1)

failed-last : (names texts : List (List ℕ)) (trace : List ℕ) (content : Option (List ℕ)) (rose : Type 0) (r : Response) →
    length texts ≡ length names → AllShort texts → rose → r ≡ read_response trace → FailedRead (names ++ trace ∷ []) (map Some texts ++ content ∷ []) rose r
failed-last [] [] trace content rose r e short g h = inl (g, h)
failed-last [] (t ∷ ts) trace content rose r e short g h = absurd (omega (arith, e))
failed-last (n ∷ ns) [] trace content rose r e short g h = absurd (omega (arith, e))
failed-last (n ∷ ns) (t ∷ ts) trace content rose r e short g h =
    inr (subst (λ o. IsOk o) (sym (read-short n t short.0)) refl, failed-last ns ts trace content rose r (omega (arith, e)) short.1 g h)

-- ---- what the names hold

map-append : {A B : Type 0} (f : A → B) (xs ys : List A) → map f (xs ++ ys) ≡ map f xs ++ map f ys
map-append f [] ys = refl
map-append f (x ∷ xs) ys = ap (λ l. f x ∷ l) (map-append f xs ys)

holds-last : (reported : Option Holding) (names texts : List (List ℕ)) (trace : List ℕ) (content : Option (List ℕ)) →
    AreHeld reported names texts → Reported reported (λ held. held trace ≡ content) → Holds reported (names ++ trace ∷ []) (map Some texts ++ content ∷ [])
holds-last None names texts trace content h one =
    length-append (map Some texts) (content ∷ []) ∙ ap (λ n. n + 1) (length-map texts Some ∙ h.count) ∙ sym (length-append names (trace ∷ []))
holds-last (Some held) names texts trace content h one =
    sym (map-append held names (trace ∷ []) ∙ ap (λ l. l ++ held trace ∷ []) h.held ∙ ap (λ c. map Some texts ++ c ∷ []) one)

-- what a name holds, where that is reported
abbrev content_of : Option Holding → List ℕ → Option (List ℕ)
content_of None name = None
content_of (Some held) name = held name

holds-missed : (reported : Option Holding) (names : List (List ℕ)) (trace : List ℕ) (contents : List (Option (List ℕ))) →
    Holds reported names contents → Holds reported (names ++ trace ∷ []) (contents ++ content_of reported trace ∷ [])
holds-missed None names trace contents h = length-append contents (None ∷ []) ∙ ap (λ n. n + 1) h ∙ sym (length-append names (trace ∷ []))
holds-missed (Some held) names trace contents h = ap (λ l. l ++ held trace ∷ []) h ∙ sym (map-append held names (trace ∷ []))

holds-count : (reported : Option Holding) (names : List (List ℕ)) (contents : List (Option (List ℕ))) → Holds reported names contents → length contents ≡ length names
holds-count None names contents h = h
holds-count (Some held) names contents h = ap length h ∙ length-map names held

-- a file that could not be opened
abbrev pub failed-open : {S : Type 0} → FileFault → Result S FileFault
failed-open why = Err why

-- a source that counts no fault before its reads counts one where a read has failed
pub counts-failed : {A : Type 0} (before now : ℕ) (result : Result A LivesFault) → (result ≡ Err Failed → Rose before now) → before ≡ 0 → result ≡ Err Failed → 0 < now
counts-failed before now result h calm e = let rose : 1 ≤ now = subst (λ n. Rose n now) calm (h e) in omega (arith, rose)

-- ---- what may be answered where these names are read whole and a trace comes behind them

module _ (trace : List ℕ) (whole : List (List ℕ)) (answer : List ℕ → List (List ℕ) → Response → Type 0) where
  abbrev answered-by : List (Option (List ℕ)) → List (List ℕ) → Response → Type 0
  answered-by contents texts = TraceThen trace (λ printed. answer printed texts) (drop (length whole) contents)

  abbrev pub MayTrace : Option Holding → Type 0 → Response → Type 0
  MayTrace reported rose r =
      (contents : List (Option (List ℕ))) × Holds reported (whole ++ trace ∷ []) contents × (Then (reads_of whole contents) (answered-by contents) r ⊎ FailedRead (whole ++ trace ∷ []) contents rose r)

  -- one of the names cannot be read
  pub missed-whole : (reported : Option Holding) (rose : Type 0) (r : Response) → MissedRead reported whole rose r → MayTrace reported rose r
  missed-whole reported rose r (contents, holds, inl e) =
      let rest = content_of reported trace ∷ [] in
      let same = reads-same whole contents rest (holds-count reported whole contents holds) in
      (contents ++ rest, holds-missed reported whole trace contents holds, inl (then-err (reads_of whole (contents ++ rest)) (answered-by (contents ++ rest)) r (same ∙ e)))
  missed-whole reported rose r (contents, holds, inr h) =
      (contents ++ content_of reported trace ∷ [], holds-missed reported whole trace contents holds, inr (failed-more whole (trace ∷ []) contents (content_of reported trace ∷ []) rose r h))

  -- all of them are read, and the trace holds this
  read-then : (reported : Option Holding) (rose : Type 0) (texts : List (List ℕ)) (content : Option (List ℕ)) (r : Response) → AreHeld reported whole texts → Reported reported (λ held. held trace ≡ content) →
      Then (text_of trace content) (λ printed. answer printed texts) r → MayTrace reported rose r
  read-then reported rose texts content r h one m =
      let contents = map Some texts ++ content ∷ [] in
      let count : length (map Some texts) ≡ length whole = length-map texts Some ∙ h.count in
      let last : drop (length whole) contents ≡ content ∷ [] = subst (λ n. drop n contents ≡ content ∷ []) count (drop-append_seam (map Some texts) (content ∷ [])) in (
        contents,
        holds-last reported whole texts trace content h one,
        inl (then-ok (reads_of whole contents) texts (answered-by contents) r (reads-more whole texts (content ∷ []) h.count h.short)
            (subst (λ (l : List (Option (List ℕ))). TraceThen trace (λ printed. answer printed texts) l r) (sym last) m)),
      )

  read-failed : (reported : Option Holding) (rose : Type 0) (texts : List (List ℕ)) (content : Option (List ℕ)) (r : Response) → AreHeld reported whole texts → Reported reported (λ held. held trace ≡ content) →
      rose → r ≡ read_response trace → MayTrace reported rose r
  read-failed reported rose texts content r h one g e =
      (map Some texts ++ content ∷ [], holds-last reported whole texts trace content h one, inr (failed-last whole texts trace content rose r h.count h.short g e))

  held-content : (reported : Option Holding) → Reported reported (λ held. held trace ≡ content_of reported trace)
  held-content None = tt
  held-content (Some held) = refl

  -- the trace cannot be opened
  pub trace-unread : (reported : Option Holding) (rose : Type 0) (texts : List (List ℕ)) (why : FileFault) (refusal : Refusal) → AreHeld reported whole texts →
      Reported reported (λ held. why ≡ fault.Missing → held trace ≡ None) → why ≢ fault.TooLong → (why ≡ fault.Failed → rose) → IsRefused (IsUnread trace why) refusal → IsRefused (MayTrace reported rose) refusal
  trace-unread reported rose texts why refusal h none short failed refused = refused-widen (IsUnread trace why) (MayTrace reported rose) refusal (λ r u. by why none short failed r u) refused
    where
      gone : (reported : Option Holding) → AreHeld reported whole texts → Reported reported (λ held. held trace ≡ None) → (r : Response) → r ≡ missing_response trace → MayTrace reported rose r
      gone reported h one r e = read-then reported rose texts None r h one e

      of-missing : (reported : Option Holding) → Reported reported (λ held. fault.Missing ≡ fault.Missing → held trace ≡ None) → Reported reported (λ held. held trace ≡ None)
      of-missing None k = tt
      of-missing (Some held) k = k refl

      by : (why : FileFault) → Reported reported (λ held. why ≡ fault.Missing → held trace ≡ None) → why ≢ fault.TooLong → (why ≡ fault.Failed → rose) → (r : Response) → IsUnread trace why r → MayTrace reported rose r
      by fault.Missing none short failed r u = gone reported h (of-missing reported none) r u
      by fault.TooLong none short failed r u = absurd (short refl)
      by fault.Failed none short failed r u = read-failed reported rose texts (content_of reported trace) r h (held-content reported) (failed refl) u
      by fault.NoMemory none short failed r u = absurd u

  -- the same by what opening it reports, where the files stayed since the names were read
  pub trace-missed : {S : Type 0} (reported mid : Option Holding) (rose later : Type 0) (texts : List (List ℕ)) (why : FileFault) (refusal : Refusal) → AreHeld reported whole texts → mid ≡ reported → (rose → later) →
      Reported mid (λ held. failed-open {S = S} why ≡ Err fault.Missing → held trace ≡ None) → failed-open {S = S} why ≢ Err fault.TooLong → (failed-open {S = S} why ≡ Err fault.Failed → rose) →
      IsRefused (IsUnread trace why) refusal → IsRefused (MayTrace reported later) refusal
  trace-missed {S = S} reported mid rose later texts why refusal h same f none short failed refused =
      trace-unread reported later texts why refusal h (subst (λ r. Reported r (λ held. why ≡ fault.Missing → held trace ≡ None)) same (missing mid none)) (λ e. short (ap Err e)) (λ e. f (failed (ap Err e))) refused
    where
      missing : (mid : Option Holding) → Reported mid (λ held. failed-open {S = S} why ≡ Err fault.Missing → held trace ≡ None) → Reported mid (λ held. why ≡ fault.Missing → held trace ≡ None)
      missing None none = tt
      missing (Some held) none = λ e. none (ap Err e)

  -- the trace is open, and this is answered by its text
  pub trace-open : (reported : Option Holding) (rose later : Type 0) (texts : List (List ℕ)) (left : Option (List ℕ)) (given : Result Job Refusal) → AreHeld reported whole texts → (rose → later) →
      Reported reported (λ held. (held trace ≢ None) × (left ≡ held trace)) → IsChecked left (MayCheck trace rose (λ printed. answer printed texts)) given → IsPrepared (MayTrace reported later) given
  trace-open reported rose later texts left given h f opened checked = by reported h opened left refl checked
    where
      may : List ℕ → Response → Type 0
      may printed r = MayCheck trace rose (λ printed. answer printed texts) printed r

      answered : (reported : Option Holding) → AreHeld reported whole texts → (printed : List ℕ) → Reported reported (λ held. held trace ≡ Some printed) → (r : Response) → may printed r → MayTrace reported later r
      answered reported h printed one r (inl m) = read-then reported later texts (Some printed) r h one m
      answered reported h printed one r (inr k) = read-failed reported later texts (Some printed) r h one (f k.0) k.1

      by : (reported : Option Holding) → AreHeld reported whole texts → Reported reported (λ held. (held trace ≢ None) × (left ≡ held trace)) → (l : Option (List ℕ)) → left ≡ l → IsChecked l may given → IsPrepared (MayTrace reported later) given
      by None h opened (Some printed) e k = prepared-widen (may printed) (MayTrace None later) given (answered None h printed tt) k
      by None h opened None e k = prepared-widen (may k.0) (MayTrace None later) given (answered None h k.0 tt) k.1
      by (Some held) h opened (Some printed) e k = prepared-widen (may printed) (MayTrace (Some held) later) given (answered (Some held) h printed (sym opened.1 ∙ e)) k
      by (Some held) h opened None e k = absurd (opened.0 (sym opened.1 ∙ e))

-- what is answered does not depend on the text of the trace
pub checked-whatever : (left : Option (List ℕ)) (may : List ℕ → Response → Type 0) (given : Result Job Refusal) → ((printed : List ℕ) → IsPrepared (may printed) given) → IsChecked left may given
checked-whatever None may given f = ([], f [])
checked-whatever (Some printed) may given f = f printed
