-- A trace that is checked by rules: what its run leads to.
use Rattle.std.specs.Prelude.{codes, length}
use Rattle.std.proofs.Common.{◌≡◌, inl, inr, ℕ, ◌≤◌, List, [], ◌∷◌, map, Option, Some, None, Result, Ok, Err, refl, sym, ◌∙◌, ap, subst, arith}
use Rattle.kc_base.specs.Held.{Holding, Reported}
use Rattle.kc_base.specs.Limits.{file_limit}
use Rattle.kc_base.specs.TextLines.{text_lines}
use Rattle.kc_stim.specs.Drives.{Drives}
use Rattle.kc_rules.specs.declared.rule.Rule.{Rule}
use Rattle.kc_rules.specs.Lines.{Book}
use Rattle.kc_events.specs.declared.line.Line.{Line}
use Rattle.kc_events.specs.declared.lives.LivesFault.{LivesFault}
use Rattle.kc_events.specs.declared.lives.LivesFault.TheVariants.{BadTrace, Failed, NoMemory}
use Rattle.kc_events.specs.Grammar.{start_place, IsRun}
use Rattle.kc_events.specs.Lines.{line_text}
use Rattle.kc_events.specs.Lives.{lives_of}
use Rattle.kc_events.specs.Reporting.{IsFirstWrong}
use Rattle.kc_events.proofs.SomeTrace.{some_wrong, some_run}
use Rattle.kc_kit_files.specs.declared.refusal.Refusal.{Refusal}
use Rattle.kc_kit_files.specs.Response.{Response, reports, Then, IsRefused}
use Rattle.kc_kit_files.specs.Reads.{read_response, MissedRead, MissedOne, AreHeld}
use Rattle.kc_kit_files.proofs.ReadLemmas.{refused-widen, held-both, held-one, missed-one, missed-first, missed-second}
use Rattle.kc_kit_words.specs.declared.inputs.Role.{Role}
use Rattle.kc_kit_words.specs.Commands.{names_of, names_whole}
use Rattle.kc_kit_inputs.specs.Driving.{given_for}
use Rattle.kc_kit_inputs.specs.Responses.{unkept_response}
use Rattle.kc_kit_inputs.specs.Rules.{rules_of}
use Rattle.kc_kit_inputs.specs.Stimuli.{drives_of}
use Rattle.kc_kit_verdict.specs.declared.verdict.Verdict.{Verdict}
use Rattle.kc_kit_verdict.specs.Runs.{count_lives, broken_in, status_by, verdict_response}
use Rattle.kc_kit_verdict.specs.Verdicts as verdicts
use Rattle.kc_kit_verdict.specs.Verdicts.{is_any, IsVerdictOf}
use Rattle.kc_kit_answer.specs.declared.job.Job.{Job}
use Rattle.kc_kit_answer.specs.declared.job.Job.TheVariants as job
use Rattle.kc_kit_answer.specs.Check.{Checked, CheckAnswer, CheckTexts}
use Rattle.kc_kit_answer.specs.Checking.{IsVerdictJob, MayCheck, IsChecked}
use Rattle.kc_kit_answer.specs.Jobs.{does, status_of, IsPrepared}
use Rattle.kc_kit_answer.proofs.AnswerSteps.{then-ok, then-err, prepared-widen}
use Rattle.kc_kit_answer.proofs.TraceLemmas.{MayTrace, missed-whole, checked-whatever}

-- ---- rules and inputs are read before the trace

module _ (trace rules : List ℕ) (inputs : List (Role × List ℕ)) (clock : ℕ) where
  abbrev whole : List (List ℕ)
  whole = names_whole rules inputs

  abbrev MayBe : Option Holding → Type 0 → Response → Type 0
  MayBe = MayTrace trace whole (λ printed. CheckTexts trace rules inputs clock printed)

  missed : (reported : Option Holding) (rose : Type 0) (r : Response) → MissedRead reported whole rose r → MayBe reported rose r
  missed = missed-whole trace whole (λ printed. CheckTexts trace rules inputs clock printed)

  pub rules-missed : (reported : Option Holding) (rose : Type 0) (refusal : Refusal) → IsRefused (MissedOne reported rules rose) refusal → IsRefused (MayBe reported rose) refusal
  rules-missed reported rose refusal h =
      refused-widen (MissedOne reported rules rose) (MayBe reported rose) refusal (λ r m. missed reported rose r (missed-first reported (rules ∷ []) (names_of inputs) rose r (missed-one reported rules rose r m))) h

  pub inputs-missed : (reported mid : Option Holding) (text : List ℕ) (rose later : Type 0) (refusal : Refusal) → mid ≡ reported → length text ≤ file_limit → Reported reported (λ held. held rules ≡ Some text) → (rose → later) →
      IsRefused (MissedRead mid (names_of inputs) rose) refusal → IsRefused (MayBe reported later) refusal
  inputs-missed reported mid text rose later refusal same short one f h =
      refused-widen (MissedRead mid (names_of inputs) rose) (MayBe reported later) refusal
      (λ r m. missed reported later r (missed-second reported mid (rules ∷ []) (names_of inputs) (text ∷ []) rose later r same (held-one reported rules text short one) f m)) h

  pub held-whole : (reported mid : Option Holding) (text : List ℕ) (more : List (List ℕ)) → mid ≡ reported → length text ≤ file_limit → Reported reported (λ held. held rules ≡ Some text) → AreHeld mid (names_of inputs) more → AreHeld reported whole (text ∷ more)
  held-whole reported mid text more same short one h = held-both reported mid (rules ∷ []) (names_of inputs) (text ∷ []) more same (held-one reported rules text short one) h

-- ---- what is answered of the text of a trace

-- the status of a verdict
status-any : (broken : List Rule) → status_of (is_any broken) ≡ status_by broken
status-any [] = refl
status-any (rule ∷ rules) = refl

module _ (trace rules : List ℕ) (inputs : List (Role × List ℕ)) (clock : ℕ) (text : List ℕ) (more : List (List ℕ)) (book : Book) (drives : Drives) (rose : Type 0) where
  abbrev May : List ℕ → Response → Type 0
  May printed r = MayCheck trace rose (λ printed. CheckAnswer trace rules inputs clock printed text more) printed r

  pub rules-wrong : (left : Option (List ℕ)) (refusal : Refusal) → IsRefused (λ response. rules_of rules clock text ≡ Err response) refusal → IsChecked left May (Err refusal)
  rules-wrong left refusal h = checked-whatever left May (Err refusal) (λ printed. refused-widen (λ response. rules_of rules clock text ≡ Err response) (May printed) refusal
      (λ r e. inl (then-err (rules_of rules clock text) (λ book. Then (drives_of (given_for inputs more).stimuli) (Checked trace printed rules text book)) r e)) h)

  stimuli-answer : (printed : List ℕ) (r : Response) → rules_of rules clock text ≡ Ok book → Then (drives_of (given_for inputs more).stimuli) (Checked trace printed rules text book) r → CheckAnswer trace rules inputs clock printed text more r
  stimuli-answer printed r e k = then-ok (rules_of rules clock text) book (λ book. Then (drives_of (given_for inputs more).stimuli) (Checked trace printed rules text book)) r e k

  pub stimuli-wrong : (left : Option (List ℕ)) (refusal : Refusal) → rules_of rules clock text ≡ Ok book → IsRefused (λ response. drives_of (given_for inputs more).stimuli ≡ Err response) refusal → IsChecked left May (Err refusal)
  stimuli-wrong left refusal e h = checked-whatever left May (Err refusal) (λ printed. refused-widen (λ response. drives_of (given_for inputs more).stimuli ≡ Err response) (May printed) refusal
      (λ r k. inl (stimuli-answer printed r e (then-err (drives_of (given_for inputs more).stimuli) (Checked trace printed rules text book) r k))) h)

  run-answer : (printed : List ℕ) (r : Response) → rules_of rules clock text ≡ Ok book → drives_of (given_for inputs more).stimuli ≡ Ok drives → Checked trace printed rules text book drives r → May printed r
  run-answer printed r e k h = inl (stimuli-answer printed r e (then-ok (drives_of (given_for inputs more).stimuli) drives (Checked trace printed rules text book) r k h))

  -- a verdict
  verdict-answer : (printed : List ℕ) (lines : List Line) (verdict : Verdict) → rules_of rules clock text ≡ Ok book → drives_of (given_for inputs more).stimuli ≡ Ok drives → text_lines printed ≡ map line_text lines → IsRun (start_place 0) lines →
      IsVerdictOf rules text book drives lines verdict → May printed (does (job.Report verdict))
  verdict-answer printed lines verdict e k spelled run is =
      let broken = broken_in book (lives_of drives lines) in
      let same : status_of verdict.is_broken ≡ status_by broken = ap status_of is.broken ∙ status-any broken in
      let all : does (job.Report verdict) ≡ verdict_response rules text book (count_lives lines) (lives_of drives lines) = λ i. reports (same i) (is.printed i) (is.said i) in
      run-answer printed (does (job.Report verdict)) e k (Ok lines, record { spelled = spelled; run = run }, all)

  wrong-answer : (printed : List ℕ) (line : ℕ) → rules_of rules clock text ≡ Ok book → drives_of (given_for inputs more).stimuli ≡ Ok drives → IsFirstWrong (start_place 0) printed 0 line → (r : Response) → r ≡ unkept_response trace line (codes "BADTRACE") → May printed r
  wrong-answer printed line e k wrong r is = run-answer printed r e k (Err (unkept_response trace line (codes "BADTRACE")), (line, wrong, refl), is)

  -- what the run of a trace leads to
  pub run-checked : (left : Option (List ℕ)) (result : Result Verdict LivesFault) (given : Result Job Refusal) → rules_of rules clock text ≡ Ok book → drives_of (given_for inputs more).stimuli ≡ Ok drives →
      verdicts.IsChecked rules text book drives left result → (result ≡ Err Failed → rose) → IsVerdictJob trace result given → IsChecked left May given
  run-checked (Some printed) (Ok verdict) given e k h failed is =
      subst (λ g. IsPrepared (May printed) g) (sym is) (verdict-answer printed h.lines verdict e k h.text h.run h.is, tt)
  run-checked None (Ok verdict) given e k h failed is =
      let some = some_run h.lines h.run in
      (some.0, subst (λ g. IsPrepared (May some.0) g) (sym is) (verdict-answer some.0 h.lines verdict e k some.1 h.run h.is, tt))
  run-checked (Some printed) (Err (BadTrace line)) given e k h failed is =
      prepared-widen (λ response. response ≡ unkept_response trace line (codes "BADTRACE")) (May printed) given (wrong-answer printed line e k h) is
  run-checked None (Err (BadTrace line)) given e k h failed is =
      let some = some_wrong line (omega (arith, h.0)) h.1 in
      (some.0, prepared-widen (λ response. response ≡ unkept_response trace line (codes "BADTRACE")) (May some.0) given (wrong-answer some.0 line e k some.1) is)
  run-checked left (Err Failed) given e k h failed is =
      checked-whatever left May given (λ printed. prepared-widen (λ response. response ≡ read_response trace) (May printed) given (λ r m. inr (failed refl, m)) is)
  run-checked left (Err NoMemory) given e k h failed is = checked-whatever left May given (λ printed. subst (λ g. IsPrepared (May printed) g) (sym is) tt)
