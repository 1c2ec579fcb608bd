-- A trace that is written as a dump: what its run leads to.
use Rattle.std.specs.Prelude.{codes}
use Rattle.std.proofs.Common.{◌≡◌, inl, inr, ℕ, List, [], ◌∷◌, map, Option, Some, None, Result, Ok, Err, refl, sym, ◌∙◌, ap, subst, arith}
use Rattle.std.specs.Global.{Vec}
use Rattle.kc_base.specs.Held.{Holding}
use Rattle.kc_base.specs.TextLines.{text_lines}
use Rattle.kc_events.specs.declared.line.Line.{Line}
use Rattle.kc_events.specs.declared.lives.LivesFault.{LivesFault}
use Rattle.kc_events.specs.declared.lives.LivesFault.TheVariants.{BadTrace, Failed, NoMemory}
use Rattle.kc_events.specs.Grammar.{start_place, IsRun}
use Rattle.kc_events.specs.Lines.{line_text}
use Rattle.kc_events.specs.Reporting.{IsFirstWrong}
use Rattle.kc_events.proofs.SomeTrace.{some_wrong, some_run}
use Rattle.kc_vcd.specs.Dumped.{IsDumped}
use Rattle.kc_kit_files.specs.declared.refusal.Refusal.{Refusal}
use Rattle.kc_kit_files.specs.Response.{Response, write, done_writing, IsRefused}
use Rattle.kc_kit_files.specs.Reads.{read_response, MissedRead}
use Rattle.kc_kit_files.proofs.ReadLemmas.{refused-widen}
use Rattle.kc_kit_words.specs.declared.inputs.Role.{Role}
use Rattle.kc_kit_words.specs.Commands.{names_of}
use Rattle.kc_kit_inputs.specs.declared.driving.Driving.{Driving}
use Rattle.kc_kit_inputs.specs.Driving.{given_for, driving_of}
use Rattle.kc_kit_inputs.specs.Responses.{unkept_response}
use Rattle.kc_kit_answer.specs.declared.job.Job.{Job}
use Rattle.kc_kit_answer.specs.Checking.{IsDumpJob, MayCheck, IsChecked}
use Rattle.kc_kit_answer.specs.Dump.{dump_for, Dumped, DumpAnswer}
use Rattle.kc_kit_answer.specs.Jobs.{IsPrepared}
use Rattle.kc_kit_answer.proofs.AnswerSteps.{then-ok, then-err, prepared-widen}
use Rattle.kc_kit_answer.proofs.TraceLemmas.{MayTrace, missed-whole, checked-whatever}

-- ---- inputs are read before the trace

pub inputs-missed : (trace : List ℕ) (inputs : List (Role × List ℕ)) (out : List ℕ) (clock : ℕ) (reported : Option Holding) (rose : Type 0) (refusal : Refusal) →
    IsRefused (MissedRead reported (names_of inputs) rose) refusal → IsRefused (MayTrace trace (names_of inputs) (λ printed. DumpAnswer trace inputs out clock printed) reported rose) refusal
inputs-missed trace inputs out clock reported rose refusal h =
    refused-widen (MissedRead reported (names_of inputs) rose) (MayTrace trace (names_of inputs) (λ printed. DumpAnswer trace inputs out clock printed) reported rose) refusal
    (missed-whole trace (names_of inputs) (λ printed. DumpAnswer trace inputs out clock printed) reported rose) h

-- ---- what is answered of the text of a trace

module _ (trace : List ℕ) (inputs : List (Role × List ℕ)) (out : List ℕ) (clock : ℕ) (texts : List (List ℕ)) (driving : Driving) (rose : Type 0) where
  abbrev May : List ℕ → Response → Type 0
  May printed r = MayCheck trace rose (λ printed. DumpAnswer trace inputs out clock printed texts) printed r

  pub driving-wrong : (left : Option (List ℕ)) (refusal : Refusal) → IsRefused (λ response. driving_of (given_for inputs texts) ≡ Err response) refusal → IsChecked left May (Err refusal)
  driving-wrong left refusal h = checked-whatever left May (Err refusal) (λ printed. refused-widen (λ response. driving_of (given_for inputs texts) ≡ Err response) (May printed) refusal
      (λ r e. inl (then-err (driving_of (given_for inputs texts)) (Dumped trace out clock printed) r e)) h)

  run-answer : (printed : List ℕ) (r : Response) → driving_of (given_for inputs texts) ≡ Ok driving → Dumped trace out clock printed driving r → May printed r
  run-answer printed r e h = inl (then-ok (driving_of (given_for inputs texts)) driving (Dumped trace out clock printed) r e h)

  dump-answer : (printed dump : List ℕ) (lines : List Line) → driving_of (given_for inputs texts) ≡ Ok driving → text_lines printed ≡ map line_text lines → IsRun (start_place 0) lines → dump ≡ dump_for clock driving lines →
      (r : Response) → r ≡ done_writing (write out dump ∷ []) → May printed r
  dump-answer printed dump lines e spelled run is r same =
      run-answer printed r e (Ok lines, record { spelled = spelled; run = run }, same ∙ ap (λ d. done_writing (write out d ∷ [])) is)

  wrong-answer : (printed : List ℕ) (line : ℕ) → driving_of (given_for inputs texts) ≡ Ok driving → IsFirstWrong (start_place 0) printed 0 line → (r : Response) → r ≡ unkept_response trace line (codes "BADTRACE") → May printed r
  wrong-answer printed line e wrong r is = run-answer printed r e (Err (unkept_response trace line (codes "BADTRACE")), (line, wrong, refl), is)

  -- what the run of a trace leads to
  pub run-dumped : (left : Option (List ℕ)) (result : Result (Vec ℕ) LivesFault) (given : Result Job Refusal) → driving_of (given_for inputs texts) ≡ Ok driving →
      IsDumped clock driving.stimuli driving.values left result → (result ≡ Err Failed → rose) → IsDumpJob trace out result given → IsChecked left May given
  run-dumped (Some printed) (Ok dump) given e h failed is =
      prepared-widen (λ response. response ≡ done_writing (write out dump.items ∷ [])) (May printed) given (dump-answer printed dump.items h.lines e h.text h.run h.is) is
  run-dumped None (Ok dump) given e h failed is =
      let some = some_run h.lines h.run in
      (some.0, prepared-widen (λ response. response ≡ done_writing (write out dump.items ∷ [])) (May some.0) given (dump-answer some.0 dump.items h.lines e some.1 h.run h.is) is)
  run-dumped (Some printed) (Err (BadTrace line)) given e h failed is =
      prepared-widen (λ response. response ≡ unkept_response trace line (codes "BADTRACE")) (May printed) given (wrong-answer printed line e h) is
  run-dumped None (Err (BadTrace line)) given e h failed is =
      let some = some_wrong line (omega (arith, h.0)) h.1 in
      (some.0, prepared-widen (λ response. response ≡ unkept_response trace line (codes "BADTRACE")) (May some.0) given (wrong-answer some.0 line e some.1) is)
  run-dumped left (Err Failed) given e h failed is =
      checked-whatever left May given (λ printed. prepared-widen (λ response. response ≡ read_response trace) (May printed) given (λ r m. inr (failed refl, m)) is)
  run-dumped left (Err NoMemory) given e h failed is = checked-whatever left May given (λ printed. subst (λ g. IsPrepared (May printed) g) (sym is) tt)
