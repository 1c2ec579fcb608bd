-- A script that is carried out.
use Rattle.std.proofs.Common.{◌≡◌, ℕ, false, List, [], ◌∷◌, Result, Ok, Err, ap, ◌∙◌, subst}
use Rattle.kc_base.specs.Causes.{Grew}
use Rattle.kc_extra.proofs.Pairs.{same_pair}
use Rattle.kc_trace.specs.Out.{Out, Puts}
use Rattle.kc_machine_spec.specs.declared.doing.End.{End}
use Rattle.kc_machine_spec.specs.Machine.{Machine}
use Rattle.kc_machine_spec.specs.Run.{end_of}
use Rattle.kc_debug_script.specs.declared.command.Command.{Command}
use Rattle.kc_debug_script.specs.declared.line_map.MapEntry.{MapEntry}
use Rattle.kc_cycles.specs.declared.lives.LivesFault.{LivesFault}
use Rattle.kc_cycles.specs.declared.lives.LivesFault.TheVariants as fault
use Rattle.kc_cycles.specs.Making.{deadline_of}
use Rattle.kc_debug.specs.Transcript.{Debugged, transcript}
use Rattle.kc_debug.specs.InLives.{InLife, end_in, in_lives}
use Rattle.kc_debug.specs.Debugging.{HasAnswered, IsAnswered}
use Rattle.kc_kit_files.specs.declared.status.Status.TheVariants as status
use Rattle.kc_kit_files.specs.declared.ended.Ended.{Ended}
use Rattle.kc_kit_files.specs.declared.ended.Said.TheVariants as said
use Rattle.kc_kit_files.specs.Ended.{EndsBy}
use Rattle.kc_kit_files.specs.Response.{Response}
use Rattle.kc_kit_files.specs.Outside.{Kept, Shown, shown}
use Rattle.kc_kit_inputs.specs.declared.driving.Driving.{Driving}
use Rattle.kc_kit_running.specs.Scripted.{debugged_by, debugged_in_lives, script_response, lives_script_response}
use Rattle.kc_kit_running.specs.Fitted.{FittedUnit, fitted_further, fitted_for}
use Rattle.kc_kit_running.specs.Running.{machine_of, pauses_behind, IsEndOf}
use Rattle.kc_kit_running.specs.Sources.{no_lines}
use Rattle.kc_kit_running.specs.Watched.{WatchedUnit, watched_further, watched_for}
use Rattle.kc_kit_running.proofs.RunLemmas.{any-left, any-map, run-ended, run-failed, run-paused}

-- what stands of a script over the machine and the lines of a session
abbrev pub carried : List MapEntry → List Command → Machine FittedUnit → Debugged FittedUnit
carried lines commands m = transcript fitted_further lines commands m

pub carried-start : (session lines : List MapEntry) (commands : List Command) (m : Machine FittedUnit) (driving : Driving) (image : List ℕ) → session ≡ lines → m ≡ machine_of driving image → carried session commands m ≡ debugged_by lines commands driving image
carried-start session lines commands m driving image e f = ap (λ l. carried l commands m) e ∙ ap (carried lines commands) f

-- with its text whole
pub script-whole : {X : Type 0} (d : Debugged X) (may : Response → Type 0) (files : Kept) (old new : Shown) (how : End) (ended : Ended) → may (script_response d) → how ≡ end_of d.machine → IsEndOf no_lines how ended → Grew old.written d.text new.written →
    EndsBy may files old ended.status ended.said files new
script-whole d may files old new how ended m e said h = run-ended no_lines (end_of d.machine) d.text [] may files old new ended m (subst (λ (w : End). IsEndOf no_lines w ended) e said) h

-- ---- over the lives of a board

-- what is known of lives whose units were made is known of the lives of the board
pub as-debugged : (most : ℕ) (entries : List MapEntry) (commands : List Command) (driving : Driving) (image : List ℕ) (old new : Out) (result : Result End LivesFault) →
    HasAnswered watched_further (fitted_for driving.values driving.stimuli) image driving.stimuli most entries commands old result new → IsAnswered (debugged_in_lives most entries commands driving image) old result new
as-debugged most entries commands driving image old new result h =
    let same : h.unit ≡ watched_for driving.values driving.stimuli = λ i. λ from. same_pair (h.unit from) (watched_for driving.values driving.stimuli from) (h.is_made from).first (h.is_made from).second (h.is_made from).moves i in
    subst (λ (unit : ℕ → WatchedUnit). IsAnswered (in_lives watched_further deadline_of image driving.stimuli unit most entries commands) old result new) same h.answered

module _ {X : Type 0} (l : InLife X) (may : Response → Type 0) (files : Kept) (old new : Out) (ended : Ended) (is : may (lives_script_response l)) where
  -- the transcript is printed whole
  pub debugged-whole : (how : End) → IsAnswered l old (Ok how) new → IsEndOf no_lines how ended → EndsBy may files (shown old.written old.faults) ended.status ended.said files (shown new.written new.faults)
  debugged-whole how h said =
      run-ended no_lines (end_in l) l.text ([] ∷ l.pauses) may files (shown old.written old.faults) (shown new.written new.faults) ended is (subst (λ (w : End). IsEndOf no_lines w ended) h.0 said) (h.1.whole h.2)

  -- the sink fails in it
  pub debugged-part : old.failed ≡ false → IsAnswered l old (Err fault.WriteFault) new → ended.status ≡ status.WriteFault → ended.said ≡ said.Nothing → EndsBy may files (shown old.written old.faults) ended.status ended.said files (shown new.written new.faults)
  debugged-part ready h e f = run-failed (lives_script_response l) may files (shown old.written old.faults) (shown new.written new.faults) ended is e f h.0.part (h.0.cause ready h.1)

  -- memory runs out for a life
  pub debugged-pause : IsAnswered l old (Err fault.NoMemory) new → ended.status ≡ status.NoMemory → EndsBy may files (shown old.written old.faults) ended.status ended.said files (shown new.written new.faults)
  debugged-pause h e =
      run-paused (lives_script_response l) may files (shown old.written old.faults) (shown new.written new.faults) ended is e
      (any-left (λ text. Grew old.written text new.written) ([] ∷ l.pauses) (pauses_behind (end_in l) l.text) (any-map (λ text. Puts old text new) (λ text. Grew old.written text new.written) ([] ∷ l.pauses) (λ text put. put.whole h.1) h.0))
