-- The response of a run of several lives.
use Rattle.std.proofs.Common.{◌≡◌, ℕ, false, List, length, map, Result, Ok, Err, subst, arith}
use Rattle.std.specs.List.{range_with_len}
use Rattle.std.proofs.lemmas.List.FromFn.{length-map-range_with_len, get_or-map-range_with_len}
use Rattle.kc_base.specs.Causes.{Grew}
use Rattle.kc_extra.proofs.Pairs.{same_pair}
use Rattle.kc_trace.specs.Out.{Out}
use Rattle.kc_machine_spec.specs.declared.doing.End.{End}
use Rattle.kc_cycles.specs.declared.lives.LivesFault.{LivesFault}
use Rattle.kc_cycles.specs.declared.lives.LivesFault.TheVariants as fault
use Rattle.kc_cycles.specs.Life.{Life}
use Rattle.kc_cycles.specs.Lives.{lives_of, lives_text, last_end, text_before, AreReported}
use Rattle.kc_cycles.specs.Making.{deadline_of, Lived}
use Rattle.kc_kit_files.specs.declared.status.Status.TheVariants as status
use Rattle.kc_kit_files.specs.declared.ended.Ended.{Ended}
use Rattle.kc_kit_files.specs.declared.ended.Said.TheVariants as said
use Rattle.kc_kit_files.specs.Ended.{EndsBy}
use Rattle.kc_kit_files.specs.Response.{Response}
use Rattle.kc_kit_files.specs.Outside.{Kept, shown}
use Rattle.kc_kit_inputs.specs.declared.driving.Driving.{Driving}
use Rattle.kc_kit_running.specs.Fitted.{fitted_for}
use Rattle.kc_kit_running.specs.Lives.{board_lives, lives_response}
use Rattle.kc_kit_running.specs.Running.{pauses_behind, IsEndOf}
use Rattle.kc_kit_running.specs.Sources.{FileLines}
use Rattle.kc_kit_running.specs.Watched.{WatchedUnit, watched_further, watched_for}
use Rattle.kc_kit_running.proofs.RunLemmas.{any-left, run-ended, run-failed, run-paused}

-- what is known of lives whose units were made is known of the lives of the board
pub as-watched : (most states : ℕ) (driving : Driving) (image : List ℕ) (old new : Out) (s t : ℕ) (result : Result End LivesFault) →
    Lived watched_further (fitted_for driving.values driving.stimuli) image driving.stimuli states most old s result new t → AreReported (board_lives most states driving image) old result new
as-watched most states driving image old new s t result h =
    let same : h.unit ≡ watched_for driving.values driving.stimuli = λ i. λ from. same_pair (h.unit from) (watched_for driving.values driving.stimuli from) (h.is_made from).first (h.is_made from).second (h.is_made from).moves i in
    subst (λ (unit : ℕ → WatchedUnit). AreReported (lives_of watched_further deadline_of image driving.stimuli unit states most) old result new) same h.reported

module _ {X : Type 0} (lines : FileLines) (lives : List (Life X)) (may : Response → Type 0) (files : Kept) (old new : Out) (ended : Ended) (is : may (lives_response lines lives)) where
  -- the text is printed whole
  pub lives-whole : (how : End) → AreReported lives old (Ok how) new → IsEndOf lines how ended → EndsBy may files (shown old.written old.faults) ended.status ended.said files (shown new.written new.faults)
  lives-whole how h said =
      run-ended lines (last_end lives) (lives_text lives) (map (λ n. text_before n lives) (range_with_len 0 (length lives))) may files (shown old.written old.faults) (shown new.written new.faults) ended is
      (subst (λ (w : End). IsEndOf lines w ended) h.0 said) (h.1.whole h.2)

  -- the sink fails in it
  pub lives-part : old.failed ≡ false → AreReported lives old (Err fault.WriteFault) new → ended.status ≡ status.WriteFault → ended.said ≡ said.Nothing → EndsBy may files (shown old.written old.faults) ended.status ended.said files (shown new.written new.faults)
  lives-part ready h e f = run-failed (lives_response lines lives) may files (shown old.written old.faults) (shown new.written new.faults) ended is e f h.0.part (h.0.cause ready h.1)

  -- memory runs out for a life
  pub lives-pause : AreReported lives old (Err fault.NoMemory) new → ended.status ≡ status.NoMemory → EndsBy may files (shown old.written old.faults) ended.status ended.said files (shown new.written new.faults)
  lives-pause h e =
      let prefix : ℕ → List ℕ = λ n. text_before n lives in
      let pauses = map prefix (range_with_len 0 (length lives)) in
      let there = get_or-map-range_with_len prefix 0 (length lives) h.0 h.0 (prefix h.0) h.1 (omega arith) in
      run-paused (lives_response lines lives) may files (shown old.written old.faults) (shown new.written new.faults) ended is e
      (any-left (λ text. Grew old.written text new.written) pauses (pauses_behind (last_end lives) (lives_text lives)) (h.0, prefix h.0, omega (arith, h.1, length-map-range_with_len prefix 0 (length lives)), there, h.2.whole h.3))
